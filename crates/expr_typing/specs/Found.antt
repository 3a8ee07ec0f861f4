-- A column that was found, as the definitions name it.
use Rattle.std.specs.Prelude.{Result, Ok, Err}
use Rattle.cell_base.specs.declared.sql_state.SqlState.{SqlState}
use Rattle.expr_typing.specs.declared.names.Found.{Found}
use Rattle.typing_rules.specs.Outcome.{Outcome}
use Rattle.typing_rules.specs.Names.{Found as Column}

abbrev pub found_of : Found → Column
found_of f = record { entry = f.entry; column = f.column; kind = f.kind }

abbrev pub found_or : Result Found SqlState → Outcome Column
found_or (Ok f) = Ok (found_of f)
found_or (Err code) = Err code
