-- A table and a column that were found by name, as the definitions name them.
use Rattle.std.specs.Prelude.{Result, Ok, Err}
use Rattle.cell_base.specs.declared.sql_state.SqlState.{SqlState}
use Rattle.typing_rules.specs.Outcome.{Outcome}
use Rattle.typing_rules.specs.Tables.{Numbered, Target}
use Rattle.typing_parts.specs.declared.tables.TableAt.{TableAt}
use Rattle.typing_parts.specs.declared.tables.ColumnAt.{ColumnAt}

abbrev pub numbered : TableAt → Numbered
numbered t = record { number = t.number; table = t.table.now }

abbrev pub numbered_or : Result TableAt SqlState → Outcome Numbered
numbered_or (Ok t) = Ok (numbered t)
numbered_or (Err code) = Err code

abbrev pub target : ColumnAt → Target
target c = record { number = c.number; column = c.column.now }

abbrev pub target_or : Result ColumnAt SqlState → Outcome Target
target_or (Ok c) = Ok (target c)
target_or (Err code) = Err code
