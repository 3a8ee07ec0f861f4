-- A result is null or of the expression's type.
use Rattle.std.specs.Prelude.{◌≡◌, true, Ok, Err, ⊤}
use Rattle.cell_base.specs.declared.sql_type.SqlType.{SqlType}
use Rattle.typing_rules.specs.Kinds.{is_null_or_of}
use Rattle.expr_eval.specs.Operators.{Outcome}

-- a code, or null, or a value of the type
abbrev pub IsTyped : SqlType → Outcome → Type 0
IsTyped kind (Ok v) = is_null_or_of kind v ≡ true
IsTyped kind (Err code) = ⊤
