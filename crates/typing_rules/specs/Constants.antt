-- The value of a literal that is converted to a column's type: a default, and a literal in VALUES or SET.
-- (PostgreSQL's documentation, "Value Storage" and "Constants".)
use Rattle.std.specs.Prelude.{ℕ, List, if◌then◌else◌, Ok, Err, ℤ, neg_ℤ}
use Rattle.cell_base.specs.declared.sql_state.SqlState.TheVariants.{S0A000, S22003}
use Rattle.cell_base.specs.declared.sql_type.SqlType.{SqlType}
use Rattle.cell_base.specs.declared.sql_type.SqlType.TheVariants as type
use Rattle.cell_base.specs.declared.value.Value.{Value}
use Rattle.cell_base.specs.declared.value.Value.TheVariants as value
use Rattle.sql_tree.specs.declared.expr.Expr.{Expr, out-Expr}
use Rattle.sql_tree.specs.declared.expr.Expr.TheOpen.{Expr-F}
use Rattle.typing_rules.specs.Outcome.{Outcome}
use Rattle.typing_rules.specs.Kinds.{fits}
use Rattle.typing_rules.specs.Assignment.{assigned}
use Rattle.typing_rules.specs.Literals.{quoted}

-- a quoted literal: by its form where the column has integers, 0A000 where it has booleans
abbrev pub text_as : SqlType → List ℕ → Outcome Value
text_as type.Boolean text = Err S0A000
text_as type.Integer text = quoted type.Integer text
text_as type.Bigint text = quoted type.Bigint text
text_as kind text = assigned kind (value.Text text)

-- an integer after a minus sign
abbrev pub negative_as : SqlType → ℤ → Outcome Value
negative_as kind n = if fits type.Bigint (neg_ℤ n) then assigned kind (value.Int (neg_ℤ n)) else Err S22003

abbrev pub negative_at : SqlType → Expr-F Expr → Outcome Value
negative_at kind (Expr-F.Int n) = negative_as kind n
negative_at kind _ = Err S0A000

abbrev pub constant_at : SqlType → Expr-F Expr → Outcome Value
constant_at kind (Expr-F.Int n) = assigned kind (value.Int n)
constant_at kind (Expr-F.Str text) = text_as kind text
constant_at kind (Expr-F.Flag b) = assigned kind (value.Flag b)
constant_at kind Expr-F.Null = Ok value.Null
constant_at kind (Expr-F.Neg e) = negative_at kind (out-Expr e)
constant_at kind _ = Err S0A000

-- the value of a constant as one of the type; an expression that isn't a constant is 0A000
abbrev pub constant : SqlType → Expr → Outcome Value
constant kind e = constant_at kind (out-Expr e)
