-- An expression that is assigned to a column (PostgreSQL's documentation, "Value Storage").
use Rattle.std.specs.Prelude.{Bool, true, false, if◌then◌else◌, List, Option, Some, None, Ok, Err}
use Rattle.cell_base.specs.declared.sql_state.SqlState.TheVariants.{S0A000, S42804}
use Rattle.cell_base.specs.declared.sql_type.SqlType.{SqlType}
use Rattle.cell_base.specs.declared.value.Value.{Value}
use Rattle.sql_tree.specs.declared.expr.Expr.{Expr, out-Expr}
use Rattle.sql_tree.specs.declared.expr.Expr.TheOpen.{Expr-F}
use Rattle.sql_tree.specs.declared.table.Column.{Column}
use Rattle.sql_tree.specs.declared.typed_expr.TypedExpr.{TypedExpr}
use Rattle.sql_tree.specs.declared.typed_expr.TypedNode.TheVariants as node
use Rattle.typing_rules.specs.declared.form.Form.{Form}
use Rattle.typing_rules.specs.declared.form.Form.TheVariants.{Typed, Quoted, Null}
use Rattle.typing_rules.specs.declared.place.Place.TheVariants.{Row}
use Rattle.typing_rules.specs.Outcome.{Outcome, and_then}
use Rattle.typing_rules.specs.Kinds.{is_numeric, are_comparable}
use Rattle.typing_rules.specs.Constants.{constant, text_as}
use Rattle.typing_rules.specs.Names.{Source}
use Rattle.typing_rules.specs.Expressions.{typed_node, null, typing}

abbrev pub assigned_expr : SqlType → TypedExpr → Outcome TypedExpr
assigned_expr kind e = if is_numeric e.kind then Err S0A000 else (if are_comparable e.kind kind then Ok e else Err S42804)

abbrev pub constant_of : SqlType → Outcome Value → Outcome TypedExpr
constant_of kind v = and_then v (λ x. Ok (typed_node kind (node.Constant x)))

abbrev pub assigned_form : SqlType → Form → Outcome TypedExpr
assigned_form kind (Typed e) = assigned_expr kind e
assigned_form kind (Quoted text) = constant_of kind (text_as kind text)
assigned_form kind Null = Ok (null kind)

abbrev pub is_integer : Expr-F Expr → Bool
is_integer (Expr-F.Int n) = true
is_integer _ = false

-- an integer literal, also after one minus sign
abbrev pub is_integer_literal : Expr-F Expr → Bool
is_integer_literal (Expr-F.Int n) = true
is_integer_literal (Expr-F.Neg e) = is_integer (out-Expr e)
is_integer_literal _ = false

-- The conversion of a literal is made here, every other one when the statement runs.
unfoldable pub given : List Source → SqlType → Expr → Outcome TypedExpr
given sources kind e =
    if is_integer_literal (out-Expr e) then constant_of kind (constant kind e) else and_then (typing sources e Row) (assigned_form kind)

-- a missing expression is DEFAULT
abbrev pub cell : List Source → Column → Option Expr → Outcome TypedExpr
cell sources c None = Ok (typed_node c.kind (node.Constant c.default))
cell sources c (Some e) = given sources c.kind e
