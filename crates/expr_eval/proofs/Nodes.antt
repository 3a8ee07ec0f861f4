-- The equations of the value of an expression, one for each node.
use Rattle.std.proofs.Common.{◌≡◌, ℕ, Bool, List, map, Option, Ok, Err, sym, ap, ◌∙◌}
use Rattle.cell_base.specs.declared.sql_type.SqlType.{SqlType}
use Rattle.cell_base.specs.declared.sql_state.SqlState.{SqlState}
use Rattle.sql_tree.specs.declared.typed_expr.TypedExpr.{TypedExpr}
use Rattle.sql_tree.specs.declared.typed_expr.TypedNode.{TypedNode}
use Rattle.cell_base.specs.declared.value.Value.{Value}
use Rattle.cell_base.specs.declared.value.Value.TheVariants.{Null}
use Rattle.sql_tree.specs.declared.op.Op.{Op}
use Rattle.sql_tree.specs.declared.op.Aggregate.{Aggregate}
use Rattle.sql_tree.specs.declared.typed_expr.TypedNode.TheVariants as node
use Rattle.sql_tree.specs.declared.typed_expr.TypedNode.TheVariants.{Constant, Column, Neg, Not, IsNull, Binary, In, rolls-Constant, rolls-Column, rolls-Aggregate, rolls-Neg, rolls-Not, rolls-IsNull, rolls-Binary, rolls-In}
use Rattle.sql_tree.specs.declared.typed_expr.TypedNode.TheOpen.{TypedNode-F}
use Rattle.sql_tree.specs.declared.typed_expr.TypedNode.TheFolds.{fold-TypedNode, fold-roll-TypedNode, fold_out-TypedExpr}
use Rattle.expr_eval.specs.Operators.{Outcome}
use Rattle.expr_eval.specs.Values.{Row, of_one, among, value_of, values_of, denied_if, node_value, expr_value}
use Rattle.expr_eval.proofs.Members.{among_failed}

-- the meaning of a node alone
abbrev pub node_of : TypedNode → SqlType → Row → Outcome
node_of = fold-TypedNode (SqlType → Row → Outcome) (Row → Outcome) node_value expr_value

pub value_of-node : (k : SqlType) (n : TypedNode) (row : Row) → value_of (record { kind = k; node = n }) row ≡ node_of n k row
value_of-node k n row = ap (λ f. f row) (fold_out-TypedExpr (SqlType → Row → Outcome) (Row → Outcome) node_value expr_value (record { kind = k; node = n }))

pub node_of-Constant : (v : Value) → node_of (Constant v) ≡ node_value (TypedNode-F.Constant v)
node_of-Constant v = ap node_of (sym (rolls-Constant v)) ∙ fold-roll-TypedNode (SqlType → Row → Outcome) (Row → Outcome) node_value expr_value (TypedNode-F.Constant v)

pub node_of-Column : (entry : ℕ) (place : ℕ) → node_of (Column entry place) ≡ node_value (TypedNode-F.Column entry place)
node_of-Column entry place = ap node_of (sym (rolls-Column entry place)) ∙ fold-roll-TypedNode (SqlType → Row → Outcome) (Row → Outcome) node_value expr_value (TypedNode-F.Column entry place)

pub node_of-Neg : (a : TypedExpr) → node_of (Neg a) ≡ node_value (TypedNode-F.Neg (value_of a))
node_of-Neg a = ap node_of (sym (rolls-Neg a)) ∙ fold-roll-TypedNode (SqlType → Row → Outcome) (Row → Outcome) node_value expr_value (TypedNode-F.Neg a)

pub node_of-Not : (a : TypedExpr) → node_of (Not a) ≡ node_value (TypedNode-F.Not (value_of a))
node_of-Not a = ap node_of (sym (rolls-Not a)) ∙ fold-roll-TypedNode (SqlType → Row → Outcome) (Row → Outcome) node_value expr_value (TypedNode-F.Not a)

pub node_of-IsNull : (a : TypedExpr) (denies : Bool) → node_of (IsNull a denies) ≡ node_value (TypedNode-F.IsNull (value_of a) denies)
node_of-IsNull a denies = ap node_of (sym (rolls-IsNull a denies)) ∙ fold-roll-TypedNode (SqlType → Row → Outcome) (Row → Outcome) node_value expr_value (TypedNode-F.IsNull a denies)

pub node_of-Binary : (o : Op) (a : TypedExpr) (b : TypedExpr) → node_of (Binary o a b) ≡ node_value (TypedNode-F.Binary o (value_of a) (value_of b))
node_of-Binary o a b = ap node_of (sym (rolls-Binary o a b)) ∙ fold-roll-TypedNode (SqlType → Row → Outcome) (Row → Outcome) node_value expr_value (TypedNode-F.Binary o a b)

pub node_of-In : (a : TypedExpr) (members : List TypedExpr) (denies : Bool) → node_of (In a members denies) ≡ node_value (TypedNode-F.In (value_of a) (map value_of members) denies)
node_of-In a members denies = ap node_of (sym (rolls-In a members denies)) ∙ fold-roll-TypedNode (SqlType → Row → Outcome) (Row → Outcome) node_value expr_value (TypedNode-F.In a members denies)

pub node_of-Aggregate : (function : Aggregate) (operand : Option TypedExpr) (kind : SqlType) (row : Row) → node_of (node.Aggregate function operand) kind row ≡ Ok Null
node_of-Aggregate function operand kind row =
    ap (λ n. node_of n kind row) (sym (rolls-Aggregate function operand)) ∙ ap (λ f. f kind row) (fold-roll-TypedNode (SqlType → Row → Outcome) (Row → Outcome) node_value expr_value (TypedNode-F.Aggregate function operand))

-- where the left operand of IN fails, it does
pub in_failed : (e a : TypedExpr) (members : List TypedExpr) (denies : Bool) (row : Row) (code : SqlState) → e.node ≡ In a members denies → value_of a row ≡ Err code → value_of e row ≡ Err code
in_failed e a members denies row code is failed =
    value_of-node e.kind e.node row ∙ ap (λ n. node_of n e.kind row) is ∙ ap (λ f. f e.kind row) (node_of-In a members denies)
    ∙ ap (λ o. of_one (λ v. Ok (denied_if denies v)) (among o (values_of members row))) failed
    ∙ ap (of_one (λ v. Ok (denied_if denies v))) (among_failed code (values_of members row))
