-- The value of an expression, given the values of its aggregates in text order; these are taken from the front.
use Rattle.std.specs.Prelude.{◌≡◌, List, [], ◌∷◌, map, Bool, false, Result, Ok, Err}
use Rattle.std.specs.Borrow.{Bor}
use Rattle.cell_base.specs.declared.sql_type.SqlType.{SqlType}
use Rattle.cell_base.specs.declared.sql_state.SqlState.{SqlState}
use Rattle.cell_base.specs.declared.value.Value.{Value}
use Rattle.cell_base.specs.declared.value.Value.TheVariants.{Null, Flag}
use Rattle.sql_tree.specs.declared.op.Op.TheVariants.{Eq}
use Rattle.sql_tree.specs.declared.typed_expr.TypedExpr.{TypedExpr}
use Rattle.sql_tree.specs.declared.typed_expr.TypedNode.TheOpen.{TypedNode-F, TypedExpr-F}
use Rattle.sql_tree.specs.declared.typed_expr.TypedNode.TheFolds.{fold-TypedExpr}
use Rattle.typing_rules.specs.Outcome.{Outcome, and_then}
use Rattle.expr_eval.specs.declared.datum.Datum.{Datum}
use Rattle.expr_eval.specs.Lent.{owned}
use Rattle.expr_eval.specs.Operators.{negated, compared, either, denied, binary}
use Rattle.expr_eval.specs.Values.{of_kind, denied_if, null_test}

-- a value, and what is left of some values or codes
abbrev pub Got : Type 0
Got = Value × List (Outcome Value)

-- given values or codes, a value, and what is left of them
abbrev pub Filled : Type 0
Filled = List (Outcome Value) → Outcome Got

-- an operator of one operand, given what the operand comes to
abbrev pub of_got : (Value → Outcome Value) → Outcome Got → Outcome Got
of_got f a = and_then a (λ x. and_then (f x.0) (λ v. Ok (v, x.1)))

abbrev pub first_of : SqlType → Filled
first_of kind [] = Ok (Null, [])
first_of kind (total ∷ totals) = and_then total (λ v. Ok (of_kind kind v, totals))

abbrev pub one_filled : (Value → Outcome Value) → Filled → Filled
one_filled f a totals = of_got f (a totals)

abbrev pub both_filled : (Value → Value → Outcome Value) → Filled → Filled → Filled
both_filled f a b totals = and_then (a totals) (λ x. of_got (f x.0) (b x.1))

abbrev pub members_filled : Value → Value → List Filled → Filled
members_filled x found [] totals = Ok (found, totals)
members_filled x found (m ∷ members) totals = and_then (m totals) (λ y. members_filled x (either found (compared Eq x y.0)) members y.1)

abbrev pub in_filled : Bool → Filled → List Filled → Filled
in_filled denies a members totals =
    and_then (a totals) (λ x. of_got (λ found. Ok (denied_if denies found)) (members_filled x.0 (Flag false) members x.1))

abbrev pub node_filled : TypedNode-F (SqlType → Filled) Filled → SqlType → Filled
node_filled (TypedNode-F.Constant v) kind totals = Ok (of_kind kind v, totals)
node_filled (TypedNode-F.Column entry column) kind totals = Ok (Null, totals)
node_filled (TypedNode-F.Aggregate function operand) kind totals = first_of kind totals
node_filled (TypedNode-F.Neg a) kind totals = one_filled (negated kind) a totals
node_filled (TypedNode-F.Not a) kind totals = one_filled (λ v. Ok (denied v)) a totals
node_filled (TypedNode-F.IsNull a denies) kind totals = one_filled (λ v. Ok (null_test denies v)) a totals
node_filled (TypedNode-F.Binary op a b) kind totals = both_filled (binary kind op) a b totals
node_filled (TypedNode-F.In a members denies) kind totals = in_filled denies a members totals

abbrev pub expr_filled : TypedExpr-F (SqlType → Filled) Filled → Filled
expr_filled e = e.node e.kind

abbrev pub filled : TypedExpr → Filled
filled = fold-TypedExpr (SqlType → Filled) Filled node_filled expr_filled

abbrev pub all_filled : List TypedExpr → List (Outcome Value) → Outcome (List Value)
all_filled [] totals = Ok []
all_filled (e ∷ exprs) totals = and_then (filled e totals) (λ x. and_then (all_filled exprs x.1) (λ values. Ok (x.0 ∷ values)))

-- a borrowed value and what is left, or a code, as this outcome says
abbrev pub Fills : Result (Datum × Bor (List Value)) SqlState → Outcome Got → Type 0
Fills (Ok x) outcome = outcome ≡ Ok (owned x.0, map Ok x.1.now)
Fills (Err code) outcome = outcome ≡ Err code
