-- The value of an expression over a row, or the first code.
use Rattle.std.specs.Prelude.{ℕ, Bool, true, false, not, List, [], ◌∷◌, map, fold, slice_get, option_and_then, unwrap_or, Ok, Err, if◌then◌else◌}
use Rattle.cell_base.specs.declared.sql_type.SqlType.{SqlType}
use Rattle.cell_base.specs.declared.value.Value.{Value}
use Rattle.cell_base.specs.declared.value.Value.TheVariants.{Null, Flag}
use Rattle.sql_tree.specs.declared.op.Op.TheVariants.{Eq}
use Rattle.sql_tree.specs.declared.typed_expr.TypedExpr.{TypedExpr}
use Rattle.sql_tree.specs.declared.typed_expr.TypedNode.TheOpen.{TypedNode-F, TypedExpr-F}
use Rattle.sql_tree.specs.declared.typed_expr.TypedNode.TheFolds.{fold-TypedExpr}
use Rattle.typing_rules.specs.Kinds.{is_null, is_of}
use Rattle.expr_eval.specs.Operators.{Outcome, negated, compared, either, denied, binary}

-- one list of column values for each entry of FROM
abbrev pub Row : Type 0
Row = List (List Value)

-- a value that isn't of the type counts as null
abbrev pub of_kind : SqlType → Value → Value
of_kind kind v = if is_of kind v then v else Null

-- the value of a column; one that isn't there counts as null
abbrev pub column_value : Row → ℕ → ℕ → Value
column_value row entry column = unwrap_or (option_and_then (λ values. slice_get values column) (slice_get row entry)) Null

-- an operator of one operand
abbrev pub of_one : (Value → Outcome) → Outcome → Outcome
of_one f (Ok a) = f a
of_one f (Err code) = Err code

-- an operator of two operands: both are evaluated, the left one first
abbrev pub of_both : (Value → Value → Outcome) → Outcome → Outcome → Outcome
of_both f (Err code) b = Err code
of_both f (Ok a) (Err code) = Err code
of_both f (Ok a) (Ok b) = f a b

abbrev pub equal : Outcome → Outcome → Outcome
equal = of_both (λ a b. Ok (compared Eq a b))

abbrev pub either_of : Outcome → Outcome → Outcome
either_of = of_both (λ a b. Ok (either a b))

-- `x IN (a, b, c)` is `x = a OR x = b OR x = c`
abbrev pub among : Outcome → List Outcome → Outcome
among x [] = of_one (λ _. Ok (Flag false)) x
among x (m ∷ members) = fold (λ found next. either_of found (equal x next)) (equal x m) members

abbrev pub denied_if : Bool → Value → Value
denied_if true v = denied v
denied_if false v = v

-- whether the value is null, or whether it isn't
abbrev pub null_test : Bool → Value → Value
null_test true v = Flag (not (is_null v))
null_test false v = Flag (is_null v)

-- One level of an expression, with the meanings of its operands in their places. An aggregate has no value in one row: null.
abbrev pub node_value : TypedNode-F (SqlType → Row → Outcome) (Row → Outcome) → SqlType → Row → Outcome
node_value (TypedNode-F.Constant v) kind row = Ok (of_kind kind v)
node_value (TypedNode-F.Column entry column) kind row = Ok (of_kind kind (column_value row entry column))
node_value (TypedNode-F.Aggregate function operand) kind row = Ok Null
node_value (TypedNode-F.Neg a) kind row = of_one (negated kind) (a row)
node_value (TypedNode-F.Not a) kind row = of_one (λ v. Ok (denied v)) (a row)
node_value (TypedNode-F.IsNull a denies) kind row = of_one (λ v. Ok (null_test denies v)) (a row)
node_value (TypedNode-F.Binary op a b) kind row = of_both (binary kind op) (a row) (b row)
node_value (TypedNode-F.In a members denies) kind row = of_one (λ v. Ok (denied_if denies v)) (among (a row) (map (λ m. m row) members))

abbrev pub expr_value : TypedExpr-F (SqlType → Row → Outcome) (Row → Outcome) → Row → Outcome
expr_value e row = e.node e.kind row

abbrev pub value_of : TypedExpr → Row → Outcome
value_of = fold-TypedExpr (SqlType → Row → Outcome) (Row → Outcome) node_value expr_value

-- the members of an IN
abbrev pub values_of : List TypedExpr → Row → List Outcome
values_of members row = map (λ m. m row) (map value_of members)
