-- Aggregates: one value for a list of rows (PostgreSQL's documentation, "Aggregate Functions").
use Rattle.std.specs.Prelude.{ℤ, pos, ◌^◌, ◌+ℤ◌, Bool, true, false, not, if◌then◌else◌, List, [], ◌∷◌, ◌++◌, map, flat_map, filter, length, fold, Option, Some, None, option_map, unwrap_or, Ok, Err}
use Rattle.std.specs.declared.cmp.Ordering.{Ordering}
use Rattle.std.specs.Ordering.{is_lt, is_gt}
use Rattle.cell_base.specs.declared.sql_type.SqlType.{SqlType}
use Rattle.cell_base.specs.declared.sql_type.SqlType.TheVariants.{Bigint, Numeric}
use Rattle.cell_base.specs.declared.sql_state.SqlState.TheVariants.{S22003}
use Rattle.cell_base.specs.declared.value.Value.{Value}
use Rattle.cell_base.specs.declared.value.Value.TheVariants.{Null, Flag, Int, Wide}
use Rattle.sql_tree.specs.declared.op.Aggregate.{Aggregate}
use Rattle.sql_tree.specs.declared.op.Aggregate.TheVariants.{Count, Sum, Min, Max}
use Rattle.sql_tree.specs.declared.typed_expr.TypedExpr.{TypedExpr}
use Rattle.sql_tree.specs.declared.typed_expr.TypedNode.TheOpen.{TypedNode-F, TypedExpr-F}
use Rattle.sql_tree.specs.declared.typed_expr.TypedNode.TheFolds.{fold-TypedExpr}
use Rattle.typing_rules.specs.Outcome.{Outcome, and_then, all_of}
use Rattle.typing_rules.specs.Kinds.{is_null, fits, is_within}
use Rattle.expr_eval.specs.Operators.{negated, denied, binary, order_of}
use Rattle.expr_eval.specs.Values.{Row, of_kind, of_one, of_both, among, denied_if, null_test, node_value}

-- ---- the value of an aggregate, given the values of its operand that aren't null

abbrev pub number_in : SqlType → ℤ → Outcome Value
number_in Numeric n = if is_within (2 ^ 127) n then Ok (Wide n) else Err S22003
number_in kind n = if fits Bigint n then Ok (Int n) else Err S22003

abbrev pub integer : Value → ℤ
integer (Int n) = n
integer _ = pos 0

-- each partial sum, rows in order, is one of the type
abbrev pub sum_from : SqlType → ℤ → List Value → Outcome Value
sum_from kind so_far [] = number_in kind so_far
sum_from kind so_far (v ∷ vs) = and_then (number_in kind (so_far +ℤ integer v)) (λ partial. sum_from kind (so_far +ℤ integer v) vs)

abbrev pub sum_of : SqlType → List Value → Outcome Value
sum_of kind [] = Ok Null
sum_of kind (v ∷ vs) = sum_from kind (pos 0) (v ∷ vs)

-- the second, where its order to the first wins
abbrev pub better : (Ordering → Bool) → Value → Value → Value
better wins found next = if unwrap_or (option_map wins (order_of next found)) false then next else found

-- the first that no other one wins over; null, where there is none
abbrev pub best : (Ordering → Bool) → List Value → Value
best wins [] = Null
best wins (v ∷ vs) = fold (better wins) v vs

abbrev pub total : SqlType → Aggregate → List Value → Outcome Value
total kind Count values = number_in Bigint (pos (length values))
total kind Sum values = sum_of kind values
total kind Min values = Ok (best is_lt values)
total kind Max values = Ok (best is_gt values)

abbrev pub not_null : List Value → List Value
not_null values = filter (λ v. not (is_null v)) values

-- a call of an aggregate: its type, its function, and what its operand means in one row
pub record Call : Type 0 where
  pub kind : SqlType
  pub function : Aggregate
  pub operand : Row → Outcome Value

-- the value of a call over some rows; a null of its operand doesn't count
abbrev pub call_value : Call → List Row → Outcome Value
call_value call rows = and_then (all_of (map call.operand rows)) (λ values. total call.kind call.function (not_null values))

-- ---- expressions over a group of rows

-- what an expression means: in one row, and over a group of rows; and its calls of aggregates, in text order
pub record Meaning : Type 0 where
  pub in_row : Row → Outcome Value
  pub over : List Row → Outcome Value
  pub calls : List Call

-- one level of an expression, with the meanings of its operands in one row in their places
abbrev pub node_in_row : TypedNode-F (SqlType → Meaning) Meaning → TypedNode-F (SqlType → Row → Outcome Value) (Row → Outcome Value)
node_in_row (TypedNode-F.Constant v) = TypedNode-F.Constant v
node_in_row (TypedNode-F.Column entry column) = TypedNode-F.Column entry column
node_in_row (TypedNode-F.Aggregate function operand) = TypedNode-F.Aggregate function (option_map (λ a. a.in_row) operand)
node_in_row (TypedNode-F.Neg a) = TypedNode-F.Neg a.in_row
node_in_row (TypedNode-F.Not a) = TypedNode-F.Not a.in_row
node_in_row (TypedNode-F.IsNull a denies) = TypedNode-F.IsNull a.in_row denies
node_in_row (TypedNode-F.Binary op a b) = TypedNode-F.Binary op a.in_row b.in_row
node_in_row (TypedNode-F.In a members denies) = TypedNode-F.In a.in_row (map (λ m. m.in_row) members) denies

-- the operand of a call; `*` stands for a value that is never null
abbrev pub operand_of : Option Meaning → Row → Outcome Value
operand_of None row = Ok (Flag true)
operand_of (Some a) row = a.in_row row

abbrev pub call_of : SqlType → Aggregate → Option Meaning → Call
call_of kind function operand = record { kind = kind; function = function; operand = operand_of operand }

-- One level of an expression over a group of rows: a call of an aggregate has its value, and a column outside one has none.
abbrev pub node_over : TypedNode-F (SqlType → Meaning) Meaning → SqlType → List Row → Outcome Value
node_over (TypedNode-F.Constant v) kind rows = Ok (of_kind kind v)
node_over (TypedNode-F.Column entry column) kind rows = Ok Null
node_over (TypedNode-F.Aggregate function operand) kind rows = of_one (λ v. Ok (of_kind kind v)) (call_value (call_of kind function operand) rows)
node_over (TypedNode-F.Neg a) kind rows = of_one (negated kind) (a.over rows)
node_over (TypedNode-F.Not a) kind rows = of_one (λ v. Ok (denied v)) (a.over rows)
node_over (TypedNode-F.IsNull a denies) kind rows = of_one (λ v. Ok (null_test denies v)) (a.over rows)
node_over (TypedNode-F.Binary op a b) kind rows = of_both (binary kind op) (a.over rows) (b.over rows)
node_over (TypedNode-F.In a members denies) kind rows = of_one (λ v. Ok (denied_if denies v)) (among (a.over rows) (map (λ m. m.over rows) members))

abbrev pub node_calls : TypedNode-F (SqlType → Meaning) Meaning → SqlType → List Call
node_calls (TypedNode-F.Constant v) kind = []
node_calls (TypedNode-F.Column entry column) kind = []
node_calls (TypedNode-F.Aggregate function operand) kind = call_of kind function operand ∷ []
node_calls (TypedNode-F.Neg a) kind = a.calls
node_calls (TypedNode-F.Not a) kind = a.calls
node_calls (TypedNode-F.IsNull a denies) kind = a.calls
node_calls (TypedNode-F.Binary op a b) kind = a.calls ++ b.calls
node_calls (TypedNode-F.In a members denies) kind = a.calls ++ flat_map (λ m. m.calls) members

abbrev pub node_meaning : TypedNode-F (SqlType → Meaning) Meaning → SqlType → Meaning
node_meaning node kind = record { in_row = node_value (node_in_row node) kind; over = node_over node kind; calls = node_calls node kind }

abbrev pub expr_meaning : TypedExpr-F (SqlType → Meaning) Meaning → Meaning
expr_meaning e = e.node e.kind

abbrev pub meaning : TypedExpr → Meaning
meaning = fold-TypedExpr (SqlType → Meaning) Meaning node_meaning expr_meaning

-- the value of an expression over a group of rows
abbrev pub group_value : TypedExpr → List Row → Outcome Value
group_value e = (meaning e).over

-- the calls of aggregates in some expressions, in text order
abbrev pub calls_of : List TypedExpr → List Call
calls_of exprs = flat_map (λ e. (meaning e).calls) exprs

-- the values of their operands in one row
abbrev pub operand_values : List Call → Row → Outcome (List Value)
operand_values calls row = all_of (map (λ call. call.operand row) calls)

-- The values of some expressions over a group of rows. The operands of the aggregates are evaluated first, row by row, and
-- the aggregates have their values before any expression has.
abbrev pub group_values : List TypedExpr → List Row → Outcome (List Value)
group_values exprs rows =
    and_then (all_of (map (operand_values (calls_of exprs)) rows)) (λ evaluated.
    and_then (all_of (map (λ call. call_value call rows) (calls_of exprs))) (λ totals.
    all_of (map (λ e. group_value e rows) exprs)))
