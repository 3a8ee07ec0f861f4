-- A result of a well-typed expression is null or of the expression's type.
use Rattle.std.proofs.Common.{◌≡◌, Bool, true, false, cond, ◌||◌, List, [], ◌∷◌, Option, Some, None, option_map, Ok, Err, ℤ, ◌+ℤ◌, ◌-ℤ◌, ◌*ℤ◌, neg_ℤ, refl, sym, ap, ◌∙◌, subst}
use Rattle.std.specs.Int.RustNames.{int_div, int_rem}
use Rattle.cell_base.specs.declared.sql_state.SqlState.TheVariants.{S22003, S22012}
use Rattle.cell_base.specs.declared.sql_type.SqlType.{SqlType}
use Rattle.cell_base.specs.declared.sql_type.SqlType.TheVariants as kind
use Rattle.cell_base.specs.declared.value.Value.{Value}
use Rattle.cell_base.specs.declared.value.Value.TheVariants.{Null, Flag, Int}
use Rattle.sql_tree.specs.declared.op.Op.{Op}
use Rattle.sql_tree.specs.declared.op.Op.TheVariants.{Add, Sub, Mul, Div, Rem, Eq, Ne, Lt, Le, Gt, Ge, And, Or}
use Rattle.sql_tree.specs.declared.op.Aggregate.TheVariants as aggregate
use Rattle.sql_tree.specs.declared.typed_expr.TypedExpr.{TypedExpr}
use Rattle.sql_tree.specs.declared.typed_expr.TypedNode.{TypedNode}
use Rattle.sql_tree.specs.declared.typed_expr.TypedNode.TheVariants.{Constant, Column, Aggregate, Neg, Not, IsNull, Binary, In}
use Rattle.typing_rules.specs.Kinds.{fits, is_of, is_null, is_null_or_of, wider}
use Rattle.typing_rules.specs.WellTyped.{ColumnTypes, IsWellTyped, is_arithmetic, is_comparison, is_connective}
use Rattle.typing_rules.specs.WellTyped.IsWellTyped.{constant, column, count_rows, aggregate_of, negated, denied, tested, computed, compared, connected, among}
use Rattle.expr_eval.specs.Operators as operators
use Rattle.expr_eval.specs.Operators.{Outcome, is_zero, in_range, flag_or_null, order_of, holds}
use Rattle.expr_eval.specs.Values as values
use Rattle.expr_eval.specs.Values.{Row, of_kind, of_one, of_both, column_value, value_of, values_of}
use Rattle.expr_eval.specs.Kinds.{IsTyped}
use Rattle.expr_eval.proofs.Members.{go_on}
use Rattle.expr_eval.proofs.Nodes.{node_of, value_of-node, node_of-Constant, node_of-Column, node_of-Aggregate, node_of-Neg, node_of-Not, node_of-IsNull, node_of-Binary, node_of-In}

or_true : (a : Bool) → (a || true) ≡ true
or_true true = refl
or_true false = refl

by_test : (k : SqlType) (v : Value) (test : Bool) → is_of k v ≡ test → is_null_or_of k (cond test v Null) ≡ true
by_test k v true h = ap (λ t. is_null v || t) h ∙ or_true (is_null v)
by_test k v false h = refl

of_kind_typed : (k : SqlType) (v : Value) → is_null_or_of k (of_kind k v) ≡ true
of_kind_typed k v = by_test k v (is_of k v) refl

-- ---- booleans

flag_typed : (o : Option Bool) → is_null_or_of kind.Boolean (flag_or_null o) ≡ true
flag_typed None = refl
flag_typed (Some flag) = refl

-- a boolean or an unknown
abbrev IsLogical : Value → Type 0
IsLogical v = is_null_or_of kind.Boolean v ≡ true

denied_typed : (v : Value) → IsLogical (operators.denied v)
denied_typed (Flag flag) = refl
denied_typed _ = refl

either_typed : (a b : Value) → IsLogical (operators.either a b)
either_typed (Flag true) b = refl
either_typed _ (Flag true) = refl
either_typed _ _ = refl

both_typed : (a b : Value) → IsLogical (operators.both a b)
both_typed (Flag false) b = refl
both_typed _ (Flag false) = refl
both_typed (Flag true) (Flag true) = refl
both_typed _ _ = refl

null_test_typed : (denies : Bool) (v : Value) → IsLogical (values.null_test denies v)
null_test_typed true v = refl
null_test_typed false v = refl

-- ---- operators of one operand and of two

one_typed : (k : SqlType) (f : Value → Outcome) → ((v : Value) → IsTyped k (f v)) → (a : Outcome) → IsTyped k (of_one f a)
one_typed k f typed (Ok v) = typed v
one_typed k f typed (Err code) = tt

two_typed : (k : SqlType) (f : Value → Value → Outcome) → ((v w : Value) → IsTyped k (f v w)) → (a b : Outcome) → IsTyped k (of_both f a b)
two_typed k f typed (Err code) b = tt
two_typed k f typed (Ok v) (Err code) = tt
two_typed k f typed (Ok v) (Ok w) = typed v w

-- ---- integers

number_typed : (k : SqlType) (n : ℤ) (test : Bool) → fits k n ≡ test → IsTyped k (cond test (Ok (Int n)) (Err S22003))
number_typed k n false h = tt
number_typed kind.Integer n true h = h
number_typed kind.Bigint n true h = refl
number_typed kind.Boolean n true h = cc
number_typed kind.Text n true h = cc
number_typed (kind.Varchar limit) n true h = cc
number_typed kind.Numeric n true h = cc

in_range_typed : (k : SqlType) (n : ℤ) → IsTyped k (in_range k n)
in_range_typed k n = number_typed k n (fits k n) refl

tested_typed : (k : SqlType) (o : Outcome) (test : Bool) → IsTyped k o → IsTyped k (cond test (Err S22012) o)
tested_typed k o true h = tt
tested_typed k o false h = h

computed_typed : (k : SqlType) (o : Op) (a b : ℤ) → IsTyped k (operators.computed k o a b)
computed_typed k Add a b = in_range_typed k (a +ℤ b)
computed_typed k Sub a b = in_range_typed k (a -ℤ b)
computed_typed k Mul a b = in_range_typed k (a *ℤ b)
computed_typed k Div a b = tested_typed k (in_range k (int_div a b)) (is_zero b) (in_range_typed k (int_div a b))
computed_typed k Rem a b = tested_typed k (in_range k (int_rem a b)) (is_zero b) (in_range_typed k (int_rem a b))
computed_typed k _ a b = refl

arithmetic_typed : (k : SqlType) (o : Op) (v w : Value) → IsTyped k (operators.arithmetic k o v w)
arithmetic_typed k o (Int a) (Int b) = computed_typed k o a b
arithmetic_typed k o _ _ = refl

negated_typed : (k : SqlType) (v : Value) → IsTyped k (operators.negated k v)
negated_typed k (Int n) = in_range_typed k (neg_ℤ n)
negated_typed k _ = refl

-- ---- operators of two operands

computing_typed : (o : Op) → is_arithmetic o ≡ true → (k : SqlType) (v w : Value) → IsTyped k (operators.binary k o v w)
computing_typed Add h k v w = arithmetic_typed k Add v w
computing_typed Sub h k v w = arithmetic_typed k Sub v w
computing_typed Mul h k v w = arithmetic_typed k Mul v w
computing_typed Div h k v w = arithmetic_typed k Div v w
computing_typed Rem h k v w = arithmetic_typed k Rem v w
computing_typed _ h k v w = cc

comparing_typed : (o : Op) → is_comparison o ≡ true → (v w : Value) → IsTyped kind.Boolean (operators.binary kind.Boolean o v w)
comparing_typed Eq h v w = flag_typed (option_map (holds Eq) (order_of v w))
comparing_typed Ne h v w = flag_typed (option_map (holds Ne) (order_of v w))
comparing_typed Lt h v w = flag_typed (option_map (holds Lt) (order_of v w))
comparing_typed Le h v w = flag_typed (option_map (holds Le) (order_of v w))
comparing_typed Gt h v w = flag_typed (option_map (holds Gt) (order_of v w))
comparing_typed Ge h v w = flag_typed (option_map (holds Ge) (order_of v w))
comparing_typed _ h v w = cc

connecting_typed : (o : Op) → is_connective o ≡ true → (v w : Value) → IsTyped kind.Boolean (operators.binary kind.Boolean o v w)
connecting_typed And h v w = both_typed v w
connecting_typed Or h v w = either_typed v w
connecting_typed _ h v w = cc

-- ---- IN

equal_typed : (x m : Outcome) → IsTyped kind.Boolean (values.equal x m)
equal_typed x m = two_typed kind.Boolean (λ a b. Ok (operators.compared Eq a b)) (λ v w. flag_typed (option_map (holds Eq) (order_of v w))) x m

go_on_typed : (x found : Outcome) (members : List Outcome) → IsTyped kind.Boolean found → IsTyped kind.Boolean (go_on x found members)
go_on_typed x found [] h = h
go_on_typed x found (m ∷ members) h =
    go_on_typed x (values.either_of found (values.equal x m)) members (two_typed kind.Boolean (λ a b. Ok (operators.either a b)) either_typed found (values.equal x m))

among_typed : (x : Outcome) (members : List Outcome) → IsTyped kind.Boolean (values.among x members)
among_typed x [] = one_typed kind.Boolean (λ _. Ok (Flag false)) (λ _. refl) x
among_typed x (m ∷ members) = go_on_typed x (values.equal x m) members (equal_typed x m)

answer_typed : (denies : Bool) (o : Outcome) → IsTyped kind.Boolean o → IsTyped kind.Boolean (of_one (λ v. Ok (values.denied_if denies v)) o)
answer_typed denies (Err code) h = tt
answer_typed true (Ok v) h = denied_typed v
answer_typed false (Ok v) h = h

-- ---- the whole

by_node : (k : SqlType) (n : TypedNode) (row : Row) → IsTyped k (node_of n k row) → IsTyped k (value_of (record { kind = k; node = n }) row)
by_node k n row h = subst (IsTyped k) (sym (value_of-node k n row)) h

by_step : (k : SqlType) (n : TypedNode) (step : SqlType → Row → Outcome) (row : Row) → node_of n ≡ step → IsTyped k (step k row) → IsTyped k (value_of (record { kind = k; node = n }) row)
by_step k n step row is h = by_node k n row (subst (λ f. IsTyped k (f k row)) (sym is) h)

pub result_typed : {types : ColumnTypes} {e : TypedExpr} (row : Row) → IsWellTyped types e → IsTyped e.kind (value_of e row)
result_typed row (constant k v numeric typed) = by_step k (Constant v) (λ k row. Ok (of_kind k v)) row (node_of-Constant v) (of_kind_typed k v)
result_typed row (column k entry place there) =
    by_step k (Column entry place) (λ k row. Ok (of_kind k (column_value row entry place))) row (node_of-Column entry place) (of_kind_typed k (column_value row entry place))
result_typed row count_rows = by_node kind.Bigint (Aggregate aggregate.Count None) row (subst (IsTyped kind.Bigint) (sym (node_of-Aggregate aggregate.Count None kind.Bigint row)) refl)
result_typed row (aggregate_of k function a well none typed) =
    by_node k (Aggregate function (Some a)) row (subst (IsTyped k) (sym (node_of-Aggregate function (Some a) k row)) refl)
result_typed row (negated a well number) =
    by_step a.kind (Neg a) (λ k row. of_one (operators.negated k) (value_of a row)) row (node_of-Neg a) (one_typed a.kind (operators.negated a.kind) (negated_typed a.kind) (value_of a row))
result_typed row (denied a well boolean) =
    by_step kind.Boolean (Not a) (λ k row. of_one (λ v. Ok (operators.denied v)) (value_of a row)) row (node_of-Not a)
    (one_typed kind.Boolean (λ v. Ok (operators.denied v)) denied_typed (value_of a row))
result_typed row (tested a denies well numeric) =
    by_step kind.Boolean (IsNull a denies) (λ k row. of_one (λ v. Ok (values.null_test denies v)) (value_of a row)) row (node_of-IsNull a denies)
    (one_typed kind.Boolean (λ v. Ok (values.null_test denies v)) (null_test_typed denies) (value_of a row))
result_typed row (computed o a b arithmetic well well' number number') =
    by_step (wider a.kind b.kind) (Binary o a b) (λ k row. of_both (operators.binary k o) (value_of a row) (value_of b row)) row (node_of-Binary o a b)
    (two_typed (wider a.kind b.kind) (operators.binary (wider a.kind b.kind) o) (computing_typed o arithmetic (wider a.kind b.kind)) (value_of a row) (value_of b row))
result_typed row (compared o a b comparison well well' comparable) =
    by_step kind.Boolean (Binary o a b) (λ k row. of_both (operators.binary k o) (value_of a row) (value_of b row)) row (node_of-Binary o a b)
    (two_typed kind.Boolean (operators.binary kind.Boolean o) (comparing_typed o comparison) (value_of a row) (value_of b row))
result_typed row (connected o a b connective well well' boolean boolean') =
    by_step kind.Boolean (Binary o a b) (λ k row. of_both (operators.binary k o) (value_of a row) (value_of b row)) row (node_of-Binary o a b)
    (two_typed kind.Boolean (operators.binary kind.Boolean o) (connecting_typed o connective) (value_of a row) (value_of b row))
result_typed row (among a m members denies well all) =
    by_step kind.Boolean (In a (m ∷ members) denies) (λ k row. of_one (λ v. Ok (values.denied_if denies v)) (values.among (value_of a row) (values_of (m ∷ members) row))) row
    (node_of-In a (m ∷ members) denies) (answer_typed denies (values.among (value_of a row) (values_of (m ∷ members) row)) (among_typed (value_of a row) (values_of (m ∷ members) row)))
