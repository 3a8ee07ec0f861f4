-- IN: what is found so far, and what the members that are left add.
use Rattle.std.proofs.Common.{◌≡◌, ℕ, ◌+◌, ◌<◌, Bool, true, false, List, [], ◌∷◌, length, fold, drop, get_or, Option, Some, None, Ok, Err, refl, sym, ap, ◌∙◌, option_map, add-one, drop-cons}
use Rattle.cell_base.specs.declared.sql_state.SqlState.{SqlState}
use Rattle.cell_base.specs.declared.value.Value.{Value}
use Rattle.cell_base.specs.declared.value.Value.TheVariants.{Flag}
use Rattle.sql_tree.specs.declared.op.Op.TheVariants.{Eq}
use Rattle.sql_tree.specs.declared.typed_expr.TypedExpr.{TypedExpr}
use Rattle.expr_eval.specs.Operators.{Outcome, order_of, holds, flag_or_null, either}
use Rattle.expr_eval.specs.Values.{Row, equal, either_of, among, value_of, values_of}

-- what the members add to what is found so far
abbrev pub go_on : Outcome → Outcome → List Outcome → Outcome
go_on x found members = fold (λ found next. either_of found (equal x next)) found members

pub go_on_failed : (x : Outcome) (code : SqlState) (members : List Outcome) → go_on x (Err code) members ≡ Err code
go_on_failed x code [] = refl
go_on_failed x code (m ∷ members) = go_on_failed x code members

pub among_failed : (code : SqlState) (members : List Outcome) → among (Err code) members ≡ Err code
among_failed code [] = refl
among_failed code (m ∷ members) = go_on_failed (Err code) code members

from_false : (test : Option Bool) → either (Flag false) (flag_or_null test) ≡ flag_or_null test
from_false None = refl
from_false (Some true) = refl
from_false (Some false) = refl

starts : (v : Value) (m : Outcome) → either_of (Ok (Flag false)) (equal (Ok v) m) ≡ equal (Ok v) m
starts v (Err code) = refl
starts v (Ok w) = ap Ok (from_false (option_map (holds Eq) (order_of v w)))

-- IN may start with false
pub among_from_false : (v : Value) (members : List Outcome) → go_on (Ok v) (Ok (Flag false)) members ≡ among (Ok v) members
among_from_false v [] = refl
among_from_false v (m ∷ members) = ap (λ found. go_on (Ok v) found members) (starts v m)

abbrev pub left_over : Row → List TypedExpr → ℕ → List Outcome
left_over row members i = values_of (drop i members) row

-- one member more
pub go_on_one : (row : Row) (x found : Outcome) (members : List TypedExpr) (i : ℕ) (d : TypedExpr) → i < length members
    → go_on x found (left_over row members i) ≡ go_on x (either_of found (equal x (value_of (get_or members i d) row))) (left_over row members (i + 1))
go_on_one row x found members i d within = rw (add-one, drop-cons members i d) refl

-- a member that fails makes the whole fail, since nothing failed before it
pub fails : (row : Row) (v found : Value) (members : List TypedExpr) (i : ℕ) (m : TypedExpr) (code : SqlState) → i < length members → m ≡ get_or members i m
    → go_on (Ok v) (Ok found) (left_over row members i) ≡ among (Ok v) (values_of members row) → value_of m row ≡ Err code → among (Ok v) (values_of members row) ≡ Err code
fails row v found members i m code within is so_far failed =
    sym so_far ∙ go_on_one row (Ok v) (Ok found) members i m within
    ∙ ap (λ o. go_on (Ok v) (either_of (Ok found) (equal (Ok v) o)) (left_over row members (i + 1))) (ap (λ e. value_of e row) (sym is) ∙ failed)
    ∙ go_on_failed (Ok v) code (left_over row members (i + 1))
