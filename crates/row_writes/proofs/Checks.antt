-- The CHECKs of a row one by one, and those that mention an assigned column.
use Rattle.std.proofs.Common.{◌≡◌, ℕ, ◌+◌, ◌<◌, Bool, true, false, cond, List, [], ◌∷◌, ◌++◌, length, drop, map, get_or, Ok, Err, sym, ap, ◌∙◌, append_assoc}
use Rattle.std.specs.Borrow.{Bor}
use Rattle.std.specs.List.{list_any}
use Rattle.cell_base.specs.declared.sql_state.SqlState.{SqlState}
use Rattle.cell_base.specs.declared.sql_state.SqlState.TheVariants.{S23514}
use Rattle.cell_base.specs.declared.value.Value.{Value}
use Rattle.sql_tree.specs.declared.typed_expr.TypedExpr.{TypedExpr}
use Rattle.typing_rules.specs.Mentions.{mentions}
use Rattle.typing_rules.specs.Outcome.{Outcome, and_then}
use Rattle.expr_eval.specs.Values.{value_of}
use Rattle.row_meaning.specs.Changes.{checks_on}
use Rattle.row_meaning.specs.Storing.{is_false, checked}
use Rattle.typing_rules.proofs.Lists.{cut_at}

value_fault : (o : Outcome Value) (code : SqlState) → Err code ≡ and_then o (λ v. Ok (is_false v)) → o ≡ Err code
value_fault (Ok v) code e = cc
value_fault (Err other) code e = cc

-- a CHECK without a value gives the code
pub checked_fault : (checks : List TypedExpr) (i : ℕ) (check : TypedExpr) (row : List Value) (code : SqlState) (o : Outcome (List Value))
    → i < length checks → check ≡ get_or checks i check → Err code ≡ and_then (value_of check (row ∷ [])) (λ v. Ok (is_false v))
    → checked (drop i checks) row ≡ o → o ≡ Err code
checked_fault checks i check row code o within is fault so_far =
    sym so_far ∙ ap (λ l. checked l row) (cut_at checks i check within is)
    ∙ ap (λ v. and_then v (λ v. cond (is_false v) (Err S23514) (checked (drop (i + 1) checks) row))) (value_fault (value_of check (row ∷ [])) code fault)

-- the same of CHECKs that are lent
pub some_fault : (checks : List (Bor TypedExpr)) (i : ℕ) (check : Bor TypedExpr) (row : List Value) (code : SqlState) (o : Outcome (List Value))
    → i < length checks → check ≡ get_or checks i check → Err code ≡ and_then (value_of check.now (row ∷ [])) (λ v. Ok (is_false v))
    → checked (map (λ (c : Bor TypedExpr). c.now) (drop i checks)) row ≡ o → o ≡ Err code
some_fault checks i check row code o within is fault so_far =
    sym so_far ∙ ap (λ l. checked (map (λ (c : Bor TypedExpr). c.now) l) row) (cut_at checks i check within is)
    ∙ ap (λ v. and_then v (λ v. cond (is_false v) (Err S23514) (checked (map (λ (c : Bor TypedExpr). c.now) (drop (i + 1) checks)) row)))
    (value_fault (value_of check.now (row ∷ [])) code fault)

-- ---- those that mention an assigned column

abbrev touches : List (ℕ × TypedExpr) → TypedExpr → Bool
touches set check = list_any (λ (a : ℕ × TypedExpr). mentions 0 a.0 check) set

next_check : (set : List (ℕ × TypedExpr)) (checks : List TypedExpr) (i : ℕ) (check : TypedExpr) (b : Bool) → i < length checks → check ≡ get_or checks i check
    → touches set check ≡ b → checks_on set (drop i checks) ≡ cond b (check ∷ checks_on set (drop (i + 1) checks)) (checks_on set (drop (i + 1) checks))
next_check set checks i check b within is e =
    ap (checks_on set) (cut_at checks i check within is) ∙ ap (λ t. cond t (check ∷ checks_on set (drop (i + 1) checks)) (checks_on set (drop (i + 1) checks))) e

-- one CHECK more, which mentions one
pub check_kept : (set : List (ℕ × TypedExpr)) (checks : List TypedExpr) (i : ℕ) (check : TypedExpr) (before after all : List TypedExpr)
    → i < length checks → check ≡ get_or checks i check → touches set check ≡ true → after ≡ before ++ check ∷ []
    → before ++ checks_on set (drop i checks) ≡ all → after ++ checks_on set (drop (i + 1) checks) ≡ all
check_kept set checks i check before after all within is e longer so_far =
    ap (λ l. l ++ checks_on set (drop (i + 1) checks)) longer ∙ append_assoc before (check ∷ []) (checks_on set (drop (i + 1) checks))
    ∙ ap (λ l. before ++ l) (sym (next_check set checks i check true within is e)) ∙ so_far

-- one that doesn't
pub check_left : (set : List (ℕ × TypedExpr)) (checks : List TypedExpr) (i : ℕ) (check : TypedExpr) (before all : List TypedExpr)
    → i < length checks → check ≡ get_or checks i check → touches set check ≡ false
    → before ++ checks_on set (drop i checks) ≡ all → before ++ checks_on set (drop (i + 1) checks) ≡ all
check_left set checks i check before all within is e so_far =
    ap (λ l. before ++ l) (sym (next_check set checks i check false within is e)) ∙ so_far
