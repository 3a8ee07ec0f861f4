-- The rows that an INSERT makes have no more values than the table has columns.
use Rattle.std.proofs.Common.{◌≡◌, ℕ, ◌≤◌, Bool, true, false, cond, List, [], ◌∷◌, length, map, Ok, Err, refl, ap, arith}
use Rattle.cell_base.specs.declared.sql_state.SqlState.TheVariants.{S23502, S23514}
use Rattle.cell_base.specs.declared.value.Value.{Value}
use Rattle.cell_base.specs.declared.value.Value.TheVariants as value
use Rattle.std.specs.Prelude.{slice_get, unwrap_or}
use Rattle.sql_tree.specs.declared.table.Column.{Column}
use Rattle.sql_tree.specs.declared.table.Table.{Table}
use Rattle.sql_tree.specs.declared.typed_expr.TypedExpr.{TypedExpr}
use Rattle.typing_rules.specs.Assignment.{assigned}
use Rattle.typing_rules.specs.Outcome.{Outcome, and_then, all_of}
use Rattle.expr_eval.specs.Values.{value_of}
use Rattle.row_meaning.specs.Pictures.{TableRow}
use Rattle.row_meaning.specs.Storing.{has_no_missing, is_false, checked, stored}
use Rattle.row_meaning.specs.Insertion.{row_of, key_of, keyed_row, is_key_below, placed, by_keys}
use Rattle.row_writes.specs.Widths.{AreWithin}

-- where both of two steps succeed
from : {A B : Type 0} (P : Type 0) (o : Outcome A) (f : A → Outcome B) (b : B) → and_then o f ≡ Ok b → ((a : A) → o ≡ Ok a → f a ≡ Ok b → P) → P
from P (Ok a) f b e go = go a refl e
from P (Err code) f b e go = cc

row_narrow : (cs : List Column) (es : List TypedExpr) (row : List Value) → row_of cs es ≡ Ok row → length row ≤ length cs
row_narrow [] es row e = let none : [] ≡ row = cc in omega (arith, ap length none)
row_narrow (c ∷ cs) [] row e = let none : [] ≡ row = cc in omega (arith, ap length none)
row_narrow (c ∷ cs) (x ∷ es) row e =
    from (length row ≤ length (c ∷ cs)) (and_then (value_of x []) (assigned c.kind)) (λ v. and_then (row_of cs es) (λ vs. Ok (v ∷ vs))) row e (λ v _ f.
    from (length row ≤ length (c ∷ cs)) (row_of cs es) (λ vs. Ok (v ∷ vs)) row f (λ vs g h.
    let few : length vs ≤ length cs = row_narrow cs es vs g in
    let is : v ∷ vs ≡ row = cc in
    omega (arith, ap length is)))

tested : (b : Bool) (o : Outcome (List Value)) (out : List Value) (P : Type 0) → cond b (Err S23514) o ≡ Ok out → (o ≡ Ok out → P) → P
tested true o out P e go = cc
tested false o out P e go = go e

checked_same : (checks : List TypedExpr) (row out : List Value) → checked checks row ≡ Ok out → row ≡ out
checked_same [] row out e = cc
checked_same (check ∷ checks) row out e =
    from (row ≡ out) (value_of check (row ∷ [])) (λ v. cond (is_false v) (Err S23514) (checked checks row)) out e (λ v _ f.
    tested (is_false v) (checked checks row) out (row ≡ out) f (λ g. checked_same checks row out g))

stored_same : (columns : List Column) (checks : List TypedExpr) (row out : List Value) → stored columns checks row ≡ Ok out → row ≡ out
stored_same columns checks row out e = chosen (has_no_missing columns row) e
  where
    chosen : (b : Bool) → cond {A = Outcome (List Value)} b (checked checks row) (Err S23502) ≡ Ok out → row ≡ out
    chosen true e = checked_same checks row out e
    chosen false e = cc

keyed_narrow : (table : Table) (exprs : List TypedExpr) (row : TableRow) → keyed_row table exprs ≡ Ok row → length row.1 ≤ length table.columns
keyed_narrow table exprs row e =
    from (length row.1 ≤ length table.columns) (row_of table.columns exprs)
    (λ made. and_then (stored table.columns table.checks made) (λ r. and_then (key_of (unwrap_or (slice_get r table.key) value.Null)) (λ k. Ok (k, r)))) row e (λ made f g.
    from (length row.1 ≤ length table.columns) (stored table.columns table.checks made)
    (λ r. and_then (key_of (unwrap_or (slice_get r table.key) value.Null)) (λ k. Ok (k, r))) row g (λ r h i.
    from (length row.1 ≤ length table.columns) (key_of (unwrap_or (slice_get r table.key) value.Null)) (λ k. Ok (k, r)) row i (λ k _ j.
    let few : length made ≤ length table.columns = row_narrow table.columns exprs made f in
    let same : made ≡ r = stored_same table.columns table.checks made r h in
    let is : (k, r) ≡ row = inside (k, r) row j in
    let last : r ≡ row.1 = ap (λ (x : TableRow). x.1) is in
    omega (arith, ap length same, ap length last))))
  where
    inside : (a b : TableRow) → ◌≡◌ {A = Outcome TableRow} (Ok a) (Ok b) → a ≡ b
    inside a b e = cc

pub all_narrow : (table : Table) (rows : List (List TypedExpr)) (made : List TableRow) → all_of (map (keyed_row table) rows) ≡ Ok made
    → AreWithin (length table.columns) made
all_narrow table [] made e = let none : [] ≡ made = cc in rw (← none) tt
all_narrow table (row ∷ rows) made e =
    from (AreWithin (length table.columns) made) (keyed_row table row) (λ x. and_then (all_of (map (keyed_row table) rows)) (λ xs. Ok (x ∷ xs))) made e (λ x f g.
    from (AreWithin (length table.columns) made) (all_of (map (keyed_row table) rows)) (λ xs. Ok (x ∷ xs)) made g (λ xs h i.
    let is : x ∷ xs ≡ made = cc in
    rw (← is) (keyed_narrow table row x f, all_narrow table rows xs h)))

placed_narrow : (width : ℕ) (row : TableRow) (rows : List TableRow) → length row.1 ≤ width → AreWithin width rows → AreWithin width (placed row rows)
placed_narrow width row [] h all = (h, tt)
placed_narrow width row (other ∷ others) h all = chosen (placed_narrow width row others h all.1) (is_key_below other.0 row.0)
  where
    chosen : AreWithin width (placed row others) → (b : Bool) → AreWithin width (cond b (other ∷ placed row others) (row ∷ other ∷ others))
    chosen more true = (all.0, more)
    chosen more false = (h, all)

sorted_narrow : (width : ℕ) (rows : List TableRow) → AreWithin width rows → AreWithin width (by_keys rows)
sorted_narrow width [] all = tt
sorted_narrow width (row ∷ rows) all = placed_narrow width row (by_keys rows) all.0 (sorted_narrow width rows all.1)

-- in order too
pub by_keys_narrow : (width : ℕ) (rows sorted : List TableRow) → sorted ≡ by_keys rows → AreWithin width rows → AreWithin width sorted
by_keys_narrow width rows sorted is all = rw is (sorted_narrow width rows all)
