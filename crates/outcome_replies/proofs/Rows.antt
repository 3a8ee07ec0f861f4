-- Each row of a SELECT has one value for each item, and its message isn't too long.
use Rattle.std.proofs.Common.{◌≡◌, ℕ, zero, suc, ◌+◌, ◌≤◌, Bool, true, false, List, [], ◌∷◌, ◌++◌, length, map, refl, ap, arith, Ok, Err, Some, None, All, length-append}
use Rattle.std.specs.Prelude.{ℤ, Option, take, drop, flat_map, sum_by, nat_le}
use Rattle.std.specs.Ordering.{is_lt}
use Rattle.std.specs.List.{AllByRecursion}
use Rattle.std.proofs.lemmas.Bool.{cond_both}
use Rattle.std.proofs.lemmas.Bool.Decides.{nat_tests}
use Rattle.std.proofs.lemmas.List.Elements.{All-nil, All-cons}
use Rattle.std.proofs.lemmas.List.Sums.{sum_by-cons}
use Rattle.cell_base.specs.declared.sql_state.SqlState.TheVariants.{S54000}
use Rattle.cell_base.specs.declared.value.Value.{Value}
use Rattle.pg_framing.specs.Spelling.{four_bytes}
use Rattle.pg_framing.specs.Replies.{two_bytes, value_bytes, framed, data_row}
use Rattle.pg_framing.proofs.Numbers.{length-four_bytes}
use Rattle.sql_tree.specs.declared.typed.TypedSelect.{TypedSelect}
use Rattle.sql_tree.specs.declared.typed_expr.TypedExpr.{TypedExpr}
use Rattle.typing_rules.specs.Outcome.{Outcome, all_of}
use Rattle.typing_rules.specs.Sound.{Holds}
use Rattle.typing_rules.proofs.Numbers.{then_holds}
use Rattle.expr_eval.specs.Values.{Row, value_of}
use Rattle.row_meaning.specs.declared.picture.TableRows.{TableRows}
use Rattle.row_meaning.specs.Pictures.{values_shown}
use Rattle.row_meaning.specs.Combinations.{combinations, kept_by}
use Rattle.row_meaning.specs.Groups.{Call, call_value, calls_of, group_value, group_values, operand_values}
use Rattle.row_meaning.specs.Ordering.{Sorted, order_by, placed, ordered, count_of, cut}
use Rattle.row_meaning.specs.Selection.{sorted_row, plain_rows, group_row, result_rows, limited, selected, most_bytes}
use Rattle.outcome_replies.specs.Replies.{RowFits}

-- ---- what an evaluation comes to

anything : {A : Type 0} (o : Outcome A) → Holds (λ (a : A). Unit {0}) o
anything (Ok a) = tt
anything (Err code) = tt

all_hold : {A B : Type 0} (P : B → Type 0) (f : A → Outcome B) (xs : List A) → ((a : A) → Holds P (f a)) → Holds (AllByRecursion P) (all_of (map f xs))
all_hold P f [] h = tt
all_hold P f (x ∷ xs) h =
    then_holds P (AllByRecursion P) (f x) _ (h x)
    (λ y hy. then_holds (AllByRecursion P) (AllByRecursion P) (all_of (map f xs)) (λ ys. Ok (y ∷ ys)) (all_hold P f xs h) (λ ys hys. (hy, hys)))

-- one value for each of them
all_length : {A B : Type 0} (f : A → Outcome B) (xs : List A) → Holds (λ (ys : List B). length ys ≡ length xs) (all_of (map f xs))
all_length f [] = refl
all_length {A} {B} f (x ∷ xs) =
    then_holds (λ (y : B). Unit {0}) (λ (ys : List B). length ys ≡ length (x ∷ xs)) (f x) _ (anything (f x))
    (λ y _. then_holds (λ (ys : List B). length ys ≡ length xs) (λ (ys : List B). length ys ≡ length (x ∷ xs)) (all_of (map f xs)) (λ ys. Ok (y ∷ ys)) (all_length f xs) (λ ys is. ap suc is))

-- ---- so many values in each row

abbrev pub HasWidth : ℕ → List Value → Type 0
HasWidth n row = length row ≡ n

abbrev pub IsSortedWide : ℕ → Sorted → Type 0
IsSortedWide n row = length row.values ≡ n

sorted_wide : (select : TypedSelect) (row : Row) → Holds (IsSortedWide (length select.items)) (sorted_row select row)
sorted_wide select row =
    then_holds (HasWidth (length select.items)) (IsSortedWide (length select.items)) (all_of (map (λ e. value_of e row) select.items)) _ (all_length (λ e. value_of e row) select.items)
    (λ values is.
    then_holds (λ (terms : List Value). Unit {0}) (IsSortedWide (length select.items)) (all_of (map (λ (t : TypedExpr × Bool). value_of t.0 row) select.order)) _
    (anything (all_of (map (λ (t : TypedExpr × Bool). value_of t.0 row) select.order))) (λ terms _. is))

placed_all : (P : Sorted → Type 0) (directions : List Bool) (row : Sorted) (others : List Sorted) → P row → AllByRecursion P others → AllByRecursion P (placed directions row others)
placed_all P directions row [] h k = (h, tt)
placed_all P directions row (other ∷ others) h k =
    cond_both (is_lt (order_by directions other.terms row.terms)) _ _ (AllByRecursion P) (λ _. (k.0, placed_all P directions row others h k.1)) (λ _. (h, k))

ordered_all : (P : Sorted → Type 0) (directions : List Bool) (rows : List Sorted) → AllByRecursion P rows → AllByRecursion P (ordered directions rows)
ordered_all P directions [] h = tt
ordered_all P directions (row ∷ rows) h = placed_all P directions row (ordered directions rows) h.0 (ordered_all P directions rows h.1)

values_wide : (n : ℕ) (rows : List Sorted) → AllByRecursion (IsSortedWide n) rows → AllByRecursion (HasWidth n) (map (λ (r : Sorted). r.values) rows)
values_wide n [] h = tt
values_wide n (row ∷ rows) h = (h.0, values_wide n rows h.1)

plain_wide : (select : TypedSelect) (rows : List Row) → Holds (AllByRecursion (HasWidth (length select.items))) (plain_rows select rows)
plain_wide select rows =
    then_holds (AllByRecursion (IsSortedWide (length select.items))) (AllByRecursion (HasWidth (length select.items))) (all_of (map (sorted_row select) rows)) _
    (all_hold (IsSortedWide (length select.items)) (sorted_row select) rows (sorted_wide select))
    (λ results h. values_wide (length select.items) (ordered (map (λ (t : TypedExpr × Bool). t.1) select.order) results)
    (ordered_all (IsSortedWide (length select.items)) (map (λ (t : TypedExpr × Bool). t.1) select.order) results h))

group_wide : (select : TypedSelect) (rows : List Row) → Holds (AllByRecursion (HasWidth (length select.items))) (group_row select rows)
group_wide select rows =
    then_holds (HasWidth (length select.items)) (AllByRecursion (HasWidth (length select.items))) (group_values select.items rows) _
    (then_holds (λ (evaluated : List (List Value)). Unit {0}) (HasWidth (length select.items)) (all_of (map (operand_values (calls_of select.items)) rows)) _
    (anything (all_of (map (operand_values (calls_of select.items)) rows))) (λ evaluated _.
    then_holds (λ (totals : List Value). Unit {0}) (HasWidth (length select.items)) (all_of (map (λ (call : Call). call_value call rows) (calls_of select.items))) _
    (anything (all_of (map (λ (call : Call). call_value call rows) (calls_of select.items)))) (λ totals _. all_length (λ e. group_value e rows) select.items)))
    (λ values is. (is, tt))

results_wide : (grouped : Bool) (select : TypedSelect) (rows : List Row) → Holds (AllByRecursion (HasWidth (length select.items))) (result_rows grouped select rows)
results_wide true select rows = group_wide select rows
results_wide false select rows = plain_wide select rows

-- ---- those that OFFSET and LIMIT leave

drop_keeps : {A : Type 0} (P : A → Type 0) (n : ℕ) (xs : List A) → AllByRecursion P xs → AllByRecursion P (drop n xs)
drop_keeps P zero xs h = h
drop_keeps P (suc n) [] h = h
drop_keeps P (suc n) (x ∷ xs) h = drop_keeps P n xs h.1

take_keeps : {A : Type 0} (P : A → Type 0) (n : ℕ) (xs : List A) → AllByRecursion P xs → AllByRecursion P (take n xs)
take_keeps P zero xs h = tt
take_keeps P (suc n) [] h = tt
take_keeps P (suc n) (x ∷ xs) h = (h.0, take_keeps P n xs h.1)

cut_keeps : {A : Type 0} (P : A → Type 0) (offset : ℤ) (limit : Option ℤ) (xs : List A) → AllByRecursion P xs → AllByRecursion P (cut offset limit xs)
cut_keeps P offset None xs h = drop_keeps P (count_of offset) xs h
cut_keeps P offset (Some limit) xs h = take_keeps P (count_of limit) (drop (count_of offset) xs) (drop_keeps P (count_of offset) xs h)

-- ---- their messages

length-data_row : (row : List Value) → length (data_row row) ≡ 5 + length (two_bytes (length row) ++ flat_map value_bytes row)
unfolding data_row framed
length-data_row row =
    let body : List ℕ = two_bytes (length row) ++ flat_map value_bytes row in
    omega (arith, length-append (four_bytes (4 + length body)) body, length-four_bytes (4 + length body))

row_fits : (n : ℕ) (row : List Value) → n ≤ 1664 → length row ≡ n → length (data_row row) ≤ 16777216 → RowFits row
row_fits n row few wide h = record {
  few = omega (arith, few, wide);
  fits = omega (arith, h, length-data_row row);
}

rows_fits : (n : ℕ) (rows : List (List Value)) → n ≤ 1664 → AllByRecursion (HasWidth n) rows → sum_by (λ row. length (data_row row)) rows ≤ 16777216 → All RowFits rows
rows_fits n [] few wide h = All-nil RowFits
rows_fits n (row ∷ rows) few wide h =
    let sum = sum_by-cons (λ (r : List Value). length (data_row r)) row rows in
    All-cons RowFits row rows (row_fits n row few wide.0 (omega (arith, h, sum))) (rows_fits n rows few wide.1 (omega (arith, h, sum)))

within_most : (n : ℕ) → nat_le n most_bytes ≡ true → n ≤ 16777216
within_most n h = grind (arith, nat_tests)

limited_fits : (n : ℕ) (rows : List (List Value)) → n ≤ 1664 → AllByRecursion (HasWidth n) rows → Holds (All RowFits) (limited rows)
limited_fits n rows few wide =
    cond_both (nat_le (sum_by (λ row. length (data_row row)) rows) most_bytes) (Ok rows) (Err S54000) (Holds (All RowFits))
    (λ e. rows_fits n rows few wide (within_most (sum_by (λ row. length (data_row row)) rows) e)) (λ _. tt)

pub selected_fits : (select : TypedSelect) (picture : List TableRows) → length select.items ≤ 1664 → Holds (All RowFits) (selected select picture)
unfolding selected
selected_fits select picture few =
    then_holds (λ (rows : List Row). Unit {0}) (All RowFits) (kept_by select.conditions (combinations (map (values_shown picture) select.tables))) _
    (anything (kept_by select.conditions (combinations (map (values_shown picture) select.tables))))
    (λ rows _.
    then_holds (AllByRecursion (HasWidth (length select.items))) (All RowFits) (result_rows select.aggregate select rows) _ (results_wide select.aggregate select rows)
    (λ results wide. limited_fits (length select.items) (cut select.offset select.limit results) few (cut_keeps (HasWidth (length select.items)) select.offset select.limit results wide)))
