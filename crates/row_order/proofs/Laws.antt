-- The defined order is a stable sort, and the only one.
use Rattle.std.proofs.Common.{◌≡◌, Bool, true, false, cond, List, [], ◌∷◌, map, refl, sym, ap, ◌∙◌, subst}
use Rattle.std.specs.List.Sorted.{IsSortedBy, IsStableBy}
use Rattle.std.specs.Cmp.{IsStrictWeakOrder}
use Rattle.row_meaning.specs.Ordering.{Sorted, is_before, placed, ordered}
use Rattle.row_order.specs.Order.{IsInOrder, Sorts, OnlyOneSorts}
use Rattle.row_order.specs.Rows.{sorted_of}
use Rattle.row_order.specs.declared.sorting.SortedRow.{SortedRow}
use Rattle.row_order.proofs.Placing.{put, put_all, all_permutes, all_rises, all_stable, sorted_from_rises, is_put_all}
use Rattle.row_order.proofs.Comparing.{before_weak}

placed_is : (ds : List Bool) (row : Sorted) (rows : List Sorted) → placed ds row rows ≡ put (is_before ds) row rows
placed_is ds row [] = refl
placed_is ds row (other ∷ rows) = ap (λ r. cond (is_before ds other row) (other ∷ r) (row ∷ other ∷ rows)) (placed_is ds row rows)

ordered_is : (ds : List Bool) (rows : List Sorted) → ordered ds rows ≡ put_all (is_before ds) rows
ordered_is ds [] = refl
ordered_is ds (row ∷ rows) = placed_is ds row (ordered ds rows) ∙ ap (put (is_before ds) row) (ordered_is ds rows)

pub sorts : Sorts
sorts ds rows =
    subst (IsInOrder ds rows) (sym (ordered_is ds rows))
    (record {
      permutation = all_permutes (is_before ds) rows;
      ascending = sorted_from_rises (is_before ds) (before_weak ds) (put_all (is_before ds) rows) (all_rises (is_before ds) (before_weak ds) rows);
      stable = all_stable (is_before ds) (before_weak ds) rows;
    })

pub only_one_sorts : OnlyOneSorts
only_one_sorts ds rows result h = is_put_all (is_before ds) (before_weak ds) rows result h.ascending h.stable ∙ sym (ordered_is ds rows)

-- ---- the rows that the code has

abbrev pub row_before : List Bool → SortedRow → SortedRow → Bool
row_before ds a b = is_before ds (sorted_of a) (sorted_of b)

put_mapped : (ds : List Bool) (row : SortedRow) (rows : List SortedRow) → map sorted_of (put (row_before ds) row rows) ≡ placed ds (sorted_of row) (map sorted_of rows)
put_mapped ds row [] = refl
put_mapped ds row (other ∷ rows) = by (put_mapped ds row rows) (row_before ds other row)
  where
    by : map sorted_of (put (row_before ds) row rows) ≡ placed ds (sorted_of row) (map sorted_of rows) → (b : Bool)
        → map sorted_of (cond b (other ∷ put (row_before ds) row rows) (row ∷ other ∷ rows)) ≡ cond b (sorted_of other ∷ placed ds (sorted_of row) (map sorted_of rows)) (sorted_of row ∷ sorted_of other ∷ map sorted_of rows)
    by more true = ap (λ r. sorted_of other ∷ r) more
    by more false = refl

all_mapped : (ds : List Bool) (rows : List SortedRow) → map sorted_of (put_all (row_before ds) rows) ≡ ordered ds (map sorted_of rows)
all_mapped ds [] = refl
all_mapped ds (row ∷ rows) = put_mapped ds row (put_all (row_before ds) rows) ∙ ap (placed ds (sorted_of row)) (all_mapped ds rows)

pub sorted_is : (ds : List Bool) (rows out : List SortedRow) → IsStrictWeakOrder (row_before ds) → IsSortedBy (row_before ds) out → IsStableBy (row_before ds) rows out → map sorted_of out ≡ ordered ds (map sorted_of rows)
sorted_is ds rows out o up stable = ap (map sorted_of) (is_put_all (row_before ds) o rows out up stable) ∙ all_mapped ds rows
