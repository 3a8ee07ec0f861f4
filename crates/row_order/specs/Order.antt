-- What ORDER BY promises (PostgreSQL's documentation, "Sorting Rows").
use Rattle.std.specs.Prelude.{◌≡◌, Bool, List}
use Rattle.std.specs.List.Sorted.{IsPermutation, IsSortedBy, IsStableBy}
use Rattle.row_meaning.specs.Ordering.{Sorted, is_before, ordered}

-- the same rows; none has to stand before the one before it; those that tie stand as they stood
pub record IsInOrder (directions : List Bool) (rows result : List Sorted) : Type 0 where
  pub permutation : IsPermutation rows result
  pub ascending : IsSortedBy (is_before directions) result
  pub stable : IsStableBy (is_before directions) rows result

abbrev pub Sorts : Type 0
Sorts = (directions : List Bool) (rows : List Sorted) → IsInOrder directions rows (ordered directions rows)

abbrev pub OnlyOneSorts : Type 0
OnlyOneSorts = (directions : List Bool) (rows result : List Sorted) → IsInOrder directions rows result → result ≡ ordered directions rows
