-- How far the committed writers of each cell reach in the order.
use Rattle.std.specs.Prelude.{◌≡◌, ◌<◌, ◌≤◌, ◌+◌, ℕ, Some, List, Contains, length, slice_get, slice_index}
use Rattle.cell_writers.specs.declared.cell_note.CellNote.{CellNote}
use Rattle.cell_writers.specs.declared.cell_note.CellNotes.{CellNotes}
use Rattle.order_test.specs.declared.reaches.CellReaches.{CellReaches}

-- the first n of the numbers stand for places from the start on, none of which is before the place of such a number up to it
pub record IsReachUpTo (places numbers highest : List ℕ) (start n : ℕ) : Type 0 where
  pub within : start + n ≤ length highest
  pub reach : (i k : ℕ) → i ≤ k → k < n → slice_index places (slice_index numbers i) ≤ slice_index highest (start + k)

abbrev pub IsReach : List ℕ → List ℕ → List ℕ → ℕ → Type 0
IsReach places numbers highest start = IsReachUpTo places numbers highest start (length numbers)

-- the numbers' places are put after what stood there
pub record AddsReach (places numbers : List ℕ) (n : ℕ) (old new : List ℕ) : Type 0 where
  pub count : length new ≡ length old + n
  pub kept : (k : ℕ) → k < length old → slice_index new k ≡ slice_index old k
  pub reach : IsReachUpTo places numbers new (length old) n

-- so it is with the committed transactions at each of the first n numbers of cells
pub record AreReachesUpTo (places : List ℕ) (notes : List CellNote) (n : ℕ) (reaches : CellReaches) : Type 0 where
  pub count : length reaches.starts.items ≡ n
  pub each : (at : ℕ) (note : CellNote) → at < n → slice_get notes at ≡ Some note →
      IsReach places note.committed reaches.highest.items (slice_index reaches.starts.items at)

abbrev pub AreReaches : List ℕ → CellNotes → CellReaches → Type 0
AreReaches places cells reaches = AreReachesUpTo places cells.notes.items (length cells.notes.items) reaches

-- none of the numbers up to the limit has a place after that of the source
abbrev pub StandNoFurther : List ℕ → List ℕ → ℕ → ℕ → Type 0
StandNoFurther places numbers limit from =
    (number : ℕ) → Contains numbers number → number ≤ limit → slice_index places number ≤ slice_index places from
