-- Which transactions an index lists at each cell.
use Rattle.std.specs.Prelude.{◌≡◌, ◌≢◌, ◌⊎◌, ◌↔◌, ℕ, Bool, Option, Some, None, List, [], Contains}
use Rattle.std.specs.List.Sorted.{IsStrictlyIncreasing}
use Rattle.indexmap.specs.IndexMap.{get}
use Rattle.cell_base.specs.declared.cell.Cell.{Cell}
use Rattle.cell_base.specs.contracts.cell.CellPartialEq.TheImpl as cell_eq
use Rattle.cell_base.specs.declared.value.Value.{Value}
use Rattle.history_core.specs.declared.event.Event.{Event}
use Rattle.indexed_history.specs.declared.index.Index.{Index}
use Rattle.indexed_history.specs.Writers.{ListsWriters}

abbrev pub same_cell : Cell → Cell → Bool
same_cell = (cell_eq.ghosts).eq

abbrev pub some_numbers : Option (List ℕ) → List ℕ
some_numbers None = []
some_numbers (Some numbers) = numbers

-- the numbers that are listed at the cell
abbrev pub numbers_at : Index → Cell → List ℕ
numbers_at index cell = some_numbers (get same_cell index.lists cell)

-- the index lists the writers of each cell
abbrev pub IsIndex : List Event → Index → Type 0
IsIndex events index = (cell : Cell) → ListsWriters events cell (numbers_at index cell)

-- each list ascends
abbrev pub AreAscending : Index → Type 0
AreAscending index = (cell : Cell) → IsStrictlyIncreasing (numbers_at index cell)

-- the numbers and this one, and no other
abbrev pub GainsNumber : List ℕ → ℕ → List ℕ → Type 0
GainsNumber old number new = (other : ℕ) → Contains new other ↔ (Contains old other ⊎ (other ≡ number))

-- the numbers without this one
abbrev pub LosesNumber : List ℕ → ℕ → List ℕ → Type 0
LosesNumber old number new = (other : ℕ) → Contains new other ↔ (Contains old other × (other ≢ number))

-- the number is listed at the cell, and all that was listed
abbrev pub GainsWriter : Index → Cell → ℕ → Index → Type 0
GainsWriter old cell number new = (q : Cell) (other : ℕ) → Contains (numbers_at new q) other ↔ (Contains (numbers_at old q) other ⊎ ((q ≡ cell) × (other ≡ number)))

-- the number isn't listed at the cell, and else all that was listed
abbrev pub LosesWriter : Index → Cell → ℕ → Index → Type 0
LosesWriter old cell number new = (q : Cell) (other : ℕ) → Contains (numbers_at new q) other ↔ (Contains (numbers_at old q) other × (¬ ((q ≡ cell) × (other ≡ number))))

-- the same numbers at each cell
abbrev pub ListsSame : Index → Index → Type 0
ListsSame old new = (q : Cell) → numbers_at new q ≡ numbers_at old q

-- the number isn't listed at the cells that were written, and each other number is listed where it was
pub record Forgets (old : Index) (writes : List (Cell × Value)) (number : ℕ) (new : Index) : Type 0 where
  pub ascending : AreAscending new
  pub fewer : (q : Cell) (other : ℕ) → Contains (numbers_at new q) other → Contains (numbers_at old q) other
  pub others : (q : Cell) (other : ℕ) → other ≢ number → Contains (numbers_at old q) other → Contains (numbers_at new q) other
  pub gone : (q : Cell) (value : Value) → Contains writes (q, value) → ¬ Contains (numbers_at new q) number
