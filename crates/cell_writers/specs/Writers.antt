-- Which numbers are noted at each cell.
use Rattle.std.specs.Prelude.{◌≡◌, ◌<◌, ◌≤◌, ◌⊎◌, ◌↔◌, ℕ, List, Contains, length, get_or}
use Rattle.std.specs.List.Sorted.{IsStrictlyIncreasing}
use Rattle.indexmap.specs.IndexMap.{get}
use Rattle.cell_base.specs.declared.cell.Cell.{Cell}
use Rattle.cell_base.specs.declared.value.Value.{Value}
use Rattle.indexed_history.specs.Index.{same_cell, some_numbers}
use Rattle.cell_writers.specs.declared.writers.CellWriters.{CellWriters}

-- the numbers that are noted at the cell
abbrev pub numbers_at : CellWriters → Cell → List ℕ
numbers_at writers cell = some_numbers (get same_cell writers.lists cell)

-- each list ascends
abbrev pub AreAscending : CellWriters → Type 0
AreAscending writers = (cell : Cell) → IsStrictlyIncreasing (numbers_at writers cell)

-- the number is noted at the cell, and all that was noted
abbrev pub GainsWriter : CellWriters → Cell → ℕ → CellWriters → Type 0
GainsWriter old cell number new = (q : Cell) (other : ℕ) → Contains (numbers_at new q) other ↔ (Contains (numbers_at old q) other ⊎ ((q ≡ cell) × (other ≡ number)))

-- the cell is one of those that were written
abbrev pub IsWritten : List (Cell × Value) → Cell → Type 0
IsWritten writes cell = (value : Value) × Contains writes (cell, value)

-- the number is noted at each cell that was written, and all that was noted
abbrev pub GainsWrites : CellWriters → List (Cell × Value) → ℕ → CellWriters → Type 0
GainsWrites old writes number new =
    (q : Cell) (other : ℕ) → Contains (numbers_at new q) other ↔ (Contains (numbers_at old q) other ⊎ (IsWritten writes q × (other ≡ number)))

-- of the numbers the greatest up to the limit
pub record IsLastUpTo (numbers : List ℕ) (limit number : ℕ) : Type 0 where
  pub is : Contains numbers number
  pub within : number ≤ limit
  pub greatest : (other : ℕ) → Contains numbers other → other ≤ limit → other ≤ number

-- the limit is none of the numbers, and the first one above it, or the end, stands at the place
pub record IsFirstAbove (numbers : List ℕ) (limit at : ℕ) : Type 0 where
  pub within : at ≤ length numbers
  pub below : (k : ℕ) → k < at → get_or numbers k 0 < limit
  pub above : (k : ℕ) → at ≤ k → k < length numbers → limit < get_or numbers k 0
