-- Where the cells of an initial state stand.
use Rattle.std.specs.Prelude.{◌≡◌, ◌<◌, ◌⊎◌, ◌↔◌, ℕ, Some, List, Contains, length, slice_get}
use Rattle.cell_base.specs.declared.cell.Cell.{Cell}
use Rattle.cell_base.specs.declared.value.Value.{Value}
use Rattle.cell_writers.specs.declared.writers.CellWriters.{CellWriters}
use Rattle.cell_writers.specs.Writers.{numbers_at, AreAscending}

-- the cell stands at the place
abbrev pub StandsThere : List (Cell × Value) → Cell → ℕ → Type 0
StandsThere cells cell place = (value : Value) × (slice_get cells place ≡ Some (cell, value))

-- at each cell stand the places below the bound at which it is
pub record AreAtPlacesBelow (cells : List (Cell × Value)) (bound : ℕ) (places : CellWriters) : Type 0 where
  pub ascending : AreAscending places
  pub exact : (cell : Cell) (place : ℕ) → Contains (numbers_at places cell) place ↔ ((place < bound) × StandsThere cells cell place)

-- at each cell stand the places at which it is
abbrev pub AreAtPlaces : List (Cell × Value) → CellWriters → Type 0
AreAtPlaces cells places = AreAtPlacesBelow cells (length cells) places

-- the place is noted at the cell that stands there, and all that was noted
abbrev pub GainsPlace : List (Cell × Value) → ℕ → CellWriters → CellWriters → Type 0
GainsPlace cells place old new =
    (cell : Cell) (other : ℕ) → Contains (numbers_at new cell) other ↔ (Contains (numbers_at old cell) other ⊎ (StandsThere cells cell place × (other ≡ place)))

-- the value stands at the place
abbrev pub HasValueAt : List (Cell × Value) → Value → ℕ → Type 0
HasValueAt cells value place = (cell : Cell) × (slice_get cells place ≡ Some (cell, value))
