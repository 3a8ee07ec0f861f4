-- What a transaction has written: cells with their last values, in order of first write.
use Rattle.std.specs.Prelude.{◌≡◌, ◌≢◌, ◌⊎◌, ◌↔◌, ℕ, Some, List, [], ◌∷◌, ◌++◌, Contains, slice_get, map}
use Rattle.cell_base.specs.declared.cell.Cell.{Cell}
use Rattle.cell_base.specs.declared.value.Value.{Value}

-- the writes, and the number of cells that there is spare room for
pub record Buffer : Type 0 where
  pub writes : List (Cell × Value)
  pub spare : ℕ

-- each cell stands once
abbrev pub IsMap : List (Cell × Value) → Type 0
IsMap writes = (i j : ℕ) (a b : Cell × Value) → slice_get writes i ≡ Some a → slice_get writes j ≡ Some b → a.0 ≡ b.0 → i ≡ j

-- the cell stands at the place
pub record StandsAt (writes : List (Cell × Value)) (cell : Cell) (at : ℕ) : Type 0 where
  pub value : Value
  pub is : slice_get writes at ≡ Some (cell, value)

-- the cell isn't there
abbrev pub IsAbsent : List (Cell × Value) → Cell → Type 0
IsAbsent writes cell = (value : Value) → ¬ Contains writes (cell, value)

-- the new writes have this value at the cell, and the old values at the other cells
abbrev pub Puts : List (Cell × Value) → List (Cell × Value) → Cell → Value → Type 0
Puts old new cell value =
    (x : Cell) (v : Value) → Contains new (x, v) ↔ (((x ≡ cell) × (v ≡ value)) ⊎ ((x ≢ cell) × Contains old (x, v)))

abbrev pub cells_of : List (Cell × Value) → List Cell
cells_of writes = map (λ write. write.0) writes

-- the cells keep their order, and a new one comes last
abbrev pub KeepsOrder : List (Cell × Value) → List (Cell × Value) → Cell → Type 0
KeepsOrder old new cell = (cells_of new ≡ cells_of old) ⊎ (cells_of new ≡ cells_of old ++ cell ∷ [])
