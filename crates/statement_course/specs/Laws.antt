-- What holds of courses: a statement touches each cell at most once, and all before it writes.
use Rattle.std.specs.Prelude.{◌≢◌, ◌<◌, ℕ, ℤ, ⊤, List, [], ◌∷◌, Contains}
use Rattle.cell_base.specs.declared.cell.Cell.{Cell}
use Rattle.cell_base.specs.declared.cell.Cell.TheVariants.{Presence, Field}
use Rattle.cell_base.specs.declared.key.Key.{Key}
use Rattle.cell_base.specs.declared.value.Value.{Value}
use Rattle.cell_base.specs.declared.value.Value.TheVariants.{Unset, Wide}
use Rattle.statement_course.specs.Course.{Course, scan, touch, write, done}

-- the number of the table of a cell
abbrev pub table_number : Cell → ℕ
table_number (Presence table key) = table
table_number (Field table key column) = table

-- a value that a cell may hold: neither unset nor wide
abbrev pub MayStand : Value → Type 0
MayStand value = (value ≢ Unset) × ((wide : ℤ) → value ≢ Wide wide)

-- nothing is asked for any more: cells of the first so many tables are written, with values that a cell may hold
abbrev pub OnlyWrites : ℕ → Course → Type 0
OnlyWrites tables (scan table rest) = ⊥
OnlyWrites tables (touch cell rest) = ⊥
OnlyWrites tables (write cell value rest) = (table_number cell < tables) × MayStand value × OnlyWrites tables rest
OnlyWrites tables (done outcome) = ⊤

-- cells of the first so many tables are asked for, and then only written
abbrev pub ReadsFirst : ℕ → Course → Type 0
ReadsFirst tables (scan table rest) = (table < tables) × ((keys : List Key) → ReadsFirst tables (rest keys))
ReadsFirst tables (touch cell rest) = (table_number cell < tables) × ((value : Value) → ReadsFirst tables (rest value))
ReadsFirst tables (write cell value rest) = OnlyWrites tables (write cell value rest)
ReadsFirst tables (done outcome) = ⊤

abbrev pub AreDistinct : List Key → Type 0
AreDistinct [] = ⊤
AreDistinct (key ∷ keys) = (Contains keys key → ⊥) × AreDistinct keys

-- no cell is asked for that was asked for before, where scans list each key once
abbrev pub TouchesOnce : List Cell → Course → Type 0
TouchesOnce before (scan table rest) = (keys : List Key) → AreDistinct keys → TouchesOnce before (rest keys)
TouchesOnce before (touch cell rest) = (Contains before cell → ⊥) × ((value : Value) → TouchesOnce (cell ∷ before) (rest value))
TouchesOnce before (write cell value rest) = TouchesOnce before rest
TouchesOnce before (done outcome) = ⊤
