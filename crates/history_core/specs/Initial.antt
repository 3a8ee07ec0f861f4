-- The initial state of a history: what the initial transaction wrote, and its weight.
use Rattle.std.specs.Prelude.{◌≡◌, ◌≢◌, ◌<◌, ◌+◌, ◌/◌, ◌⊎◌, ℕ, ℤ, true, false, Some, List, Contains, length, slice_get, sum_by}
use Rattle.cell_base.specs.declared.cell.Cell.{Cell}
use Rattle.cell_base.specs.declared.cell.Cell.TheVariants.{Presence, Field}
use Rattle.cell_base.specs.declared.key.Key.{Key}
use Rattle.cell_base.specs.declared.value.Value.{Value}
use Rattle.cell_base.specs.declared.value.Value.TheVariants.{Unset, Flag, Wide}
use Rattle.cell_base.specs.contracts.cell.CellOrd.TheImpl as cell_order
use Rattle.std.specs.declared.cmp.Ordering.TheVariants.{Less}
use Rattle.sql_tree.specs.declared.table.Table.{Table}
use Rattle.txn_buffer.specs.Buffer.{IsAbsent}
use Rattle.history_core.specs.declared.event.Event.{Event}
use Rattle.history_core.specs.Events.{cell_bytes, value_bytes, weights_of}

-- what stands in a cell that the initial state doesn't have: the row isn't there
abbrev pub absent_value : Cell → Value
absent_value (Presence table key) = Flag false
absent_value (Field table key column) = Unset

-- the initial transaction wrote the value to the cell
abbrev pub WritesInitially : List (Cell × Value) → Cell → Value → Type 0
WritesInitially initial cell value = Contains initial (cell, value) ⊎ (IsAbsent initial cell × (value ≡ absent_value cell))

-- the row of the key is there from the start
abbrev pub IsThereInitially : List (Cell × Value) → ℕ → Key → Type 0
IsThereInitially initial table key = Contains initial (Presence table key, Flag true)

-- neither unset nor wide
abbrev pub IsStorable : Value → Type 0
IsStorable value = (value ≢ Unset) × ((wide : ℤ) → value ≢ Wide wide)

-- what may stand in a cell: of a row that is there, that it is; of its fields, what can be written
abbrev pub FitsCell : List (Cell × Value) → Cell → Value → Type 0
FitsCell initial (Presence table key) value = value ≡ Flag true
FitsCell initial (Field table key column) value = IsThereInitially initial table key × IsStorable value

-- each cell is below those after it, as cells are ordered
abbrev pub IsAscending : List (Cell × Value) → Type 0
IsAscending cells =
    (i j : ℕ) (a b : Cell × Value) → i < j → slice_get cells i ≡ Some a → slice_get cells j ≡ Some b → (cell_order.ghosts).cmp a.0 b.0 ≡ Less

-- a map from cells to values, ascending by cell: the presences of rows that are there, and fields of such rows
pub record IsInitialState (initial : List (Cell × Value)) : Type 0 where
  pub ascending : IsAscending initial
  pub fits : (cell : Cell) (value : Value) → Contains initial (cell, value) → FitsCell initial cell value

-- each row that is there is one of these tables, and has each field but the key's, and no other
pub record HoldsWholeRows (tables : List Table) (initial : List (Cell × Value)) : Type 0 where
  pub known : (table : ℕ) (key : Key) → IsThereInitially initial table key → table < length tables
  pub whole : (table : ℕ) (key : Key) (of_table : Table) (column : ℕ) → IsThereInitially initial table key → slice_get tables table ≡ Some of_table →
      column < length of_table.columns → column ≢ of_table.key → (value : Value) × Contains initial (Field table key column, value)
  pub fields : (table : ℕ) (key : Key) (of_table : Table) (column : ℕ) (value : Value) → Contains initial (Field table key column, value) →
      slice_get tables table ≡ Some of_table → (column < length of_table.columns) × (column ≢ of_table.key)

-- the presences of a table's rows, ascending
pub record AreRowsOf (initial : List (Cell × Value)) (table : ℕ) (rows : List (Cell × Value)) : Type 0 where
  pub ascending : IsAscending rows
  pub each : (cell : Cell) (value : Value) → Contains rows (cell, value) →
      (key : Key) × ((cell ≡ Presence table key) × (value ≡ Flag true) × IsThereInitially initial table key)
  pub all : (key : Key) → IsThereInitially initial table key → Contains rows (Presence table key, Flag true)

-- each cell weighs what a write of it does
abbrev pub initial_weight : Cell × Value → ℕ
initial_weight (cell, value) = 1 + (cell_bytes cell + value_bytes value) / 256

abbrev pub initial_load : List (Cell × Value) → ℕ
initial_load initial = sum_by initial_weight initial

-- the load of a history: of its initial state and of its events
abbrev pub load_of : List (Cell × Value) → List Event → ℕ
load_of initial events = initial_load initial + weights_of events
