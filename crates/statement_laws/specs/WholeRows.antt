-- When the transactions of a history keep rows whole, and what its reads then show.
use Rattle.std.specs.Prelude.{◌≡◌, ◌≢◌, ◌<◌, ℕ, true, Some, List, length, slice_get}
use Rattle.cell_base.specs.declared.cell.Cell.{Cell}
use Rattle.cell_base.specs.declared.cell.Cell.TheVariants.{Presence, Field}
use Rattle.cell_base.specs.declared.key.Key.{Key}
use Rattle.cell_base.specs.declared.value.Value.{Value}
use Rattle.cell_base.specs.declared.value.Value.TheVariants.{Unset, Flag}
use Rattle.sql_tree.specs.declared.table.Table.{Table}
use Rattle.history_core.specs.declared.event.Event.{Event}
use Rattle.history_core.specs.declared.event.Event.TheVariants.{Read, Own, Write, Rollback}
use Rattle.history_core.specs.Transactions.{IsOf}

-- the column is one of the table, and not its key's
pub record IsField (tables : List Table) (table column : ℕ) : Type 0 where
  pub of_table : Table
  pub is : slice_get tables table ≡ Some of_table
  pub within : column < length of_table.columns
  pub apart : column ≢ of_table.key

-- a row that is half written may stay so at a write, which may be of its next field, and at a rollback, which takes it back; at each
-- other event of its transaction it has to be whole
abbrev pub NeedsWholeRows : Event → Type 0
NeedsWholeRows (Write session cell value) = ⊥
NeedsWholeRows (Rollback session) = ⊥
NeedsWholeRows _ = Unit {0}

-- the transaction writes the cell between the places
pub record WritesBetween (events : List Event) (number low high : ℕ) (cell : Cell) : Type 0 where
  pub place : ℕ
  pub session : ℕ
  pub value : Value
  pub above : low < place
  pub below : place < high
  pub write : IsOf events number place (Write session cell value)

-- the event answers that the row is there
abbrev pub ShowsRow : Event → ℕ → Key → Type 0
ShowsRow (Read session cell source count word value) table key = (cell ≡ Presence table key) × (value ≡ Flag true)
ShowsRow (Own session cell value) table key = (cell ≡ Presence table key) × (value ≡ Flag true)
ShowsRow _ table key = ⊥

-- the transaction was shown before the place that the row is there
pub record WasShown (events : List Event) (number place table : ℕ) (key : Key) : Type 0 where
  pub earlier : ℕ
  pub event : Event
  pub before : earlier < place
  pub of_same : IsOf events number earlier event
  pub shows : ShowsRow event table key

-- Each transaction keeps the rows of these tables whole. A row that it writes as there it writes whole, with each field but the key's: no
-- other event of the transaction stands between, but for a rollback. It reads a field from the history only of a row that it was shown to
-- be there.
pub record KeepsRows (tables : List Table) (events : List Event) : Type 0 where
  pub whole : (number place later session table column : ℕ) (key : Key) (event : Event) →
      IsOf events number place (Write session (Presence table key) (Flag true)) → IsOf events number later event → place < later →
      NeedsWholeRows event → IsField tables table column → WritesBetween events number place later (Field table key column)
  pub following : (number place session table column source count word : ℕ) (key : Key) (value : Value) →
      IsOf events number place (Read session (Field table key column) source count word value) →
      IsField tables table column × WasShown events number place table key

-- a read, from the history or of an own write, has a value
abbrev pub IsSet : Event → Type 0
IsSet (Read session cell source count word value) = value ≢ Unset
IsSet (Own session cell value) = value ≢ Unset
IsSet _ = Unit {0}

-- so does each of these events
abbrev pub ShowsNoUnset : List Event → Type 0
ShowsNoUnset events = (k : ℕ) (event : Event) → slice_get events k ≡ Some event → IsSet event
