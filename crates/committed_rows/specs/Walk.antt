-- How what a walk keeps stands for the transactions that it has taken, and what is gathered of it.
use Rattle.std.specs.Prelude.{◌≡◌, ◌≢◌, ◌<◌, ◌≤◌, ◌⊎◌, ◌↔◌, ℕ, true, Option, None, Some, List, Contains, IsSome}
use Rattle.std.specs.declared.cmp.Ordering.{Ordering}
use Rattle.std.specs.BTreeMap.{get}
use Rattle.cell_base.specs.declared.cell.Cell.{Cell}
use Rattle.cell_base.specs.declared.cell.Cell.TheVariants.{Presence, Field}
use Rattle.cell_base.specs.contracts.cell.CellOrd.TheImpl as cell_order
use Rattle.cell_base.specs.declared.key.Key.{Key}
use Rattle.cell_base.specs.declared.value.Value.{Value}
use Rattle.cell_base.specs.declared.value.Value.TheVariants.{Unset, Flag}
use Rattle.txn_buffer.specs.Buffer.{IsAbsent}
use Rattle.history_core.specs.declared.event.Event.{Event}
use Rattle.history_core.specs.Chronicle.{Chronicle}
use Rattle.history_core.specs.Initial.{IsAscending}
use Rattle.history_core.specs.Transactions.{IsCommitted}
use Rattle.history_core.specs.Relations.{HasWritten, LastWrites}
use Rattle.committed_rows.specs.declared.newest.Newest.{Newest}
use Rattle.committed_rows.specs.Rows.{IsNewest}

abbrev pub cell_cmp : Cell → Cell → Ordering
cell_cmp = (cell_order.ghosts).cmp

-- the value that is noted of the cell
abbrev pub value_at : Newest → Cell → Option Value
value_at newest cell = get cell_cmp newest.values cell

-- the cell has this value, and each other one what it had
abbrev pub GainsValue : Newest → Cell → Value → Newest → Type 0
GainsValue old cell value new =
    (q : Cell) → ((q ≡ cell) × (value_at new q ≡ Some value)) ⊎ ((q ≢ cell) × (value_at new q ≡ value_at old q))

-- the cells of the writes that had no value have one of these, and all that had one keep it
pub record Fills (old : Newest) (writes : List (Cell × Value)) (new : Newest) : Type 0 where
  pub sound : (q : Cell) (v : Value) → value_at new q ≡ Some v → (value_at old q ≡ Some v) ⊎ ((value_at old q ≡ None) × Contains writes (q, v))
  pub kept : (q : Cell) (v : Value) → value_at old q ≡ Some v → value_at new q ≡ Some v
  pub whole : (q : Cell) (v : Value) → Contains writes (q, v) → IsSome (value_at new q)

-- the transaction has committed, and wrote the cell
abbrev pub CommitsTo : List Event → ℕ → Cell → Type 0
CommitsTo events number cell = IsCommitted events number × HasWritten events number cell

-- of the committed transactions above the limit, each cell has the newest value
pub record AreNewestAbove (events : List Event) (limit : ℕ) (newest : Newest) : Type 0 where
  pub sound : (q : Cell) (v : Value) → value_at newest q ≡ Some v →
      (n : ℕ) × (limit < n) × IsCommitted events n × LastWrites events n q v × ((other : ℕ) → CommitsTo events other q → other ≤ n)
  pub whole : (q : Cell) (n : ℕ) → limit < n → CommitsTo events n q → IsSome (value_at newest q)

-- each cell that was written has its newest value
pub record AreNewest (history : Chronicle) (newest : Newest) : Type 0 where
  pub sound : (q : Cell) (v : Value) → value_at newest q ≡ Some v → IsNewest history q v × (v ≢ Unset)
  pub absent : (q : Cell) → value_at newest q ≡ None → IsAbsent history.initial q × ((n : ℕ) → ¬ CommitsTo history.events n q)

-- the presence of the row is among the cells
abbrev pub HasRow : List (Cell × Value) → ℕ → Key → Type 0
HasRow cells table key = (value : Value) × Contains cells (Presence table key, value)

-- a presence that is true, or a field of a row among the cells
abbrev pub FitsRows : List (Cell × Value) → Cell → Value → Type 0
FitsRows cells (Presence table key) value = value ≡ Flag true
FitsRows cells (Field table key column) value = HasRow cells table key

-- a presence that is true, or a field of a row whose presence is true
abbrev pub StandsIn : List (Cell × Value) → Cell → Value → Type 0
StandsIn all (Presence table key) value = value ≡ Flag true
StandsIn all (Field table key column) value = Contains all (Presence table key, Flag true)

-- of all these cells those of rows that are there
pub record AreRowsOf (all cells : List (Cell × Value)) : Type 0 where
  pub ascending : IsAscending cells
  pub exact : (cell : Cell) (value : Value) → Contains cells (cell, value) ↔ (Contains all (cell, value) × StandsIn all cell value)
