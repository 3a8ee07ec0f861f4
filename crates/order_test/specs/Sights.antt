-- What the events and the records of a history show of one read.
use Rattle.std.specs.Prelude.{◌≡◌, ◌≢◌, ◌<◌, ◌≤◌, ◌+◌, ℕ, Option, Some, None, List, Contains, slice_get}
use Rattle.std.specs.declared.cmp.Ordering.TheVariants.{Greater}
use Rattle.cell_base.specs.declared.key.Key.{Key}
use Rattle.cell_base.specs.contracts.cell.CellOrd.TheImpl as cell_order
use Rattle.cell_base.specs.declared.cell.Cell.{Cell}
use Rattle.cell_base.specs.declared.value.Value.{Value}
use Rattle.history_core.specs.declared.event.Event.{Event}
use Rattle.history_core.specs.declared.event.Event.TheVariants.{Read, Scan}
use Rattle.history_core.specs.Events.{begun}
use Rattle.history_core.specs.Transactions.{IsOf}
use Rattle.history_core.specs.Relations.{Gives}
use Rattle.saturation.specs.Views.{IsUnlisted}
use Rattle.order_test.specs.declared.unkept.Unkept.{Unkept}
use Rattle.order_test.specs.declared.unkept.Unkept.TheVariants as unkept
use Rattle.order_test.specs.Unkept.{IsReadEarly, IsUnmet, IsFirstUnmet, IsKeptAt, IsFirstReadEarly, IsFirstAxiom}

-- the number is that of a transaction after the initial one
abbrev pub IsNumber : List Event → ℕ → Type 0
IsNumber events number = (0 < number) × (number ≤ begun events)

-- a read or a scan
abbrev pub IsReading : Event → Type 0
IsReading (Read session cell source count word value) = Unit {0}
IsReading (Scan session table keys) = Unit {0}
IsReading _ = ⊥

-- the transaction that a read is from; a scan reads from the initial one
abbrev pub origin_of : Event → ℕ
origin_of (Read session cell source count word value) = source
origin_of _ = 0

-- the event reads the cell, which is written
pub record IsRivalCell (event : Event) (writes : List (Cell × Value)) (cell : Cell) : Type 0 where
  pub gives : Gives event cell (origin_of event)
  pub value : Value
  pub written : Contains writes (cell, value)

-- some cell of the event's read is unmet by the rival
abbrev pub IsRival : List Event → List ℕ → ℕ → ℕ → ℕ → ℕ → Type 0
IsRival events order place origin reader rival = (cell : Cell) × IsUnmet events order place origin rival reader cell

-- the cells of the rivals, the least of which is told
pub record IsFirstRivalCell (event : Event) (writes : List (Cell × Value)) (cell : Cell) : Type 0 where
  pub is : IsRivalCell event writes cell
  pub least : (other : Cell) → IsRivalCell event writes other → (cell_order.ghosts).cmp cell other ≢ Greater

-- among the first writes the place of the least presence that the scan of the table doesn't list
pub record IsLeastUnlisted (table : ℕ) (keys : List Key) (writes : List (Cell × Value)) (n at : ℕ) : Type 0 where
  pub entry : Cell × Value
  pub is : slice_get writes at ≡ Some entry
  pub unlisted : IsUnlisted table keys entry.0
  pub least : (k : ℕ) (other : Cell × Value) → k < n → slice_get writes k ≡ Some other → IsUnlisted table keys other.0 →
      (cell_order.ghosts).cmp entry.0 other.0 ≢ Greater

abbrev pub IsLeastUpTo : ℕ → List Key → List (Cell × Value) → ℕ → Option ℕ → Type 0
IsLeastUpTo table keys writes n None = (k : ℕ) (other : Cell × Value) → k < n → slice_get writes k ≡ Some other → ¬ IsUnlisted table keys other.0
IsLeastUpTo table keys writes n (Some at) = IsLeastUnlisted table keys writes n at

-- the least presence among the writes that the scan of the table doesn't list
pub record IsFirstUnlisted (table : ℕ) (keys : List Key) (writes : List (Cell × Value)) (cell : Cell) : Type 0 where
  pub value : Value
  pub is : Contains writes (cell, value)
  pub unlisted : IsUnlisted table keys cell
  pub least : (other : Cell) (v : Value) → Contains writes (other, v) → IsUnlisted table keys other → (cell_order.ghosts).cmp cell other ≢ Greater

-- what is found of the event at the place
abbrev pub IsFoundAt : List Event → List ℕ → ℕ → Option Unkept → Type 0
IsFoundAt events order place None = IsKeptAt events order place
IsFoundAt events order place (Some (unkept.Read event origin reader)) = (event ≡ place + 1) × IsReadEarly events order place origin reader
IsFoundAt events order place (Some (unkept.Axiom event origin rival reader cell)) =
    (event ≡ place + 1) × ((from by : ℕ) → ¬ IsReadEarly events order place from by) × IsFirstUnmet events order place origin rival reader cell
IsFoundAt events order place (Some unkept.Order) = ⊥
IsFoundAt events order place (Some (unkept.Session earlier later)) = ⊥

-- of the rival the breach with the least cell is told
pub record IsAxiomOf (events : List Event) (order : List ℕ) (place origin rival reader : ℕ) (found : Unkept) : Type 0 where
  pub cell : Cell
  pub told : found ≡ unkept.Axiom (place + 1) origin rival reader cell
  pub is : IsUnmet events order place origin rival reader cell
  pub least : (other : Cell) → IsUnmet events order place origin rival reader other → (cell_order.ghosts).cmp cell other ≢ Greater

-- the event at the place is one of the reader, and what it reads from, if it reads, has begun
pub record IsReadAt (events : List Event) (place : ℕ) (event : Event) (reader : ℕ) : Type 0 where
  pub of : IsOf events reader place event
  pub from : origin_of event ≤ begun events

-- what is found among all events
abbrev pub IsFoundAmong : List Event → List ℕ → Option Unkept → Type 0
IsFoundAmong events order None = (place : ℕ) → IsKeptAt events order place
IsFoundAmong events order (Some (unkept.Read event origin reader)) = (place : ℕ) × (event ≡ place + 1) × IsFirstReadEarly events order place origin reader
IsFoundAmong events order (Some (unkept.Axiom event origin rival reader cell)) =
    (place : ℕ) × (event ≡ place + 1) × IsFirstAxiom events order place origin rival reader cell
IsFoundAmong events order (Some unkept.Order) = ⊥
IsFoundAmong events order (Some (unkept.Session earlier later)) = ⊥
