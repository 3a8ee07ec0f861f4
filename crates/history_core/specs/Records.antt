-- What a history's record of a transaction says of its events.
use Rattle.std.specs.Prelude.{◌≡◌, ◌+◌, ◌↔◌, ℕ, Bool, true, false, Option, Some, None, List, Contains}
use Rattle.cell_base.specs.declared.cell.Cell.{Cell}
use Rattle.cell_base.specs.declared.value.Value.{Value}
use Rattle.history_core.specs.declared.event.Event.{Event}
use Rattle.history_core.specs.declared.event.Event.TheVariants.{Close, Define, Scan, Read, Commit, Rollback}
use Rattle.history_core.specs.declared.txn.TxnState.TheVariants.{Pending, Committed}
use Rattle.history_core.specs.declared.txn.Seen.{Seen}
use Rattle.history_core.specs.declared.txn.Seen.TheVariants.{Read as SeenRead, Scan as SeenScan}
use Rattle.history_core.specs.declared.txn.Txn.{Txn}
use Rattle.history_core.specs.Transactions.{IsStart, IsOf, IsPending, IsCommitted, RunsAt}
use Rattle.history_core.specs.Relations.{LastWrites}

-- what an event with the number lets its transaction see
abbrev pub seen_of : ℕ → Event → Option Seen
seen_of number (Read s cell source count word value) = Some (SeenRead number cell source)
seen_of number (Scan s table keys) = Some (SeenScan number table keys)
seen_of number _ = None

-- one of the transaction's events shows it
pub record Saw (events : List Event) (number : ℕ) (seen : Seen) : Type 0 where
  pub place : ℕ
  pub event : Event
  pub of : IsOf events number place event
  pub shows : seen_of (place + 1) event ≡ Some seen

-- the record says what the transaction of the number did so far
pub record IsRecordOf (events : List Event) (number : ℕ) (txn : Txn) : Type 0 where
  pub place : ℕ
  pub started : IsStart events number txn.session place
  pub level : RunsAt events number txn.level
  pub pending : (txn.state ≡ Pending) ↔ IsPending events number txn.session
  pub committed : (txn.state ≡ Committed) ↔ IsCommitted events number
  pub seen : (seen : Seen) → Contains txn.seen seen ↔ Saw events number seen
  pub writes : (cell : Cell) (value : Value) → Contains txn.buffer.writes (cell, value) ↔ LastWrites events number cell value

-- the end of a transaction or of a session
abbrev pub is_any_end : Event → Bool
is_any_end (Close s) = true
is_any_end (Commit s) = true
is_any_end (Rollback s) = true
is_any_end _ = false

-- any event but a definition, which comes with its table
abbrev pub IsNoDefinition : Event → Type 0
IsNoDefinition (Define s name) = ⊥
IsNoDefinition _ = Unit {0}
