-- What holds of events of which each comes as the state of its session allows.
use Rattle.std.specs.Prelude.{◌≡◌, ◌⊎◌, ℕ, Some, List, slice_get, take}
use Rattle.cell_base.specs.declared.cell.Cell.{Cell}
use Rattle.history_core.specs.declared.event.Event.{Event}
use Rattle.history_core.specs.declared.event.Event.TheVariants.{Read, Scan, Write, Commit, Rollback}
use Rattle.history_core.specs.Transactions.{IsCommitted, IsPending, HasPending}
use Rattle.history_core.specs.Relations.{Reads, IsSessionOrdered}

-- each source has committed, and a pending transaction is the last of its session
pub record IsSettled (events : List Event) : Type 0 where
  pub sources : (reader place : ℕ) (cell : Cell) (source : ℕ) → Reads events reader place cell source → (source ≡ 0) ⊎ IsCommitted events source
  pub last : (txn session other : ℕ) → IsPending events txn session → IsSessionOrdered events txn other → ⊥

-- a read is from the initial transaction or from one that has committed
abbrev pub HasSettledSource : List Event → Event → Type 0
HasSettledSource events (Read session cell source count word value) = (source ≡ 0) ⊎ IsCommitted events source
HasSettledSource events _ = Unit {0}

-- a read or a scan is one of a pending transaction
abbrev pub HasReader : List Event → Event → Type 0
HasReader events (Read session cell source count word value) = HasPending events session
HasReader events (Scan session table keys) = HasPending events session
HasReader events _ = Unit {0}

-- the event comes after these as their state allows
pub record ComesSettled (events : List Event) (event : Event) : Type 0 where
  pub settled : IsSettled events
  pub reader : HasReader events event
  pub source : HasSettledSource events event

-- so each event comes after those before it
abbrev pub IsOrderly : List Event → Type 0
IsOrderly events = (k : ℕ) (event : Event) → slice_get events k ≡ Some event → ComesSettled (take k events) event

-- a write, a commit or a rollback is one of a pending transaction
abbrev pub HasOwner : List Event → Event → Type 0
HasOwner events (Write session cell value) = HasPending events session
HasOwner events (Commit session) = HasPending events session
HasOwner events (Rollback session) = HasPending events session
HasOwner events _ = Unit {0}

-- so it is with each event, after those before it
abbrev pub AreOwned : List Event → Type 0
AreOwned events = (k : ℕ) (event : Event) → slice_get events k ≡ Some event → HasOwner (take k events) event
