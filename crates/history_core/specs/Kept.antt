-- How what a history keeps stands for its events, and what one more event changes in it.
use Rattle.std.specs.Prelude.{◌≡◌, ◌≤◌, ◌+◌, ◌↔◌, ℕ, false, if◌then◌else◌, is_some, IsTrue, Option, Some, List, [], ◌∷◌, ◌++◌, length, slice_get, slice_set, sum_by, count_by, vec_capacity}
use Rattle.cell_base.specs.declared.cell.Cell.{Cell}
use Rattle.cell_base.specs.declared.value.Value.{Value}
use Rattle.txn_buffer.specs.Buffer.{Puts}
use Rattle.sql_tree.specs.declared.table.Table.{Table}
use Rattle.history_core.specs.declared.event.Event.{Event}
use Rattle.history_core.specs.declared.event.Event.TheVariants.{Define, Look, Own, Commit, Rollback, Show}
use Rattle.history_core.specs.declared.txn.TxnState.{TxnState}
use Rattle.history_core.specs.declared.txn.TxnState.TheVariants.{Committed, RolledBack}
use Rattle.history_core.specs.declared.txn.Seen.{Seen}
use Rattle.history_core.specs.declared.txn.Txn.{Txn}
use Rattle.history_core.specs.declared.kept.SessionRecord.{SessionRecord}
use Rattle.history_core.specs.declared.kept.Kept.{Kept}
use Rattle.history_core.specs.Events.{opened, begun}
use Rattle.history_core.specs.Initial.{load_of}
use Rattle.history_core.specs.Transactions.{IsPending}
use Rattle.history_core.specs.Legal.{IsOpen}
use Rattle.history_core.specs.Chronicle.{Chronicle, IsFormedChronicle}
use Rattle.history_core.specs.Records.{IsRecordOf, is_any_end}

-- transaction k has the k-th record
pub record StandsForTxns (events : List Event) (txns : List Txn) : Type 0 where
  pub count : length txns ≡ begun events
  pub each : (i : ℕ) (txn : Txn) → slice_get txns i ≡ Some txn → IsRecordOf events (i + 1) txn

pub record IsSessionOf (events : List Event) (session : ℕ) (record_of : SessionRecord) : Type 0 where
  pub open_is : IsTrue record_of.is_open ↔ IsOpen events session
  pub pending : (number : ℕ) → (record_of.pending ≡ Some number) ↔ IsPending events number session

-- session s has the s-th record
pub record StandsForSessions (events : List Event) (sessions : List SessionRecord) : Type 0 where
  pub count : length sessions ≡ opened events
  pub each : (i : ℕ) (session : SessionRecord) → slice_get sessions i ≡ Some session → IsSessionOf events (i + 1) session

-- how many ends a session still owes: of its transaction, and its own
abbrev pub owed_by : SessionRecord → ℕ
owed_by s = (if s.is_open then 1 else 0) + (if is_some s.pending then 1 else 0)

abbrev pub ended : List Event → ℕ
ended events = count_by is_any_end events

-- no number grows out of its type
pub record IsSmall (initial : List (Cell × Value)) (events : List Event) (owed : ℕ) : Type 0 where
  pub ends : ended events + owed ≡ begun events + opened events
  pub begins : begun events ≤ 65535
  pub opens : opened events ≤ 4096
  pub count : length events ≤ 1048576 + ended events
  pub load : load_of initial events ≤ 4611686018428436480 + ended events

-- what a caller sees
abbrev pub seen_as : Kept → Chronicle
seen_as kept = record { level = kept.level; initial = kept.initial; events = kept.events.items; tables = kept.tables.items }

-- the parts stand for the events, and there is room for each end that is owed
pub record IsKept (kept : Kept) : Type 0 where
  pub formed : IsFormedChronicle (seen_as kept)
  pub txns : StandsForTxns kept.events.items kept.txns.items
  pub sessions : StandsForSessions kept.events.items kept.sessions.items
  pub load : kept.load ≡ load_of kept.initial kept.events.items
  pub owed : kept.owed ≡ sum_by owed_by kept.sessions.items
  pub small : IsSmall kept.initial kept.events.items kept.owed
  pub room : length kept.events.items + kept.owed ≤ vec_capacity kept.events

-- the same level and tables, and the events with one more
pub record Grows (old new : Kept) (event : Event) : Type 0 where
  pub level : new.level ≡ old.level
  pub initial : new.initial ≡ old.initial
  pub tables : new.tables.items ≡ old.tables.items
  pub events : new.events.items ≡ old.events.items ++ event ∷ []

-- the table is defined under its name
pub record Defines (old new : Kept) (session : ℕ) (table : Table) : Type 0 where
  pub level : new.level ≡ old.level
  pub initial : new.initial ≡ old.initial
  pub tables : new.tables.items ≡ old.tables.items ++ table ∷ []
  pub events : new.events.items ≡ old.events.items ++ Define session table.name ∷ []

-- what a caller sees stays
pub record Stays (old new : Kept) : Type 0 where
  pub level : new.level ≡ old.level
  pub initial : new.initial ≡ old.initial
  pub tables : new.tables.items ≡ old.tables.items
  pub events : new.events.items ≡ old.events.items

-- the new list has one item changed, as the relation says
pub record ChangesOne {X : Type 0} (old new : List X) (at : ℕ) (Changes : X → X → Type 0) : Type 0 where
  pub before : X
  pub after : X
  pub is : slice_get old at ≡ Some before
  pub set_to : new ≡ slice_set old at after
  pub changes : Changes before after

abbrev pub AddsSeen : Seen → Txn → Txn → Type 0
AddsSeen seen before after = after ≡ record before { seen = before.seen ++ seen ∷ [] }

pub record AddsWrite (cell : Cell) (value : Value) (before after : Txn) : Type 0 where
  pub session : after.session ≡ before.session
  pub level : after.level ≡ before.level
  pub state : after.state ≡ before.state
  pub seen : after.seen ≡ before.seen
  pub puts : Puts before.buffer.writes after.buffer.writes cell value

abbrev pub TakesState : TxnState → Txn → Txn → Type 0
TakesState state before after = after ≡ record before { state = state }

abbrev pub TakesPending : Option ℕ → SessionRecord → SessionRecord → Type 0
TakesPending pending before after = after ≡ record before { pending = pending }

abbrev pub Closes : SessionRecord → SessionRecord → Type 0
Closes before after = after ≡ record before { is_open = false }

-- how the event ends the pending transaction of the session
abbrev pub IsEndOf : Event → ℕ → TxnState → Type 0
IsEndOf (Commit s) session state = (s ≡ session) × (state ≡ Committed)
IsEndOf (Rollback s) session state = (s ≡ session) × (state ≡ RolledBack)
IsEndOf _ session state = ⊥

-- nothing is noted of the event in the records
abbrev pub IsUnnoted : Event → Type 0
IsUnnoted (Look s count) = Unit {0}
IsUnnoted (Own s cell value) = Unit {0}
IsUnnoted (Show s number) = Unit {0}
IsUnnoted _ = ⊥
