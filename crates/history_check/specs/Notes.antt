-- How what the judge has noted stands for the events so far.
use Rattle.std.specs.Prelude.{◌≡◌, ◌≢◌, ◌<◌, ◌≤◌, ◌+◌, ◌⊎◌, ◌↔◌, ℕ, Bool, false, IsTrue, Option, Some, None, List, Contains, length, slice_get, slice_index}
use Rattle.std.specs.List.Sorted.{IsStrictlyIncreasing}
use Rattle.cell_base.specs.declared.cell.Cell.{Cell}
use Rattle.cell_base.specs.declared.cell.Cell.TheVariants.{Presence}
use Rattle.cell_base.specs.declared.key.Key.{Key}
use Rattle.cell_base.specs.declared.value.Value.{Value}
use Rattle.history_core.specs.declared.event.Event.{Event}
use Rattle.history_core.specs.declared.event.Event.TheVariants.{Write}
use Rattle.history_core.specs.Events.{opened, begun, defined, session_in}
use Rattle.history_core.specs.Transactions.{IsOf, IsPending, IsCommitted}
use Rattle.history_core.specs.Kept.{IsSessionOf, ChangesOne}
use Rattle.history_core.specs.Relations.{HasWritten, Writes}
use Rattle.cell_writers.specs.declared.cell_note.CellNote.{CellNote}
use Rattle.cell_writers.specs.Pairs.{get, SetsOnly}
use Rattle.indexed_history.specs.Index.{GainsNumber}
use Rattle.order_test.specs.Settled.{IsSettled}
use Rattle.history_check.specs.declared.table_keys.TableKeys.{TableKeys}
use Rattle.history_check.specs.TableKeys.{keys_at}
use Rattle.history_check.specs.declared.session_note.SessionNote.{SessionNote}
use Rattle.history_check.specs.declared.pending_writes.PendingWrites.{PendingWrites}
use Rattle.cell_writers.specs.declared.cell_note.CellNotes.{CellNotes}
use Rattle.history_check.specs.declared.notes.Notes.{Notes}

-- the note says whether the session is open, and what is pending in it
abbrev pub IsSessionNoteOf : List Event → ℕ → SessionNote → Type 0
IsSessionNoteOf events session session_note = IsSessionOf events session (record { is_open = session_note.is_open; pending = session_note.pending })

-- session s has the s-th note
pub record StandsForSessionNotes (events : List Event) (session_notes : List SessionNote) : Type 0 where
  pub count : length session_notes ≡ opened events
  pub each : (i : ℕ) (session_note : SessionNote) → slice_get session_notes i ≡ Some session_note → IsSessionNoteOf events (i + 1) session_note

-- one note is changed, as the relation says
pub record ChangesSessionNote (old : List SessionNote) (session : ℕ) (Changes : SessionNote → SessionNote → Type 0) (new : List SessionNote) : Type 0 where
  pub place : ℕ
  pub number : place + 1 ≡ session
  pub changes : ChangesOne old new place Changes

-- the session has this pending
abbrev pub TakesPending : List SessionNote → ℕ → Option ℕ → List SessionNote → Type 0
TakesPending old session pending new = ChangesSessionNote old session (λ before after. after ≡ record before { pending = pending }) new

-- the session is closed
abbrev pub IsClosed : List SessionNote → ℕ → List SessionNote → Type 0
IsClosed old session new = ChangesSessionNote old session (λ before after. after ≡ record before { is_open = false }) new

-- transaction k has the k-th flag, which says whether it has committed
pub record StandsForCommits (events : List Event) (flags : List Bool) : Type 0 where
  pub count : length flags ≡ begun events
  pub each : (i : ℕ) (flag : Bool) → slice_get flags i ≡ Some flag → IsTrue flag ↔ IsCommitted events (i + 1)

-- each event is one of an opened session
abbrev pub AreOfSessions : List Event → Type 0
AreOfSessions events = (k : ℕ) (event : Event) → slice_get events k ≡ Some event → (0 < session_in event) × (session_in event ≤ opened events)

-- the transaction is pending in the session of the event, or none is
abbrev pub IsRunningOwner : List Event → Event → Option ℕ → Type 0
IsRunningOwner events event owner = (txn : ℕ) → (owner ≡ Some txn) ↔ IsPending events txn (session_in event)

-- the last write of the cell by the transaction stands at the place
pub record IsLastWriteAt (events : List Event) (number : ℕ) (cell : Cell) (place : ℕ) : Type 0 where
  pub session : ℕ
  pub value : Value
  pub write : IsOf events number place (Write session cell value)
  pub last : (q s : ℕ) (v : Value) → IsOf events number q (Write s cell v) → q ≤ place

-- the note has where each transaction that wrote the cell did so last, whether it has committed or not, and ascending those after the initial one
-- that have committed
pub record IsNoteOf (events : List Event) (cell : Cell) (note : CellNote) : Type 0 where
  pub sound : (number place : ℕ) → get note.places number ≡ Some place → IsLastWriteAt events number cell place
  pub whole : (number : ℕ) → HasWritten events number cell → get note.places number ≢ None
  pub ascending : IsStrictlyIncreasing note.committed
  pub exact : (number : ℕ) → Contains note.committed number ↔ ((0 < number) × Writes events number cell)

-- each cell has its note at its number
pub record AreNotesOf (events : List Event) (cells : List Cell) (notes : List CellNote) : Type 0 where
  pub count : length notes ≡ length cells
  pub each : (i : ℕ) (cell : Cell) (note : CellNote) → slice_get cells i ≡ Some cell → slice_get notes i ≡ Some note → IsNoteOf events cell note

abbrev pub AreCellNotes : List Event → CellNotes → Type 0
AreCellNotes events cells = AreNotesOf events cells.numbers.cells.keys cells.notes.items

-- at the place stands a write of the transaction that is pending in the session
pub record IsPendingWrite (events : List Event) (session place : ℕ) : Type 0 where
  pub txn : ℕ
  pub cell : Cell
  pub value : Value
  pub pending : IsPending events txn session
  pub write : IsOf events txn place (Write session cell value)

-- the places are those of the writes that are pending in the session
abbrev pub ArePendingIn : List Event → ℕ → List ℕ → Type 0
ArePendingIn events session places = (place : ℕ) → Contains places place ↔ IsPendingWrite events session place

-- session s has the s-th list
pub record StandsForPendingWrites (events : List Event) (lists : List PendingWrites) : Type 0 where
  pub count : length lists ≡ opened events
  pub each : (i : ℕ) (pending : PendingWrites) → slice_get lists i ≡ Some pending → ArePendingIn events (i + 1) pending.places.items

-- the list of the session is changed, as the relation says
pub record IsChangedTo (old : List PendingWrites) (session : ℕ) (Changes : List ℕ → List ℕ → Type 0) (new : List PendingWrites) : Type 0 where
  pub place : ℕ
  pub number : place + 1 ≡ session
  pub changes : ChangesOne old new place (λ before after. Changes before.places.items after.places.items)

-- the committed transactions at each number ascend
abbrev pub AreAscending : List CellNote → Type 0
AreAscending notes = (i : ℕ) (note : CellNote) → slice_get notes i ≡ Some note → IsStrictlyIncreasing note.committed

-- at the number the transaction has its last write at the place, and nothing else changes
pub record SetsPlaceIn (txn place : ℕ) (old new : CellNote) : Type 0 where
  pub committed : new.committed ≡ old.committed
  pub sets : SetsOnly old.places new.places txn place

abbrev pub SetsPlaceAt : ℕ → ℕ → ℕ → List CellNote → List CellNote → Type 0
SetsPlaceAt at txn place old new = ChangesOne old new at (SetsPlaceIn txn place)

-- the transaction is noted as one that has committed, and nothing else changes
pub record GainsCommitted (txn : ℕ) (old new : CellNote) : Type 0 where
  pub places : new.places ≡ old.places
  pub ascending : IsStrictlyIncreasing new.committed
  pub gains : GainsNumber old.committed txn new.committed

abbrev pub GainAt : ℕ → ℕ → List CellNote → List CellNote → Type 0
GainAt at txn old new = ChangesOne old new at (GainsCommitted txn)

-- the number is that of the event at one of the first n places
abbrev pub IsNumberAmong : List ℕ → List ℕ → ℕ → ℕ → Type 0
IsNumberAmong of_events places n number = (k place : ℕ) × (k < n) × (slice_get places k ≡ Some place) × (slice_index of_events place ≡ number)

-- the note where the transaction is noted if its number is among those of the first n places
pub record IsGained (of_events places : List ℕ) (n txn number : ℕ) (old new : CellNote) : Type 0 where
  pub places_are : new.places ≡ old.places
  pub ascending : IsStrictlyIncreasing new.committed
  pub exact : (other : ℕ) → Contains new.committed other ↔ (Contains old.committed other ⊎ (IsNumberAmong of_events places n number × (other ≡ txn)))

-- so it is with the note at each number
pub record GainAmong (of_events places : List ℕ) (n txn : ℕ) (old new : List CellNote) : Type 0 where
  pub count : length new ≡ length old
  pub each : (i : ℕ) (before after : CellNote) → slice_get old i ≡ Some before → slice_get new i ≡ Some after → IsGained of_events places n txn i before after

-- each key whose presence was written is noted at its table, whatever became of the transaction
abbrev pub AreWrittenKeys : List Event → TableKeys → Type 0
AreWrittenKeys events keys = (table : ℕ) (key : Key) (number : ℕ) → HasWritten events number (Presence table key) → Contains (keys_at keys table) key

-- the notes stand for the events
pub record AreNotes (events : List Event) (notes : Notes) : Type 0 where
  pub settled : IsSettled events
  pub sessions : AreOfSessions events
  pub session_notes : StandsForSessionNotes events notes.session_notes.items
  pub pending : StandsForPendingWrites events notes.pending.items
  pub begun_are : notes.begun ≡ begun events
  pub commits : StandsForCommits events notes.committed.items
  pub keys : AreWrittenKeys events notes.keys
  pub tables : notes.tables ≡ defined events
