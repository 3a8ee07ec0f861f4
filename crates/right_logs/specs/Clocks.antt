-- What is noted of each transaction, with its vector clock.
use Rattle.std.specs.Prelude.{◌≡◌, ◌<◌, ◌≤◌, ◌+◌, ◌⊎◌, ◌↔◌, ℕ, Bool, Some, IsTrue, List, [], ◌∷◌, ◌++◌, length, slice_get, slice_set, slice_index}
use Rattle.cell_base.specs.declared.level.Level.{Level}
use Rattle.history_core.specs.declared.event.Event.{Event}
use Rattle.history_core.specs.Events.{begun}
use Rattle.history_core.specs.Transactions.{IsStart, RunsAt}
use Rattle.history_core.specs.Relations.{PrecedesCausally}
use Rattle.right_logs.specs.declared.txn_notes.TxnNote.{TxnNote}

-- of each session the transactions up to what the clock has for it are those in the causal past of the transaction
pub record IsClockOf (events : List Event) (number : ℕ) (clock : List ℕ) : Type 0 where
  pub bounded : (session : ℕ) → slice_index clock session ≤ begun events
  pub exact : (session writer place : ℕ) → IsStart events writer session place → (writer ≤ slice_index clock session) ↔ PrecedesCausally events writer number

-- but for the initial transaction the note has the session and the level at which the transaction runs, and its clock where there are clocks
pub record IsTxnNoteOf (events : List Event) (clocked : Bool) (number : ℕ) (note : TxnNote) : Type 0 where
  pub started : 0 < number → (place : ℕ) × IsStart events number note.session place
  pub runs : 0 < number → RunsAt events number note.level
  pub clock : IsTrue clocked → IsClockOf events number note.clock.items

-- each transaction has its note at its number
pub record AreTxnNotes (events : List Event) (clocked : Bool) (notes : List TxnNote) : Type 0 where
  pub count : length notes ≡ begun events + 1
  pub each : (number : ℕ) (note : TxnNote) → slice_get notes number ≡ Some note → IsTxnNoteOf events clocked number note

-- the number at the place is raised to this one, where it is below
abbrev pub Raises : ℕ → ℕ → List ℕ → List ℕ → Type 0
Raises at number old new = (i n : ℕ) → (n ≤ slice_index new i) ↔ ((n ≤ slice_index old i) ⊎ ((i ≡ at) × (n ≤ number)))

-- each number is raised to the other one at its place, where it is below
abbrev pub RaisesAll : List ℕ → List ℕ → List ℕ → Type 0
RaisesAll others old new = (i n : ℕ) → (n ≤ slice_index new i) ↔ ((n ≤ slice_index old i) ⊎ (n ≤ slice_index others i))

-- a note of the session and the level comes after the others. Where there are clocks it has one that comes after that of the last transaction
pub record AddsTxn (clocked : Bool) (session : ℕ) (level : Level) (last : ℕ) (old new : List TxnNote) : Type 0 where
  pub note : TxnNote
  pub adds : new ≡ old ++ note ∷ []
  pub session_is : note.session ≡ session
  pub level_is : note.level ≡ level
  pub clock : IsTrue clocked → (before : TxnNote) → slice_get old last ≡ Some before → Raises session last before.clock.items note.clock.items

-- each number is raised to that of the source's clock at its place, and the one for the source's session to the source, where they are below
abbrev pub TakesClock : ℕ → TxnNote → List ℕ → List ℕ → Type 0
TakesClock number source old new =
    (i n : ℕ) → (n ≤ slice_index new i) ↔ ((n ≤ slice_index old i) ⊎ ((n ≤ slice_index source.clock.items i) ⊎ ((i ≡ source.session) × (n ≤ number))))

-- the clock of the reader takes in the source, and nothing else changes
pub record TakesIn (reader source : ℕ) (old new : List TxnNote) : Type 0 where
  pub own : TxnNote
  pub from : TxnNote
  pub note : TxnNote
  pub own_is : slice_get old reader ≡ Some own
  pub from_is : slice_get old source ≡ Some from
  pub set_to : new ≡ slice_set old reader note
  pub session_is : note.session ≡ own.session
  pub level_is : note.level ≡ own.level
  pub takes : TakesClock source from own.clock.items note.clock.items

-- the clock of the reader has the source
pub record HasSource (reader source : ℕ) (notes : List TxnNote) : Type 0 where
  pub own : TxnNote
  pub from : TxnNote
  pub own_is : slice_get notes reader ≡ Some own
  pub from_is : slice_get notes source ≡ Some from
  pub reached : source ≤ slice_index own.clock.items from.session

-- nothing changes, as there are no clocks, or as the clock of the reader has the source, and so its past; or it takes in the source
abbrev pub NotesSource : Bool → ℕ → ℕ → List TxnNote → List TxnNote → Type 0
NotesSource clocked reader source old new =
    ((IsTrue clocked → ⊥) × (new ≡ old)) ⊎ ((HasSource reader source old × (new ≡ old)) ⊎ TakesIn reader source old new)
