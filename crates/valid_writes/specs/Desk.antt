-- What a book of a store keeps, and what it stands for.
use Rattle.std.specs.Prelude.{◌≡◌, ◌≤◌, ℕ, Option, None, Some, List, [], ◌∷◌, ◌++◌, length, Contains, take, drop}
use Rattle.cell_base.specs.declared.cell.Cell.{Cell}
use Rattle.cell_base.specs.declared.value.Value.{Value}
use Rattle.history_core.specs.declared.event.Event.{Event}
use Rattle.history_core.specs.declared.event.Event.TheVariants.{Begin, Write, Read, Look}
use Rattle.sql_tree.specs.declared.table.Table.{Table}
use Rattle.history_core.specs.declared.fault.DefineAnswer.{DefineAnswer}
use Rattle.history_core.specs.declared.fault.DefineAnswer.TheVariants.{Defined, Taken}
use Rattle.history_core.specs.Events.{names}
use Rattle.history_core.specs.Transactions.{HasPending}
use Rattle.history_core.specs.Relations.{Writes}
use Rattle.history_core.specs.Legal.{IsOpen, IsOffered}
use Rattle.history_core.specs.Chronicle.{Chronicle, IsLegalChronicle, followed_by, with_table, own_events}
use Rattle.history_book.specs.Book.{Past, SessionState, no_session, in_session, pending}
use Rattle.valid_writes.specs.declared.desk.Stage.{Stage}
use Rattle.valid_writes.specs.declared.desk.Stage.TheVariants.{NoSession, InSession, Pending}
use Rattle.valid_writes.specs.declared.desk.Desk.{Desk}
use Rattle.valid_writes.specs.declared.kept.Choice.{Choice}
use Rattle.valid_writes.specs.Store.{IsStore}

-- what is written since the last Begin, after one more event
abbrev pub note : List (Cell × Value) → Event → List (Cell × Value)
note writes (Begin s level) = []
note writes (Write s cell value) = writes ++ (cell, value) ∷ []
note writes _ = writes

abbrev pub noted : List (Cell × Value) → List Event → List (Cell × Value)
noted writes [] = writes
noted writes (e ∷ es) = noted (note writes e) es

-- what the session's events write since its last Begin, in order
abbrev pub last_writes : List Event → ℕ → List (Cell × Value)
last_writes events session = noted [] (own_events events session)

abbrev pub state_of : Stage → ℕ → List Event → SessionState
state_of NoSession session events = no_session
state_of InSession session events = in_session session
state_of Pending session events = pending session (last_writes events session)

-- the events of the session that was given; none where none was
abbrev pub given_events : Option ℕ → List Event → List Event
given_events None events = []
given_events (Some session) events = own_events events session

-- the events of the given session among the first so many, and all that came after these
abbrev pub own_since : Option ℕ → ℕ → List Event → List Event
own_since given from events = given_events given (take from events) ++ drop from events

abbrev pub past_of : Desk → Past
past_of desk = record {
  seen = desk.store.history;
  own = own_since desk.given desk.from desk.store.history.events;
  state = state_of desk.stage desk.session desk.store.history.events;
}

-- the session stands so
abbrev pub Stands : Stage → ℕ → List Event → Type 0
Stands NoSession session events = Unit {0}
Stands InSession session events = IsOpen events session × (¬ HasPending events session)
Stands Pending session events = IsOpen events session × HasPending events session

-- a legal history, in which the session stands so
pub record IsServed (history : Chronicle) (session : ℕ) (stage : Stage) : Type 0 where
  pub legal : IsLegalChronicle history
  pub stands : Stands stage session history.events

-- a store, whose session stands so, and that many events at the start
pub record IsDesk (desk : Desk) : Type 0 where
  pub store : IsStore desk.store
  pub served : IsServed desk.store.history desk.session desk.stage
  pub from : desk.from ≤ length desk.store.history.events

-- nothing changes that a caller sees
pub record Stays (old new : Desk) : Type 0 where
  pub history : new.store.history ≡ old.store.history
  pub given : new.given ≡ old.given
  pub from : new.from ≡ old.from
  pub session : new.session ≡ old.session
  pub stands : new.stage ≡ old.stage

-- the event is added, and then the session of that number stands so
pub record GoesTo (old : Desk) (event : Event) (number : ℕ) (stage : Stage) (new : Desk) : Type 0 where
  pub history : new.store.history ≡ followed_by old.store.history event
  pub given : new.given ≡ old.given
  pub from : new.from ≡ old.from
  pub session : new.session ≡ number
  pub stands : new.stage ≡ stage

-- a read of the cell is added, from some source with some count
pub record ReadsTo (old : Desk) (cell : Cell) (word : ℕ) (value : Value) (new : Desk) : Type 0 where
  pub source : ℕ
  pub count : ℕ
  pub goes : GoesTo old (Read old.session cell source count word value) old.session Pending new

-- a look is added, and these are the tables from the known number on
pub record LooksTo (old : Desk) (known : ℕ) (tables : List Table) (new : Desk) : Type 0 where
  pub before : List Table
  pub whole : old.store.history.tables ≡ before ++ tables
  pub known_is : length before ≡ known
  pub goes : GoesTo old (Look old.session (length old.store.history.tables)) old.session old.stage new

-- the definition of the table is added
pub record DefinesTo (old : Desk) (table : Table) (new : Desk) : Type 0 where
  pub history : new.store.history ≡ with_table old.store.history old.session table
  pub given : new.given ≡ old.given
  pub from : new.from ≡ old.from
  pub session : new.session ≡ old.session
  pub stands : new.stage ≡ old.stage

-- a definition, or a look where the name is taken; the number is that of the tables before
abbrev pub AnswersTo : Desk → Table → DefineAnswer → Desk → Type 0
AnswersTo old table (Defined n) new = (n ≡ length old.store.history.tables) × DefinesTo old table new
AnswersTo old table (Taken n) new =
    (n ≡ length old.store.history.tables) × Contains (names old.store.history.events) table.name × GoesTo old (Look old.session n) old.session old.stage new

-- the read of what was chosen was offered, whatever its value
pub record IsChosen (history : Chronicle) (session : ℕ) (cell : Cell) (word : ℕ) (choice : Choice) : Type 0 where
  pub offered : (value : Value) → IsOffered history.events (Read session cell choice.source choice.count word value)
  pub writes : Writes history.events choice.source cell
