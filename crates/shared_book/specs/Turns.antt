-- What one turn of a book does to the shared history.
use Rattle.std.specs.Prelude.{◌≡◌, ◌≢◌, ◌≤◌, ◌⊎◌, ℕ, List, ◌++◌, length, All, Contains}
use Rattle.sql_tree.specs.declared.table.Table.{Table}
use Rattle.history_core.specs.declared.event.Event.{Event}
use Rattle.history_core.specs.declared.event.Event.TheVariants.{Open}
use Rattle.history_core.specs.Events.{session_in}
use Rattle.history_core.specs.Chronicle.{Chronicle, IsLegalChronicle}
use Rattle.history_book.specs.Book.{Past, SessionState, HasSession, session_of}
use Rattle.valid_writes.specs.Seats.{StandsIn}
use Rattle.shared_book.specs.declared.entry.Entry.{Entry}
use Rattle.shared_book.specs.declared.place.Place.{Place}
use Rattle.shared_book.specs.Entries.{entries_of}
use Rattle.shared_book.specs.Places.{state_at}

abbrev pub past_with : Chronicle → List Event → SessionState → Past
past_with seen own state = record { seen = seen; own = own; state = state }

-- the event opens a session, or is of the one that is open
abbrev pub IsOfSession : SessionState → Event → Type 0
IsOfSession state e = (e ≡ Open (session_in e)) ⊎ (HasSession state × (session_in e ≡ session_of state))

-- one event was added or none, and the session that is open afterwards has it
pub record AddsOne (old new : Past) : Type 0 where
  pub level : new.seen.level ≡ old.seen.level
  pub initial : new.seen.initial ≡ old.seen.initial
  pub added : List Event
  pub few : length added ≤ 1
  pub seen : new.seen.events ≡ old.seen.events ++ added
  pub own : new.own ≡ old.own ++ added
  pub more : List Table
  pub tables : new.seen.tables ≡ old.seen.tables ++ more
  pub of_session : All (IsOfSession old.state) added
  -- a session that is open afterwards is the one that was, or an event of it was added
  pub goes_on : HasSession new.state → (HasSession old.state × (session_of new.state ≡ session_of old.state)) ⊎ Contains added (Open (session_of new.state))

-- of each legal history with these entries, the session stands there in it, and the call may be made
abbrev pub NeedsAt : Place → (ℕ → SessionState → Type 0) → List Entry → Type 0
NeedsAt place may entries = (history : Chronicle) → entries ≡ entries_of history → IsLegalChronicle history →
    StandsIn (state_at place history.events) history.events × may (length history.tables) (state_at place history.events)

-- A turn found the history x and left y, both legal, where a call did this and answered so. Afterwards the session stands at that place.
pub record Turned {A : Type 0} (place : Place) (does : Past → A → Past → Type 0) (x : Chronicle) (after : Place) (answer : A) (y : Chronicle) : Type 0 where
  pub legal : IsLegalChronicle x
  pub legal_after : IsLegalChronicle y
  pub mine : List Event
  pub ours : List Event
  pub adds : AddsOne (past_with x mine (state_at place x.events)) (past_with y ours (state_at after y.events))
  pub did : does (past_with x mine (state_at place x.events)) answer (past_with y ours (state_at after y.events))
  pub stands : StandsIn (state_at after y.events) y.events

-- A book saw `before` last. Then others added events, so that a turn found x; it left y, with these events added.
pub record LiesBetween (before x y : Chronicle) (state : SessionState) (added : List Event) : Type 0 where
  pub level : x.level ≡ before.level
  pub initial : x.initial ≡ before.initial
  pub others : List Event
  pub seen : x.events ≡ before.events ++ others
  pub foreign : All (λ e. session_in e ≢ session_of state) others
  pub apart : (e : Event) → Contains added e → All (λ other. session_in other ≢ session_in e) others
  pub more : List Table
  pub tables : x.tables ≡ before.tables ++ more
  pub grown : y.events ≡ x.events ++ added
