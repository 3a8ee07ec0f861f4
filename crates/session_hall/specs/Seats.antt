-- When a seat of a hall stands for what went to and fro with its client.
use Rattle.std.specs.Prelude.{◌≡◌, ◌≢◌, ◌≤◌, ◌⊎◌, ◌+◌, ◌-◌, ℕ, List, ◌++◌, length, take, All, Option, Some, None, IfSome, Contains, Result, Ok, Err}
use Rattle.cell_base.specs.declared.memory.Memory.{Memory}
use Rattle.cell_base.specs.declared.level.Level.{Level}
use Rattle.choice_stream.specs.Choices.{DrawsFirst}
use Rattle.history_core.specs.declared.event.Event.TheVariants.{Open}
use Rattle.history_core.specs.Chronicle.{Chronicle, IsLegalChronicle}
use Rattle.history_book.specs.Book.{Past, HasSession, GoesOn, no_session, session_of}
use Rattle.valid_writes.specs.Desk.{given_events}
use Rattle.valid_writes.specs.Seats.{StandsIn}
use Rattle.valid_writes.specs.Beginnings.{no_past}
use Rattle.block_machine.specs.Calls.{Call}
use Rattle.block_machine.specs.Script.{Entry, did, refused, short, unsent, stop}
use Rattle.block_machine.specs.declared.end.End.{End}
use Rattle.block_machine.specs.declared.end.End.TheVariants as ends
use Rattle.block_machine.specs.declared.end.Stop.TheVariants as stops
use Rattle.session_core.specs.declared.session.Session.{Session}
use Rattle.session_core.specs.declared.stage.SessionStage.{SessionStage}
use Rattle.session_core.specs.declared.stage.SessionStage.TheVariants as stages
use Rattle.session_core.specs.Told.{opened_in}
use Rattle.session_core.specs.Record.{IsValidRecord}
use Rattle.session_core.specs.Wants.{Want}
use Rattle.session_core.specs.Wants as wishes
use Rattle.session_core.specs.Stands.{IsLast, Lacks, Shows, outer, served_of}
use Rattle.session_core.specs.Sessions.{Stands, wanted}
use Rattle.session_core.specs.Serve.{Account, IsOfLast}
use Rattle.session_core.specs.Running.{Sits}
use Rattle.session_hall.specs.declared.client.Client.{Client}
use Rattle.session_hall.specs.declared.client.Stepped.{Stepped}
use Rattle.session_hall.specs.declared.client.Stepped.TheVariants.{Called, Ended}
use Rattle.session_hall.specs.declared.seat.Seat.{Seat}
use Rattle.session_hall.specs.Accounts.{Grew}
use Rattle.session_hall.specs.Clients.{HasEnd, come_to}

-- How a session of this number stands in a history, where its book has this past.
pub record Lives (history : Chronicle) (past : Past) (number : Option ℕ) : Type 0 where
  pub goes_on : GoesOn past (come_to past history)
  pub own : given_events number history.events ≡ past.own
  pub state : StandsIn past.state history.events
  pub number_is : HasSession past.state → number ≡ Some (session_of past.state)
  pub was_opened : IfSome number (λ s. Contains history.events (Open s))

-- what an end that is laid to the link says here
abbrev pub IsLaid : Option End → List ℕ → List ℕ → Type 0
IsLaid None stream taken = Unit {0}
IsLaid (Some ends.Closed) stream taken = taken ≡ stream
IsLaid (Some ends.Cut) stream taken = taken ≡ stream
IsLaid (Some ends.WriteFault) stream taken = Unit {0}
IsLaid (Some _) stream taken = ⊥

-- why an entry that no call made stands in the record of a session whose end is laid so
abbrev pub IsFrom : List ℕ → List ℕ → Option End → Entry → Type 0
IsFrom stream taken laid (stop cause) = (cause ≡ stops.EndOfInput) × (taken ≡ stream)
IsFrom stream taken laid (unsent n) = laid ≡ Some ends.WriteFault
IsFrom stream taken laid (did a e) = Unit {0}
IsFrom stream taken laid (refused why) = Unit {0}
IsFrom stream taken laid (short final n) = Unit {0}

-- A session stands for what an account says of it: its record was made of the client's own book, by which it sits.
pub record Follows (level : Level) (history : Chronicle) (words : List ℕ) (account : Account) (session : Session) (left : List ℕ) : Type 0 where
  pub stands : Stands session account.taken account.entries account.calls account.sent
  pub served_level : served_of session.runner ≡ level
  pub past : Past
  pub valid : IsValidRecord DrawsFirst (no_past level) words account.calls account.entries past left
  pub lives : Lives history past (opened_in account.entries)
  pub sits : Sits session past
  -- a session that was opened and has left its book is about to end
  pub away : past.state ≡ no_session → (opened_in account.entries ≡ None) ⊎ IsLast session.stage

-- What a seat took of its client's stream and sent is what the account says, and why its session stops.
pub record Carries (stream : List ℕ) (account : Account) (seat : Seat) : Type 0 where
  pub stream_is : seat.stream.items ≡ stream
  pub taken : account.taken ≡ take seat.at stream
  pub sent : account.sent ≡ seat.sent.items ++ account.lost
  pub lacks : Lacks seat.session.stage account.lost
  pub last : IsOfLast account
  pub laid : IsLaid (outer seat.session.stage) stream account.taken
  pub causes : All (IsFrom stream account.taken (outer seat.session.stage)) account.entries
  pub unsent_is : outer seat.session.stage ≡ Some ends.WriteFault → (n : ℕ) × Contains account.entries (unsent n)

-- A seat stands for an account of its client, whatever its session wants.
pub record Attends (level : Level) (history : Chronicle) (client : Client) (account : Account) (seat : Seat) : Type 0 where
  pub follows : Follows level history client.words.items account seat.session seat.words
  pub carries : Carries client.stream.items account seat

-- The seat stands for the account grown by so many calls, whatever account it stood for.
abbrev pub Grows : Chronicle → Seat → ℕ → Chronicle → Seat → Type 0
Grows old before many new after =
    (level : Level) (client : Client) (account : Account) → Attends level old client account before →
    (grown : Account) × Grew account old many grown new × Attends level new client grown after

-- the same without a call, whatever the history
abbrev pub GrowsAlone : Seat → Seat → Type 0
GrowsAlone before after = (history : Chronicle) → Grows history before 0 history after

-- the seat stands for some account
abbrev pub IsAttending : Chronicle → Seat → Type 0
IsAttending history seat = (level : Level) × (client : Client) × (account : Account) × Attends level history client account seat

-- From one history and seat to others, by so many calls. The new history is legal.
pub record Goes (old : Chronicle) (before : Seat) (many : ℕ) (new : Option Chronicle) (after : Seat) : Type 0 where
  pub now : Chronicle
  pub store : new ≡ Some now
  pub legal : IsLegalChronicle now
  pub grows : Grows old before many now after

-- all but the session and what was sent stays
pub record Keeps (old new : Seat) : Type 0 where
  pub at : new.at ≡ old.at
  pub stream : new.stream.items ≡ old.stream.items
  pub end : new.end ≡ old.end

-- whatever the session stands for, what it was to be sent and what it wants is told of that
abbrev pub TellsAll : Session → Type 0
TellsAll session = (taken : List ℕ) (entries : List Entry) (calls : List Call) (sent : List ℕ) → Stands session taken entries calls sent →
    Shows (served_of session.runner) (wanted session) taken entries calls sent

-- 1 where more bytes may be wanted
abbrev pub hears_at : SessionStage → ℕ
hears_at (stages.Leaving finish) = 0
hears_at (stages.Closing finish) = 0
hears_at (stages.Parting fatal) = 0
hears_at (stages.Ended finish) = 0
hears_at _ = 1

-- how many pieces and stops are left at most
abbrev pub left_in : Seat → ℕ
left_in seat = (length seat.stream.items - seat.at) + hears_at seat.session.stage

-- how many calls were made, by the answer
abbrev pub IsCount : Result Stepped Memory → ℕ → Type 0
IsCount (Ok Called) many = many ≡ 1
IsCount (Ok Ended) many = many ≤ 1
IsCount (Err e) many = Unit {0}

-- what an answer says of the end that is shown
abbrev pub ShowsBy : Result Stepped Memory → Option End → Type 0
ShowsBy (Ok Called) end = end ≡ None
ShowsBy (Ok Ended) end = HasEnd end
ShowsBy (Err e) end = end ≡ Some ends.Memory

-- all that was due was sent, and no more is looked at: bytes or a call are wanted, or the end is there
abbrev pub IsSettled : Want → Type 0
IsSettled wishes.Bytes = Unit {0}
IsSettled (wishes.Book c) = Unit {0}
IsSettled (wishes.Ended end) = Unit {0}
IsSettled wishes.Message = ⊥
IsSettled wishes.Send = ⊥

-- all that was due was sent, and the end isn't there
abbrev pub IsGoing : Want → Type 0
IsGoing wishes.Bytes = Unit {0}
IsGoing (wishes.Book c) = Unit {0}
IsGoing _ = ⊥

-- a call is wanted, or the end is there
abbrev pub IsCallOrEnd : Want → Type 0
IsCallOrEnd (wishes.Book c) = Unit {0}
IsCallOrEnd (wishes.Ended end) = Unit {0}
IsCallOrEnd _ = ⊥

abbrev pub IsCall : Want → Type 0
IsCall (wishes.Book c) = Unit {0}
IsCall _ = ⊥

-- no reply was left unsent
abbrev pub IsResting : Seat → Type 0
IsResting seat = outer seat.session.stage ≢ Some ends.WriteFault

-- a reply was left unsent, and the session is about to leave its book
pub record LeftUnsent (seat : Seat) : Type 0 where
  pub laid : outer seat.session.stage ≡ Some ends.WriteFault
  pub last : IsLast seat.session.stage

-- the end that is shown for the session's own
abbrev pub shown_for : End → End
shown_for ends.WriteFault = ends.Memory
shown_for end = end

-- the end that a seat shows, by what its session wants
abbrev pub ShowsEnd : Option End → Want → Type 0
ShowsEnd None want = IsGoing want
ShowsEnd (Some shown) want = (end : End) × (want ≡ wishes.Ended end) × (shown ≡ shown_for end)
