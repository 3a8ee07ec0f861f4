-- Where the session of a book stands in a history.
use Rattle.std.specs.Prelude.{◌≡◌, ℕ, List, Option, Some, None, Result, Ok, Err}
use Rattle.history_core.specs.declared.event.Event.{Event}
use Rattle.history_core.specs.declared.fault.BookFault.{BookFault}
use Rattle.history_book.specs.Book.{SessionState, no_session, in_session, pending}
use Rattle.valid_writes.specs.Desk.{last_writes}
use Rattle.shared_book.specs.declared.place.Place.{Place}
use Rattle.shared_book.specs.declared.place.Place.TheVariants.{NoSession, InSession, Pending}

-- a pending transaction has written what its session's events wrote last
abbrev pub state_at : Place → List Event → SessionState
state_at NoSession events = no_session
state_at (InSession session) events = in_session session
state_at (Pending session) events = pending session (last_writes events session)

-- the session stands there, whatever it wrote
abbrev pub IsAt : Place → SessionState → Type 0
IsAt NoSession no_session = Unit {0}
IsAt NoSession (in_session s) = ⊥
IsAt NoSession (pending s writes) = ⊥
IsAt (InSession session) no_session = ⊥
IsAt (InSession session) (in_session s) = s ≡ session
IsAt (InSession session) (pending s writes) = ⊥
IsAt (Pending session) no_session = ⊥
IsAt (Pending session) (in_session s) = ⊥
IsAt (Pending session) (pending s writes) = s ≡ session

-- the number of the session, where one is open
abbrev pub session_at : Place → Option ℕ
session_at NoSession = None
session_at (InSession session) = Some session
session_at (Pending session) = Some session

-- where a session stands once one was opened, unless that was refused
abbrev pub place_opened : Result ℕ BookFault → Place → Place
place_opened (Ok session) place = InSession session
place_opened (Err fault) place = place

-- where an open session stands once a transaction has begun, and once it has ended
abbrev pub place_begun : Place → Place
place_begun NoSession = NoSession
place_begun (InSession session) = Pending session
place_begun (Pending session) = Pending session

abbrev pub begun_if : Result ℕ BookFault → Place → Place
begun_if (Ok number) place = place_begun place
begun_if (Err fault) place = place

abbrev pub place_ended : Place → Place
place_ended NoSession = NoSession
place_ended (InSession session) = InSession session
place_ended (Pending session) = InSession session
