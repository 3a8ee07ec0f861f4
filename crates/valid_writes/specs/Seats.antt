-- Where a session stands in a history.
use Rattle.std.specs.Prelude.{◌≡◌, List}
use Rattle.history_core.specs.declared.event.Event.{Event}
use Rattle.history_core.specs.Transactions.{HasPending}
use Rattle.history_core.specs.Legal.{IsOpen}
use Rattle.history_book.specs.Book.{SessionState, no_session, in_session, pending}
use Rattle.valid_writes.specs.Desk.{last_writes}

-- the session that is open is open in the history, and its transaction is pending there with what it wrote last
abbrev pub StandsIn : SessionState → List Event → Type 0
StandsIn no_session events = Unit {0}
StandsIn (in_session s) events = IsOpen events s × (¬ HasPending events s)
StandsIn (pending s writes) events = IsOpen events s × HasPending events s × (writes ≡ last_writes events s)
