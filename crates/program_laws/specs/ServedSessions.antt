-- The links of a server as sessions of its history.
use Rattle.std.specs.Prelude.{◌≡◌, ◌≢◌, ℕ, List, [], ◌∷◌, ◌++◌, Option, None, Some, All, Any, Contains, slice_get}
use Rattle.history_core.specs.declared.event.Event.{Event}
use Rattle.history_core.specs.Chronicle.{Chronicle, own_events}
use Rattle.shared_book.specs.Finish.{HasEventOf}
use Rattle.door_workers.specs.Visits.{Visit}
use Rattle.serve_command.specs.Parts.{Part, record_of}
use Rattle.session_laws.specs.Openings.{BeginsWithOpening}

-- the links of all workers, worker by worker
abbrev pub links_of : List Part → List Visit
links_of [] = []
links_of (part ∷ parts) = part.visits ++ links_of parts

-- the record begins with the opening of the session, and is all that the events have of it
pub record IsAllOf (events : List Event) (session : ℕ) (own : List Event) : Type 0 where
  pub begins : BeginsWithOpening session own
  pub all : own_events events session ≡ own

-- the record is all of the session that is named; or none is named, and it has no event
abbrev pub IsItsSession : List Event → Option ℕ → List Event → Type 0
IsItsSession events None own = own ≡ []
IsItsSession events (Some session) own = IsAllOf events session own

-- The links are the sessions of a history that came after its start. The record of each is all of the session that its outcome names, or has
-- no event. No two outcomes name the same session, and none names one that the start has. Each event that came stands in a record.
pub record AreSessions (links : List Visit) (start history : Chronicle) : Type 0 where
  pub each : All (λ link. IsItsSession history.events link.outcome.session (record_of link)) links
  pub apart : (i j session : ℕ) (one other : Visit) → slice_get links i ≡ Some one → slice_get links j ≡ Some other →
      one.outcome.session ≡ Some session → other.outcome.session ≡ Some session → i ≡ j
  pub fresh : (session : ℕ) → HasEventOf session start.events → All (λ link. link.outcome.session ≢ Some session) links
  pub later : List Event
  pub events : history.events ≡ start.events ++ later
  pub held : (e : Event) → Contains later e → Any (λ link. Contains (record_of link) e) links
