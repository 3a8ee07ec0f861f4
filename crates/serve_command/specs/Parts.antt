-- What the workers of a server did, each its part.
use Rattle.std.specs.Prelude.{◌≡◌, ℕ, suc, List, [], ◌∷◌, ◌++◌, length, map, Option, None, Some}
use Rattle.cell_base.specs.declared.level.Level.{Level}
use Rattle.rand_chacha.specs.ChaCha.{ChaCha}
use Rattle.choice_stream.specs.Seeds.{Draws, stream_front}
use Rattle.history_core.specs.declared.event.Event.{Event}
use Rattle.history_core.specs.Chronicle.{Chronicle}
use Rattle.history_book.specs.Book.{Past, no_session}
use Rattle.link_traits.specs.declared.host.HostFault.{HostFault}
use Rattle.link_traits.specs.declared.host.HostFault.TheVariants as faults
use Rattle.session_core.specs.Record.{events_of}
use Rattle.shared_book.specs.Fronts.{IsFrontOf}
use Rattle.doors.specs.Passage.{Passage}
use Rattle.door_workers.specs.Visits.{Visit, AreVisits, came_of, went_of}
use Rattle.door_workers.specs.Workers.{AreNextOf, Ceases, faults_after}

-- the past of a book that begins with this history, and has no session and no event of its own
abbrev pub begins_with : Chronicle → Past
begins_with start = record { seen = start; own = []; state = no_session }

-- What became of one worker: the links that it served, and why it accepted no more, where accepting failed.
pub record Part : Type 0 where
  pub visits : List Visit
  pub fault : Option HostFault

-- A worker served its links one after another, from this start of a history on, that others added to as well, with the words of its own stream
-- of the seed. What its book saw last is a front of the history. So the history begins as the book saw it at each call before, since a book's
-- calls only add to what it has seen. The links came in by its door and went back to it. It accepted as many as it may, or no further one came,
-- or accepting failed, which its door counted.
pub record IsPart (level : Level) (start history : Chronicle) (seed most stream : ℕ) (before : Passage) (part : Part) (after : Passage) :
    Type 0 where
  pub past : Past
  pub words : ChaCha
  pub are_visits : AreVisits Draws level (begins_with start) (stream_front seed stream) part.visits past words
  pub saw : IsFrontOf past.seen history
  pub accepted : after.accepted ≡ length part.visits
  pub back : after.back ≡ map went_of part.visits
  pub to_come : AreNextOf (map came_of part.visits) before.to_come after.to_come
  pub faults : after.faults ≡ faults_after part.fault 0
  pub ceases : Ceases part.fault (length part.visits) most after.to_come

-- the same of each worker, whose streams are numbered from this one on
abbrev pub AreParts : Level → Chronicle → Chronicle → ℕ → ℕ → ℕ → List Passage → List Part → List Passage → Type 0
AreParts level start history seed most stream [] [] [] = Unit {0}
AreParts level start history seed most stream (before ∷ befores) (part ∷ parts) (after ∷ afters) =
    IsPart level start history seed most stream before part after × AreParts level start history seed most (suc stream) befores parts afters
AreParts level start history seed most stream [] [] (after ∷ afters) = ⊥
AreParts level start history seed most stream [] (part ∷ parts) afters = ⊥
AreParts level start history seed most stream (before ∷ befores) [] afters = ⊥
AreParts level start history seed most stream (before ∷ befores) (part ∷ parts) [] = ⊥

-- the events of the record of one link's session
abbrev pub record_of : Visit → List Event
record_of visit = events_of visit.account.entries

-- the records of all links, worker by worker
abbrev pub records_of : List Part → List (List Event)
records_of [] = []
records_of (part ∷ parts) = map record_of part.visits ++ records_of parts

-- of two faults the one that decides: out of memory stands before a failure
abbrev pub worse : Option HostFault → Option HostFault → Option HostFault
worse None fault = fault
worse (Some faults.Memory) fault = Some faults.Memory
worse (Some faults.Failed) (Some faults.Memory) = Some faults.Memory
worse (Some faults.Failed) (Some faults.Failed) = Some faults.Failed
worse (Some faults.Failed) None = Some faults.Failed

-- the fault of all workers that decides
abbrev pub worst_of : List Part → Option HostFault
worst_of [] = None
worst_of (part ∷ parts) = worse part.fault (worst_of parts)
