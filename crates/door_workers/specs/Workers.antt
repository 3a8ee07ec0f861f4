-- What a worker does: it serves the links of its door one after another.
use Rattle.std.specs.Prelude.{◌≡◌, ◌⊎◌, ◌<◌, ◌+◌, ◌≤◌, ℕ, List, [], ◌++◌, length, map, Option, None, Some}
use Rattle.cell_base.specs.declared.level.Level.{Level}
use Rattle.link_traits.specs.Faults.{counted}
use Rattle.link_traits.specs.Traffic.{Sight}
use Rattle.link_traits.specs.declared.host.HostFault.{HostFault}
use Rattle.link_traits.specs.declared.host.HostFault.TheVariants as faults
use Rattle.history_core.specs.Chronicle.{IsLegalChronicle}
use Rattle.history_book.specs.Book.{Past, no_session}
use Rattle.session_core.specs.declared.served.Served.{Served}
use Rattle.doors.specs.Passage.{Passage}
use Rattle.door_workers.specs.Visits.{Visit, AreVisits, came_of, went_of, outcome_of}
use Rattle.door_workers.specs.declared.worker.Worker.{Worker}

-- What a worker has at a moment: its book and what that has seen, the choice words that are left, and what its door tells; how many links it
-- accepts at most, what became of the sessions that it served, and why it accepts no more, where accepting failed.
pub record Post (B W : Type 0) : Type 0 where
  pub book : B
  pub past : Past
  pub words : W
  pub passage : Passage
  pub accept : ℕ
  pub served : List Served
  pub fault : Option HostFault

-- these links are the next of those that were to come, where these are told
abbrev pub AreNextOf : List Sight → Option (List Sight) → Option (List Sight) → Type 0
AreNextOf links None None = Unit {0}
AreNextOf links (Some before) (Some after) = before ≡ links ++ after
AreNextOf links None (Some after) = ⊥
AreNextOf links (Some before) None = ⊥

-- none is left of the links that are to come, where these are told
abbrev pub IsNoneLeft : Option (List Sight) → Type 0
IsNoneLeft None = Unit {0}
IsNoneLeft (Some links) = links ≡ []

-- how often accepting failed, after one fault or none
abbrev pub faults_after : Option HostFault → ℕ → ℕ
faults_after None before = before
faults_after (Some faults.Failed) before = counted before
faults_after (Some faults.Memory) before = before

-- Why a worker that has accepted so many links accepts no more: it has accepted as many as it may; or its door answered none; or accepting
-- failed, where it might have accepted one more.
abbrev pub Ceases : Option HostFault → ℕ → ℕ → Option (List Sight) → Type 0
Ceases None accepted most to_come = (accepted ≡ most) ⊎ ((accepted < most) × IsNoneLeft to_come)
Ceases (Some fault) accepted most to_come = accepted < most

-- A worker served this number of links one after another on its book with its words: they came in by its door in order, the outcomes of their
-- sessions are kept in order, and each link went back when it had been served. No session is left open.
pub record Attended {B W : Type 0} (unchanged : B → B → Type 0) (gives : W → ℕ → W → Type 0) (level : Level) (number : ℕ)
    (before after : Post B W) : Type 0 where
  pub visits : List Visit
  pub number_is : length visits ≡ number
  pub are_visits : AreVisits gives level before.past before.words visits after.past after.words
  pub served : after.served ≡ before.served ++ map outcome_of visits
  pub accepted : after.passage.accepted ≡ before.passage.accepted + number
  pub back : after.passage.back ≡ before.passage.back ++ map went_of visits
  pub to_come : AreNextOf (map came_of visits) before.passage.to_come after.passage.to_come
  pub accept : after.accept ≡ before.accept
  pub no_session : after.past.state ≡ no_session
  pub legal : IsLegalChronicle before.past.seen → IsLegalChronicle after.past.seen
  pub stays : unchanged before.book after.book

-- What a worker did: it served links until it accepted no more. The count of faults of its door is one more where accepting failed, and the
-- same where it didn't or where memory ran out.
pub record Worked {B W : Type 0} (unchanged : B → B → Type 0) (gives : W → ℕ → W → Type 0) (level : Level) (before after : Post B W) : Type 0 where
  pub number : ℕ
  pub attended : Attended unchanged gives level number before after
  pub faults : after.passage.faults ≡ faults_after after.fault before.passage.faults
  pub ceases : Ceases after.fault number before.accept after.passage.to_come

-- a worker may begin: no fault is kept, its book has no session, and its door took back no more links than came in
pub record IsReady {B W : Type 0} (post : Post B W) : Type 0 where
  pub fault : post.fault ≡ None
  pub no_session : post.past.state ≡ no_session
  pub balance : length post.passage.back ≤ post.passage.accepted

-- what a worker has
abbrev pub post_of : {B D W : Type 0} → (B → Past) → (D → Passage) → Worker B D W → Post B W
post_of past passage worker = record {
  book = worker.book;
  past = past worker.book;
  words = worker.words;
  passage = passage worker.door;
  accept = worker.accept;
  served = worker.served.items;
  fault = worker.fault;
}
