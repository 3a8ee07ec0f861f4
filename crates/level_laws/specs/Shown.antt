-- Histories that are equal but for the choices of their reads, and which event answers a call.
use Rattle.std.specs.Prelude.{◌≡◌, ℕ, List, map, Contains}
use Rattle.cell_base.specs.declared.level.Level.{Level}
use Rattle.cell_base.specs.declared.cell.Cell.{Cell}
use Rattle.cell_base.specs.declared.value.Value.{Value}
use Rattle.history_core.specs.declared.event.Event.{Event}
use Rattle.history_core.specs.declared.event.Event.TheVariants.{Open, Close, Define, Look, Begin, Scan, Read, Own, Write, Commit, Rollback, Show}
use Rattle.history_core.specs.Events.{names}
use Rattle.history_core.specs.Legal.{IsLegal, IsOffer, IsOffered, MayCome}

-- the event, with 0 as count and word of a read
abbrev pub without_choice : Event → Event
without_choice (Read s cell source count word value) = Read s cell source 0 0 value
without_choice event = event

-- equal but for the counts and words of reads
abbrev pub AreAlike : List Event → List Event → Type 0
AreAlike shown events = map without_choice shown ≡ map without_choice events

-- it can't be that no list is the offer
abbrev pub SomeOffer : List Event → ℕ → Cell → Type 0
SomeOffer events session cell = ((offer : List ℕ) → IsOffer events session cell offer → ⊥) → ⊥

-- it can't be that no legal history is equal to this one but for the counts and words of reads
abbrev pub CanBeShown : List (Cell × Value) → List Event → Type 0
CanBeShown initial events = ((shown : List Event) → AreAlike shown events → IsLegal initial shown → ⊥) → ⊥

-- what a session asks of the history; a read with the choice word that is drawn for it
pub data BookCall : Type 0 where
  opens : BookCall
  closes : ℕ → BookCall
  defines : ℕ → List ℕ → BookCall
  looks : ℕ → BookCall
  begins : ℕ → Level → BookCall
  scans : ℕ → ℕ → BookCall
  reads : ℕ → Cell → ℕ → BookCall
  writes : ℕ → Cell → Value → BookCall
  commits : ℕ → BookCall
  rolls_back : ℕ → BookCall
  shows : ℕ → BookCall

-- the event answers the call: a definition of a taken name by a look, and a read of a cell that the transaction has written by that write
abbrev pub AnswersCall : List Event → BookCall → Event → Type 0
AnswersCall events opens (Open s) = Unit {0}
AnswersCall events (closes session) (Close s) = s ≡ session
AnswersCall events (defines session name) (Define s defined) = (s ≡ session) × (defined ≡ name)
AnswersCall events (defines session name) (Look s count) = (s ≡ session) × Contains (names events) name
AnswersCall events (looks session) (Look s count) = s ≡ session
AnswersCall events (begins session level) (Begin s runs) = (s ≡ session) × (runs ≡ level)
AnswersCall events (scans session table) (Scan s scanned keys) = (s ≡ session) × (scanned ≡ table)
AnswersCall events (reads session cell word) (Read s read source count drawn value) = (s ≡ session) × (read ≡ cell) × (drawn ≡ word)
AnswersCall events (reads session cell word) (Own s read value) = (s ≡ session) × (read ≡ cell)
AnswersCall events (writes session cell value) (Write s written new) = (s ≡ session) × (written ≡ cell) × (new ≡ value)
AnswersCall events (commits session) (Commit s) = s ≡ session
AnswersCall events (rolls_back session) (Rollback s) = s ≡ session
AnswersCall events (shows session) (Show s number) = s ≡ session
AnswersCall _ _ _ = ⊥

-- the event answers the call, fits what came before, is kept out by no limit, and where it is a read it was offered
pub record IsNextAt (initial : List (Cell × Value)) (events : List Event) (call : BookCall) (event : Event) : Type 0 where
  pub answers : AnswersCall events call event
  pub may : MayCome initial events event
  pub offered : IsOffered events event
