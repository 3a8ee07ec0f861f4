-- What contracts see of a book on a shared history.
use Rattle.std.specs.Prelude.{◌≡◌, List}
use Rattle.std.proofs.Common.{refl, ◌∙◌}
use mathlib.Core.List.{IsPrefix}
use Rattle.history_core.specs.Chronicle.{Chronicle, IsLegalChronicle}
use Rattle.history_book.specs.Book.{Past, SessionState, no_session, in_session, pending}
use Rattle.valid_writes.specs.Seats.{StandsIn}
use Rattle.turn_lock.specs.Passes.{LockValue, PassValue}
use Rattle.turn_lock.specs.Entries.{HasKey, IsComplete}
use Rattle.shared_book.specs.declared.entry.Entry.{Entry}
use Rattle.shared_book.specs.declared.place.Place.{Place}
use Rattle.shared_book.specs.Entries.{key_of, entries_of, events_of, chronicle_of}
use Rattle.shared_book.specs.Places.{state_at}

-- Of a book: its pass, and where its session stands
pub record BookValue : Type 0 where
  pub pass : PassValue Entry
  pub state : SessionState

-- the history as the book's pass saw it last, and the events that the pass's turns added
abbrev pub past_of : BookValue → Past
past_of book = record { seen = chronicle_of book.pass.seen; own = events_of book.pass.own; state = book.state }

-- a book of the pass in which no session is open
abbrev pub fresh_book : PassValue Entry → BookValue
fresh_book pass = record { pass = pass; state = no_session }

-- the calls of a book leave its lock, the lists that its pass keeps of others, and its parts
pub record Stays (old new : BookValue) : Type 0 where
  pub lock : new.pass.lock ≡ old.pass.lock
  pub kept : new.pass.kept ≡ old.pass.kept
  pub parts : new.pass.parts ≡ old.pass.parts

pub stays_same : (book : BookValue) → Stays book book
stays_same book = record { lock = refl; kept = refl; parts = refl }

pub stays_both : (a b c : BookValue) → Stays a b → Stays b c → Stays a c
stays_both a b c first second =
    record { lock = second.lock ∙ first.lock; kept = second.kept ∙ first.kept; parts = second.parts ∙ first.parts }

-- the history that the pass saw last is legal
abbrev pub HasSeenLegal : PassValue Entry → Type 0
HasSeenLegal pass = IsLegalChronicle (chronicle_of pass.seen)

-- the list stands for a legal history
pub record StartsLegal (entries : List Entry) : Type 0 where
  pub history : Chronicle
  pub is : entries ≡ entries_of history
  pub legal : IsLegalChronicle history

-- where a session is open, the pass has events of it, and all that the history has
abbrev pub HasAllOf : PassValue Entry → SessionState → Type 0
HasAllOf pass no_session = Unit {0}
HasAllOf pass (in_session s) = HasKey key_of s pass.own × IsComplete key_of pass.seen pass.own
HasAllOf pass (pending s writes) = HasKey key_of s pass.own × IsComplete key_of pass.seen pass.own

-- what always holds of a book: its pass is one of this lock, has seen a history that goes on from the one that the lock was made with, and
-- has all events of the book's session, which stands there so
pub record IsBook (lock : LockValue Entry) (pass : PassValue Entry) (place : Place) : Type 0 where
  pub lock_is : pass.lock ≡ lock
  pub start : StartsLegal lock.start
  pub begins : IsPrefix lock.start pass.seen
  pub has_all : HasAllOf pass (state_at place (events_of pass.seen))
  pub stands : StandsIn (state_at place (events_of pass.seen)) (events_of pass.seen)
