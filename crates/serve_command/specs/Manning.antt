-- How the workers of a server begin, and how they are left.
use Rattle.std.specs.Prelude.{◌≡◌, ◌≤◌, ◌+◌, ℕ, suc, List, [], ◌∷◌, ◌++◌, None, vec_len, vec_capacity}
use Rattle.cell_base.specs.declared.level.Level.{Level}
use Rattle.rand_chacha.specs.ChaCha.{ChaCha}
use Rattle.choice_stream.specs.Seeds.{Draws, stream_front}
use Rattle.turn_lock.specs.Passes.{LockValue, PassValue}
use Rattle.doors.specs.Passage.{Passage}
use Rattle.door_workers.specs.Workers.{Worked, post_of}
use Rattle.door_workers.specs.declared.worker.Worker.{Worker}
use Rattle.shared_book.specs.declared.entry.Entry.{Entry}
use Rattle.shared_book.specs.Books.{BookValue, fresh_book, past_of, Stays}
use Rattle.history_book.specs.Book.{no_session}

-- a worker that begins: a book of this pass, the words of this stream of the seed, and room for so many outcomes
pub record Begins {D : Type 0} (pass : PassValue Entry) (seed accept stream : ℕ) (door : D) (worker : Worker BookValue D ChaCha) : Type 0 where
  pub book : worker.book ≡ fresh_book pass
  pub door_is : worker.door ≡ door
  pub words : worker.words ≡ stream_front seed stream
  pub accept_is : worker.accept ≡ accept
  pub served : worker.served.items ≡ []
  pub room : vec_len worker.served + worker.accept ≤ vec_capacity worker.served
  pub fault : worker.fault ≡ None

-- The workers of these doors, whose streams are numbered from this one on. The worker of the first door stands last.
abbrev pub AreManned : {D : Type 0} → PassValue Entry → ℕ → ℕ → ℕ → List D → List (Worker BookValue D ChaCha) → Type 0
AreManned pass seed accept stream [] workers = workers ≡ []
AreManned {D} pass seed accept stream (door ∷ doors) workers =
    (front : List (Worker BookValue D ChaCha)) × (worker : Worker BookValue D ChaCha) × (workers ≡ front ++ worker ∷ [])
    × Begins pass seed accept stream door worker × AreManned pass seed accept (suc stream) doors front

-- a worker that began so, and has ended
pub record HasEnded {D : Type 0} (passage : D → Passage) (level : Level) (pass : PassValue Entry) (seed accept stream : ℕ) (before : Passage)
    (worker : Worker BookValue D ChaCha) : Type 0 where
  pub began : Worker BookValue D ChaCha
  pub door : D
  pub begins : Begins pass seed accept stream door began
  pub before_is : passage door ≡ before
  pub worked : Worked Stays Draws level (post_of past_of passage began) (post_of past_of passage worker)

-- The workers of doors that told this at first, after they have ended. The worker of the first door stands last.
abbrev pub HaveEnded : {D : Type 0} → (D → Passage) → Level → PassValue Entry → ℕ → ℕ → ℕ → List Passage → List (Worker BookValue D ChaCha) → Type 0
HaveEnded passage level pass seed accept stream [] workers = workers ≡ []
HaveEnded {D} passage level pass seed accept stream (before ∷ befores) workers =
    (front : List (Worker BookValue D ChaCha)) × (worker : Worker BookValue D ChaCha) × (workers ≡ front ++ worker ∷ [])
    × HasEnded passage level pass seed accept stream before worker × HaveEnded passage level pass seed accept (suc stream) befores front

-- the worker may leave: its book is one of this lock, has one part, and no session
pub record MayLeave {D : Type 0} (lock : LockValue Entry) (worker : Worker BookValue D ChaCha) : Type 0 where
  pub lock_is : worker.book.pass.lock ≡ lock
  pub parts : worker.book.pass.parts ≡ 1
  pub no_session : worker.book.state ≡ no_session
