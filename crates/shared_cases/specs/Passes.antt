-- The passes of a test's books.
use Rattle.std.specs.Prelude.{◌≡◌, ◌+◌}
use Rattle.turn_lock.specs.Passes.{LockValue, PassValue}
use Rattle.turn_lock.specs.Views.{all_parts}
use Rattle.shared_book.specs.declared.entry.Entry.{Entry}

-- the pass is one of the same lock, with as many parts
abbrev pub SamePass : PassValue Entry → PassValue Entry → Type 0
SamePass old new = (new.lock ≡ old.lock) × (new.parts ≡ old.parts)

-- two passes are of the lock, and have all its parts together
pub record ArePassesOf (lock : LockValue Entry) (pass other : PassValue Entry) : Type 0 where
  pub pass_lock : pass.lock ≡ lock
  pub other_lock : other.lock ≡ lock
  pub all : pass.parts + other.parts ≡ all_parts
