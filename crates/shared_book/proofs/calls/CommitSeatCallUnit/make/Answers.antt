use Rattle.std.proofs.Common.{refl, ap}
use Rattle.history_book.specs.Book.{session_of}
use Rattle.shared_book.proofs.Making.{one_added, pending_has}
use Rattle.shared_book.proofs.calls.CommitSeatCallUnit.make.Goals as goal

pub returns-clause-adds : goal.returns-clause-adds
returns-clause-adds c =
    one_added _ _ c.commit.ensures.stays _ c.commit.ensures.adds (pending_has _ c.requires.may) refl (λ is. ap session_of c.commit.ensures.state)
