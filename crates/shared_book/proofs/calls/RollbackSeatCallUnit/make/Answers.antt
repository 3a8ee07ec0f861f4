use Rattle.std.proofs.Common.{refl, ap}
use Rattle.history_book.specs.Book.{session_of}
use Rattle.shared_book.proofs.Making.{one_added, pending_has}
use Rattle.shared_book.proofs.calls.RollbackSeatCallUnit.make.Goals as goal

pub returns-clause-adds : goal.returns-clause-adds
returns-clause-adds c =
    one_added _ _ c.rollback.ensures.stays _ c.rollback.ensures.adds (pending_has _ c.requires.may) refl (λ is. ap session_of c.rollback.ensures.state)
