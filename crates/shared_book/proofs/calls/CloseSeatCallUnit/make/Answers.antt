use Rattle.std.proofs.Common.{refl, subst}
use Rattle.history_book.specs.Book.{SessionState, HasSession}
use Rattle.shared_book.proofs.Making.{one_added, idle_has}
use Rattle.shared_book.proofs.calls.CloseSeatCallUnit.make.Goals as goal

pub returns-clause-adds : goal.returns-clause-adds
returns-clause-adds c =
    one_added _ _ c.close.ensures.stays _ c.close.ensures.adds (idle_has _ c.requires.may) refl
    (λ is. absurd (subst (λ (s : SessionState). HasSession s) c.close.ensures.state is))
