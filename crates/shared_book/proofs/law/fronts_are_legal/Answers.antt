use Rattle.shared_book.proofs.LegalFronts.{front_legal}
use Rattle.shared_book.proofs.law.fronts_are_legal.Goals as goal

pub returns : goal.returns
returns c = front_legal
