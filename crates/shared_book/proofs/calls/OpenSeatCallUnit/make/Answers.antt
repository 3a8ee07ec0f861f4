use Rattle.shared_book.proofs.Making.{opened_or_none}
use Rattle.shared_book.proofs.calls.OpenSeatCallUnit.make.Goals as goal

pub returns-clause-adds : goal.returns-clause-adds
returns-clause-adds c =
    opened_or_none _ _ c.open-answer.ensures.stays c.open-answer.result c.open-answer.ensures.ok c.open-answer.ensures.state c.open-answer.ensures.err
