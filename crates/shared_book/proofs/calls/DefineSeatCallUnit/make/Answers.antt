use Rattle.shared_book.proofs.Making.{told_or_none, defined_event}
use Rattle.shared_book.proofs.calls.DefineSeatCallUnit.make.Goals as goal

pub returns-clause-adds : goal.returns-clause-adds
returns-clause-adds c =
    told_or_none _ _ c.define.ensures.stays c.define.result _ c.define.ensures.ok (λ answer told. defined_event _ _ c.define.ensures.stays _ answer told)
    c.define.ensures.err c.requires.may.0 c.define.ensures.state
