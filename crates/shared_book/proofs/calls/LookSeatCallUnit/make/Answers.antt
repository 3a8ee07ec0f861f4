use Rattle.std.proofs.Common.{refl}
use Rattle.history_core.specs.declared.event.Event.TheVariants as events
use Rattle.shared_book.proofs.Making.{told_or_none}
use Rattle.shared_book.proofs.calls.LookSeatCallUnit.make.Goals as goal

pub returns-clause-adds : goal.returns-clause-adds
returns-clause-adds c =
    told_or_none _ _ c.look.ensures.stays c.look.result _ c.look.ensures.ok (λ tables told. (events.Look _ _, refl, told.adds)) c.look.ensures.err
    c.requires.may.0 c.look.ensures.state
