use Rattle.cycle_report.proofs.rings.ring_of.Goals as goal

pub returns-clause-once : goal.returns-clause-once
returns-clause-once c = rw (c.deref.ensures.value, c.in_default.is) at c.repeat.ensures.none
