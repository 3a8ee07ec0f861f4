use Rattle.cycle_report.proofs.RingLemmas.{NoRepeatUpTo}
use Rattle.cycle_report.proofs.rings.again.Given as goal

abbrev pub invariant-loop-second : goal.invariant-loop-second
invariant-loop-second l = NoRepeatUpTo l.ring l.first l.second
