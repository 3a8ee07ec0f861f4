use Rattle.cycle_report.proofs.RingLemmas.{OnceBelow}
use Rattle.cycle_report.proofs.rings.repeat.Given as goal

abbrev pub invariant-loop-first : goal.invariant-loop-first
invariant-loop-first l = OnceBelow l.ring l.first
