use Rattle.std.proofs.Common.{arith}
use Rattle.cycle_report.proofs.RingLemmas.{once_step, once_all}
use Rattle.cycle_report.proofs.rings.repeat.Goals as goal

pub loop-first-init : goal.loop-first-init
loop-first-init c = λ first second below again. absurd (omega arith)

pub loop-first-preserved : goal.loop-first-preserved
loop-first-preserved c = once_step c.args.ring.now c.loop-first.first c.in-None.ensures.none c.loop-first.invariant

pub returns-clause-none : goal.returns-clause-none
returns-clause-none c = λ first second again. once_all c.args.ring.now c.loop-first.first c.loop-first-test.false c.loop-first.invariant first second again
