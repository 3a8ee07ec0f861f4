use Rattle.order_test.proofs.Taken.{AreRaised}
use Rattle.cycle_report.proofs.pasts.raise_all.Given as goal

abbrev pub invariant-loop-at : goal.invariant-loop-at
invariant-loop-at l = AreRaised l.fn.tops.items l.others l.tops.items l.at
