use Rattle.std.proofs.Common.{length}
use Rattle.cycle_report.specs.Rings.{IsAnyRing}
use Rattle.cycle_report.proofs.rings.ring_of.Given as goal

abbrev pub invariant-loop-again : goal.invariant-loop-again
invariant-loop-again l = IsAnyRing l.edges l.ring.items

abbrev pub decreases-loop-again : goal.decreases-loop-again
decreases-loop-again l = length l.ring.items
