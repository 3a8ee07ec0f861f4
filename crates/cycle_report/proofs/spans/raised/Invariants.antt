use Rattle.std.proofs.Common.{◌-◌, length}
use Rattle.cycle_report.specs.Spans.{IsFloor}
use Rattle.cycle_report.proofs.spans.raised.Given as goal

abbrev pub invariant-loop-up : goal.invariant-loop-up
invariant-loop-up l = IsFloor l.view.events.now l.number l.up

abbrev pub decreases-loop-up : goal.decreases-loop-up
decreases-loop-up l = length l.view.txns.now - l.up
