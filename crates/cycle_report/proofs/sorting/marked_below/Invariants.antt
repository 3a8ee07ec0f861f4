use Rattle.std.proofs.Common.{◌≤◌, ◌-◌, length}
use Rattle.cycle_report.specs.Turns.{AreMarkedBelow}
use Rattle.cycle_report.proofs.sorting.marked_below.Given as goal

abbrev pub invariant-loop-below : goal.invariant-loop-below
invariant-loop-below l = record {
  within : l.below ≤ length l.marks;
  marked : AreMarkedBelow l.marks l.below;
}

abbrev pub decreases-loop-below : goal.decreases-loop-below
decreases-loop-below l = length l.marks - l.below
