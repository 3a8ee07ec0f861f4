use Rattle.std.proofs.Common.{◌≤◌, sum_by, cond}
use Rattle.order_witness.proofs.Placing.{IsPlacing}
use Rattle.cycle_report.specs.Turns.{ArePassed, AreMarkedBelow}
use Rattle.cycle_report.proofs.sorting.order_or_cycle.Given as goal

abbrev pub invariant-loop-n : goal.invariant-loop-n
invariant-loop-n l = record {
  placing : IsPlacing l.graph.size l.graph.edges.items l.marks.items l.order.items;
  passed : ArePassed l.graph.edges.items l.marks.items l.graph.size l.turns.items;
  within : l.below ≤ l.graph.size;
  below : AreMarkedBelow l.marks.items l.below;
}

abbrev pub decreases-loop-n : goal.decreases-loop-n
decreases-loop-n l = sum_by (λ mark. cond mark 0 1) l.marks.items
