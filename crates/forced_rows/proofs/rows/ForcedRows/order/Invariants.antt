use Rattle.std.proofs.Common.{◌≤◌, sum_by, cond}
use Rattle.order_witness.proofs.Placing.{IsPlacing}
use Rattle.forced_rows.specs.Marks.{ArePassed, AreMarkedBelow}
use Rattle.forced_rows.proofs.rows.ForcedRows.order.Given as goal

abbrev pub invariant-loop-number : goal.invariant-loop-number
invariant-loop-number l = record {
  placing : IsPlacing l.self.reach.size l.self.reach.pairs l.marks.items l.order.items;
  passed : ArePassed l.self.reach.size l.self.reach.pairs l.marks.items l.passed.items;
  within : l.below ≤ l.self.reach.size;
  below : AreMarkedBelow l.marks.items l.below;
}

abbrev pub decreases-loop-number : goal.decreases-loop-number
decreases-loop-number l = sum_by (λ mark. cond mark 0 1) l.marks.items
