use Rattle.std.proofs.Common.{ℕ, ◌<◌}
use Rattle.forced_rows.specs.Marks.{MayBeMarked, ArePassed}
use Rattle.forced_rows.proofs.order.next_marked.Given as goal

abbrev pub invariant-loop-number : goal.invariant-loop-number
invariant-loop-number l = record {
  kept : ArePassed l.reach.size l.reach.pairs l.marks l.passed;
  none : (m : ℕ) → m < l.number → MayBeMarked l.reach.pairs l.marks m → ⊥;
}
