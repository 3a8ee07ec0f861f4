use Rattle.forced_rows.specs.Marks.{IsPassed}
use Rattle.forced_rows.proofs.order.first_blocker.Given as goal

abbrev pub invariant-loop-first : goal.invariant-loop-first
invariant-loop-first l = IsPassed l.reach.pairs l.marks l.number l.first
