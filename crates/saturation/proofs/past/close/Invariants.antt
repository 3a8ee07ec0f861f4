use Rattle.std.proofs.Common.{sum_by, cond}
use Rattle.saturation.proofs.Marks.{IsClosing}
use Rattle.saturation.proofs.past.close.Given as goal

abbrev pub invariant-loop-first : goal.invariant-loop-first
invariant-loop-first l = IsClosing l.history.events l.initial.marks.items l.marks.items

abbrev pub decreases-loop-first : goal.decreases-loop-first
decreases-loop-first l = sum_by (λ mark. cond mark 0 1) l.marks.items
