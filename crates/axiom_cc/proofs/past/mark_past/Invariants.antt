use Rattle.std.proofs.Common.{sum_by, cond}
use Rattle.axiom_cc.proofs.Marking.{IsFollowing}
use Rattle.axiom_cc.proofs.past.mark_past.Given as goal

abbrev pub invariant-loop-second : goal.invariant-loop-second
invariant-loop-second l = IsFollowing l.history.events l.initial.marks.items l.marks.items l.done.items

abbrev pub decreases-loop-second : goal.decreases-loop-second
decreases-loop-second l = sum_by (λ mark. cond mark 0 1) l.done.items
