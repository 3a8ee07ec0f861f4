use Rattle.axiom_cc.proofs.Marking.{MarksBelow}
use Rattle.axiom_cc.proofs.past.mark_predecessors.Given as goal

abbrev pub invariant-loop-first : goal.invariant-loop-first
invariant-loop-first l = MarksBelow l.history.events l.second l.first l.initial.marks.items l.marks.items
