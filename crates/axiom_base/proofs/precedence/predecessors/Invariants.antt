use Rattle.saturation.proofs.Marks.{ArePredecessorsBelow}
use Rattle.axiom_base.proofs.precedence.predecessors.Given as goal

abbrev pub invariant-loop-first : goal.invariant-loop-first
invariant-loop-first l = ArePredecessorsBelow l.history.events l.reader l.first l.marks.items
