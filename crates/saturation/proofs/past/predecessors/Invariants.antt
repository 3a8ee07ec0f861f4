use Rattle.saturation.proofs.Marks.{ArePredecessorsBelow}
use Rattle.saturation.proofs.past.predecessors.Given as goal

abbrev pub invariant-loop-first : goal.invariant-loop-first
invariant-loop-first l = ArePredecessorsBelow l.history.events l.reader l.first l.marks.items
