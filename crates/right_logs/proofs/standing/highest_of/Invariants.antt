use Rattle.right_logs.proofs.JudgeLemmas.{RisesUpTo}
use Rattle.right_logs.proofs.standing.highest_of.Given as goal

abbrev pub invariant-loop-at : goal.invariant-loop-at
invariant-loop-at l = RisesUpTo l.places l.highest.items l.at l.top
