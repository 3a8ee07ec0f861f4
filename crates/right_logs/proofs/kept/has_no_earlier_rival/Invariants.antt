use Rattle.right_logs.proofs.JudgeLemmas.{AreHarmlessBelow}
use Rattle.right_logs.proofs.kept.has_no_earlier_rival.Given as goal

abbrev pub invariant-loop-at : goal.invariant-loop-at
invariant-loop-at l = AreHarmlessBelow l.places.at.items l.writers l.reads l.before l.from l.at
