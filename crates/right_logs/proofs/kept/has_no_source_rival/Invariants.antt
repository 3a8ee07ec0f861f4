use Rattle.right_logs.proofs.JudgeLemmas.{AreNoRivalsBelow}
use Rattle.right_logs.proofs.kept.has_no_source_rival.Given as goal

abbrev pub invariant-loop-at : goal.invariant-loop-at
invariant-loop-at l = AreNoRivalsBelow l.places.at.items l.writers l.reads l.from l.at
