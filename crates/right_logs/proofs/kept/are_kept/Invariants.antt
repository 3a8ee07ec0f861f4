use Rattle.right_logs.proofs.JudgeLemmas.{AreKeptBelow}
use Rattle.right_logs.proofs.kept.are_kept.Given as goal

abbrev pub invariant-loop-at : goal.invariant-loop-at
invariant-loop-at l = AreKeptBelow l.places.at.items l.pass l.reads l.reader l.at
