use Rattle.right_logs.proofs.JudgeLemmas.{AreKeptSessions}
use Rattle.right_logs.proofs.kept.all_are_kept.Given as goal

abbrev pub invariant-loop-at : goal.invariant-loop-at
invariant-loop-at l = AreKeptSessions l.places.at.items l.pass l.at
