use Rattle.std.proofs.Common.{◌≤◌, length}
use Rattle.right_logs.proofs.JudgeLemmas.{AreClearFrom}
use Rattle.right_logs.proofs.kept.has_no_unseen_rival.Given as goal

abbrev pub invariant-loop-at : goal.invariant-loop-at
invariant-loop-at l = record {
  within : l.at ≤ length l.writers;
  clear : AreClearFrom l.places.at.items l.pass l.own l.writers l.from l.at;
}

abbrev pub decreases-loop-at : goal.decreases-loop-at
decreases-loop-at l = l.at
