use Rattle.history_check.proofs.KeyLemmas.{IsAscendingBelow}
use Rattle.history_check.proofs.keys.ascend.Given as goal

abbrev pub invariant-loop-at : goal.invariant-loop-at
invariant-loop-at l = IsAscendingBelow l.keys l.at
