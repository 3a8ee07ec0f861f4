use Rattle.reach_rows.proofs.Several.{IsTrying}
use Rattle.reach_rows.proofs.stars.close_over.Given as goal

abbrev pub invariant-loop-k : goal.invariant-loop-k
invariant-loop-k l = IsTrying l.stars l.initial.befores l.befores l.k
