use Rattle.std.proofs.Common.{ℕ, ◌<◌}
use Rattle.history_core.specs.Judged.{IsAboveLast}
use Rattle.history_core.proofs.whole.ascend.Given as goal

abbrev pub invariant-loop-at : goal.invariant-loop-at
invariant-loop-at l = (k : ℕ) → k < l.at → IsAboveLast l.cells k
