use Rattle.std.proofs.Common.{ℕ, ◌<◌}
use Rattle.history_core.specs.Judged.{IsRightAt}
use Rattle.history_core.proofs.whole.are_right.Given as goal

abbrev pub invariant-loop-at : goal.invariant-loop-at
invariant-loop-at l = (k : ℕ) → k < l.at → IsRightAt l.tables l.cells k
