use Rattle.std.proofs.Common.{ℕ, ◌<◌}
use Rattle.order_witness.specs.Marks.{IsUnmarked}
use Rattle.saturation.specs.Views.{PrecedesMarked}
use Rattle.saturation.proofs.past.next_mark.Given as goal

abbrev pub invariant-loop-first : goal.invariant-loop-first
invariant-loop-first l = (k : ℕ) → k < l.first → IsUnmarked l.marks k → PrecedesMarked l.history.events l.marks k → ⊥
