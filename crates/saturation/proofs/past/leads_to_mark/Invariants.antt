use Rattle.std.proofs.Common.{ℕ, ◌<◌}
use Rattle.order_witness.specs.Marks.{IsMarked}
use Rattle.history_core.specs.Relations.{Precedes}
use Rattle.saturation.proofs.past.leads_to_mark.Given as goal

abbrev pub invariant-loop-second : goal.invariant-loop-second
invariant-loop-second l = (k : ℕ) → k < l.second → IsMarked l.marks k → Precedes l.history.events l.first k → ⊥
