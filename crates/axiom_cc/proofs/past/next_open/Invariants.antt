use Rattle.std.proofs.Common.{ℕ, ◌<◌}
use Rattle.order_witness.specs.Marks.{IsMarked}
use Rattle.axiom_cc.proofs.past.next_open.Given as goal

abbrev pub invariant-loop-n : goal.invariant-loop-n
invariant-loop-n l = (k : ℕ) → k < l.n → IsMarked l.marks k → IsMarked l.done k
