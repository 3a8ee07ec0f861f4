use Rattle.std.proofs.Common.{ℕ, ◌<◌, length}
use Rattle.order_witness.specs.Marks.{IsFree}
use Rattle.cycle_report.specs.Turns.{ArePassed}
use Rattle.cycle_report.proofs.sorting.next_free.Given as goal

abbrev pub invariant-loop-n : goal.invariant-loop-n
invariant-loop-n l = record {
  passed : ArePassed l.edges l.marks (length l.marks) l.turns;
  none : (m : ℕ) → m < l.n → IsFree l.edges l.marks m → ⊥;
}
