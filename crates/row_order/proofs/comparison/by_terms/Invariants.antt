use Rattle.std.proofs.Common.{◌≡◌, drop}
use Rattle.row_meaning.specs.Ordering.{order_by}
use Rattle.row_order.proofs.comparison.by_terms.Given as goal

abbrev pub invariant-loop-place : goal.invariant-loop-place
invariant-loop-place l = order_by l.directions l.left l.right ≡ order_by (drop l.place l.directions) (drop l.place l.left) (drop l.place l.right)
