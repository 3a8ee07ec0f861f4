use Rattle.std.proofs.Common.{◌≡◌, length}
use Rattle.order_test.specs.Listed.{AreEmpty}
use Rattle.order_test.proofs.listed.no_writers.Given as goal

abbrev pub invariant-loop-at : goal.invariant-loop-at
invariant-loop-at l = AreEmpty l.lists.items × (length l.lists.items ≡ l._at)
