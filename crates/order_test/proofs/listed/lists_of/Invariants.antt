use Rattle.std.proofs.Common.{◌≡◌, length}
use Rattle.order_test.specs.Listed.{ListsCommitted}
use Rattle.order_test.specs.Firsts.{AreIndexes}
use Rattle.order_test.proofs.listed.lists_of.Given as goal

abbrev pub invariant-loop-at : goal.invariant-loop-at
invariant-loop-at l = ListsCommitted l.txns l.at l.writers.items × (length l.writers.items ≡ l.width) × AreIndexes l.writers.items l.at l.firsts.items
