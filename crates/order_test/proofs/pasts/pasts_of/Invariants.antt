use Rattle.std.proofs.Common.{take}
use Rattle.order_test.specs.Pasts.{AreRows}
use Rattle.order_test.proofs.pasts.pasts_of.Given as goal

abbrev pub invariant-loop-at : goal.invariant-loop-at
invariant-loop-at l = AreRows (take l.at l.events) l.width l.rows.items
