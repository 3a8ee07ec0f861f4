use Rattle.std.proofs.Common.{take}
use Rattle.order_test.specs.Glance.{IsGlance}
use Rattle.order_test.proofs.glance.glance_of.Given as goal

abbrev pub invariant-loop-at : goal.invariant-loop-at
invariant-loop-at l = IsGlance (take l.at l.events) l.order l.glance
