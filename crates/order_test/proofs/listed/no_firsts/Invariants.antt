use Rattle.std.proofs.Common.{◌≡◌, length}
use Rattle.order_test.specs.Firsts.{AreWithoutKeys}
use Rattle.order_test.proofs.listed.no_firsts.Given as goal

abbrev pub invariant-loop-at : goal.invariant-loop-at
invariant-loop-at l = AreWithoutKeys l.all.items × (length l.all.items ≡ l._at)
