use Rattle.std.proofs.Common.{◌+◌, length}
use Rattle.history_core.specs.Events.{begun}
use Rattle.order_test.specs.Unkept.{HoldsAll}
use Rattle.order_test.proofs.PlaceLemmas.{holds_own}
use Rattle.order_test.proofs.search.first_unkept_by.Goals as goal

pub returns-in-None : goal.returns-in-None
returns-in-None g c =
    let none : HoldsAll (length c.args.order.now) c.args.order.now → ⊥ = rw c.in-None.is at c.in_ok-places.ensures in
    λ holds. none (holds_own (begun c.args.events.now + 1) c.args.order.now holds)
