use Rattle.right_logs.proofs.Texts.{some_order, placed_events}
use Rattle.right_logs.proofs.text.glimpse_of_events.Goals as goal

pub glimpse_at-requires : goal.glimpse_at-requires
glimpse_at-requires c = some_order c.args.order.now c.in-Some.places (rw c.in-Some.is at c.in_ok-places.ensures)

pub returns-in-Some : goal.returns-in-Some
returns-in-Some c =
    placed_events c.args.version c.args.level c.args.text.now c.args.order.now c.in-Some.places c.glimpse_at.result (rw c.in-Some.is at c.in_ok-places.ensures) c.glimpse_at.ensures
