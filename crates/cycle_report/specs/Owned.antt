-- The transactions of the events.
use Rattle.std.specs.Prelude.{◌≡◌, List}
use Rattle.history_core.specs.declared.event.Event.{Event}
use Rattle.history_core.specs.Events.{begun}
use Rattle.order_test.specs.Glance.{HoldsLast, AreOwners}
use Rattle.cycle_report.specs.declared.owners.Owners.{Owners}

-- at each session and beside each event stands the last transaction that the session has begun
pub record AreOwnedBy (events : List Event) (owners : Owners) : Type 0 where
  pub last : HoldsLast events owners.last.items
  pub of_events : AreOwners events owners.of_events.items
  pub count : owners.begun ≡ begun events
