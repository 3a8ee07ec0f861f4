-- Between two transactions.
use Rattle.std.specs.Prelude.{List}
use Rattle.history_core.specs.declared.event.Event.{Event}
use Rattle.history_core.specs.Transactions.{HasPending}
use Rattle.history_core.specs.Legal.{IsOpen}

-- session 1 is open, and nothing is pending in it
pub record IsBetween (events : List Event) : Type 0 where
  pub open_is : IsOpen events 1
  pub idle : ¬ HasPending events 1
