-- What is right of a trace, and what is told of it first where it isn't.
use Rattle.std.specs.Prelude.{◌≡◌, ◌⊎◌, ℕ, List}
use Rattle.history_core.specs.declared.event.Event.{Event}
use Rattle.history_core.specs.Relations.{Meets}
use Rattle.history_log.specs.declared.trace.Trace.{Trace}
use Rattle.order_test.specs.declared.unkept.Unkept.{Unkept}
use Rattle.order_test.specs.declared.unkept.Unkept.TheVariants as unkept
use Rattle.order_test.specs.Unkept.{IsFirstUnkept}
use Rattle.history_check.specs.declared.breach.Breach.{Breach}
use Rattle.history_check.specs.declared.breach.Breach.TheVariants.{Order, Session, Read, Axiom}
use Rattle.history_check.specs.Breaches.{AreRight, IsFirstEventBreach}

-- each event keeps to all rules, and the order meets the history
pub record IsRightTrace (trace : Trace) : Type 0 where
  pub events : AreRight trace.initial trace.events
  pub order : Meets trace.events trace.order

-- the breach that is told of what the order doesn't keep
abbrev pub breach_of : Unkept → Breach
breach_of unkept.Order = Order
breach_of (unkept.Session earlier later) = Session earlier later
breach_of (unkept.Read event origin reader) = Read event origin reader
breach_of (unkept.Axiom event origin rival reader cell) = Axiom event origin rival reader cell

-- it is told of the first that the order doesn't keep
pub record IsFirstOrderBreach (events : List Event) (order : List ℕ) (breach : Breach) : Type 0 where
  pub found : Unkept
  pub first : IsFirstUnkept events order found
  pub told : breach ≡ breach_of found

-- the first breach of the events, or where they are right the first of the order
abbrev pub IsFirstBreach : Trace → Breach → Type 0
IsFirstBreach trace breach =
    IsFirstEventBreach trace.initial trace.events breach ⊎ (AreRight trace.initial trace.events × IsFirstOrderBreach trace.events trace.order breach)
