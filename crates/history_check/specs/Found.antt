-- What is found of an event, before its breach is told.
use Rattle.std.specs.Prelude.{◌+◌, ℕ, Option, Some, None, List, length}
use Rattle.cell_base.specs.declared.cell.Cell.{Cell}
use Rattle.cell_base.specs.declared.value.Value.{Value}
use Rattle.history_core.specs.declared.event.Event.{Event}
use Rattle.history_check.specs.declared.breach.Breach.{Breach}
use Rattle.history_check.specs.declared.breach.Breach.TheVariants.{Shape, Number, Keys, Own, Source, Value as WrongValue, Count}
use Rattle.history_check.specs.declared.broken_rule.BrokenRule.{BrokenRule}
use Rattle.history_check.specs.declared.broken_rule.BrokenRule.TheVariants as broken
use Rattle.history_check.specs.Breaches.{IsVerdict}

-- the breach that is told of the event of the number, which breaks the rule
abbrev pub breach_at : ℕ → BrokenRule → Breach
breach_at event broken.Shape = Shape event
breach_at event (broken.Number expected) = Number event expected
breach_at event broken.Keys = Keys event
breach_at event broken.Own = Own event
breach_at event broken.Source = Source event
breach_at event broken.Value = WrongValue event
breach_at event (broken.Count candidates) = Count event candidates

-- it is told of the rule that was found, if one was
abbrev pub told_at : ℕ → Option BrokenRule → Option Breach
told_at event None = None
told_at event (Some rule) = Some (breach_at event rule)

-- what is found of an event: nothing where it keeps to all rules, and else the first one that it breaks
abbrev pub IsFound : List (Cell × Value) → List Event → Event → Option BrokenRule → Type 0
IsFound initial before event found = IsVerdict initial before event (told_at (length before + 1) found)
