-- What is found at one level.
use Rattle.std.specs.Prelude.{◌≡◌, ℕ, Some, List, slice_get}
use Rattle.graph_base.specs.declared.Edge.{Edge}
use Rattle.cell_base.specs.declared.level.Level.{Level}
use Rattle.history_core.specs.declared.event.Event.{Event}
use Rattle.cycle_report.specs.declared.judgement.Step.{Step}
use Rattle.cycle_report.specs.declared.levels.Found.{Found}
use Rattle.cycle_report.specs.declared.levels.Found.TheVariants.{Order, Cycle}
use Rattle.cycle_report.specs.Reasons.{IsReasonOf}
use Rattle.cycle_report.specs.Judged.{IsOrderAt, IsCycleAt, edges_of}

-- the steps are those of the edges, each with its reason
pub record AreStepsOf (level : Level) (events : List Event) (edges : List Edge) (steps : List Step) : Type 0 where
  pub edges_are : edges_of steps ≡ edges
  pub reasons : (k : ℕ) (step : Step) → slice_get steps k ≡ Some step → IsReasonOf level events step.edge.before step.edge.after step.reason

abbrev pub IsFoundAt : Level → List Event → Found → Type 0
IsFoundAt level events (Order order) = IsOrderAt level events order.items
IsFoundAt level events (Cycle steps) = IsCycleAt level events steps.items
