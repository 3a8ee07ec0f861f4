-- What a judge of a history answers.
use Rattle.std.specs.Prelude.{◌≡◌, ◌<◌, ◌≤◌, ◌+◌, ℕ, Option, Some, None, List, map, slice_get}
use Rattle.graph_base.specs.declared.Edge.{Edge}
use Rattle.graph_base.specs.Walk.{IsCycle}
use Rattle.graph_base.specs.Order.{HoldsEachOnce, place_of}
use Rattle.graph_base.specs.LeastOrder.{PlacesLeast}
use Rattle.cell_base.specs.declared.level.Level.{Level}
use Rattle.cell_base.specs.declared.level.Level.TheVariants.{Rc, Ra, Cc}
use Rattle.cell_base.specs.declared.cell.Cell.{Cell}
use Rattle.history_core.specs.declared.event.Event.{Event}
use Rattle.history_core.specs.Events.{begun}
use Rattle.history_core.specs.Relations.{Precedes}
use Rattle.cycle_report.specs.declared.judgement.Step.{Step}
use Rattle.cycle_report.specs.declared.judgement.Judgement.{Judgement}
use Rattle.cycle_report.specs.declared.judgement.Judgement.TheVariants.{Top, Upto, Nothing}
use Rattle.cycle_report.specs.Reasons.{IsDemandedAt, IsAsked, IsReasonOf}

-- the commit order holds each transaction once, the initial one first, and keeps what comes before what, and what the reads demand where all
-- transactions run at the level
pub record MeetsAt (level : Level) (events : List Event) (order : List ℕ) : Type 0 where
  pub holds : HoldsEachOnce (begun events + 1) order
  pub first : slice_get order 0 ≡ Some 0
  pub precedes : (a b : ℕ) → Precedes events a b → place_of order a < place_of order b
  pub demands : (place : ℕ) (cell : Cell) (a b : ℕ) → IsDemandedAt level events place cell a b → place_of order a < place_of order b

-- it is the one of least numbers: at each place stands the least transaction before which all stand that must
pub record IsOrderAt (level : Level) (events : List Event) (order : List ℕ) : Type 0 where
  pub meets : MeetsAt level events order
  pub least : PlacesLeast (begun events + 1) (IsAsked level events) order

-- the pairs of the steps
abbrev pub edges_of : List Step → List Edge
edges_of steps = map (λ step. step.edge) steps

-- each step begins where the one before ends, and the first one where the last ends; each has its reason; no transaction stands twice, and the
-- least is the first
pub record IsCycleAt (level : Level) (events : List Event) (steps : List Step) : Type 0 where
  pub closes : IsCycle (edges_of steps) (edges_of steps)
  pub reasons : (k : ℕ) (step : Step) → slice_get steps k ≡ Some step → IsReasonOf level events step.edge.before step.edge.after step.reason
  pub once : (i j : ℕ) (a b : Step) → slice_get steps i ≡ Some a → slice_get steps j ≡ Some b → a.edge.before ≡ b.edge.before → i ≡ j
  pub least : (k : ℕ) (head step : Step) → slice_get steps 0 ≡ Some head → slice_get steps k ≡ Some step → head.edge.before ≤ step.edge.before

-- the next stronger level
abbrev pub next_level : Level → Option Level
next_level Rc = Some Ra
next_level Ra = Some Cc
next_level Cc = None

-- the strongest level that the history meets with its order, and a cycle at the next one
abbrev pub IsJudged : List Event → Judgement → Type 0
IsJudged events (Top order) = IsOrderAt Cc events order.items
IsJudged events (Upto level order cycle) =
    IsOrderAt level events order.items × ((next : Level) × (next_level level ≡ Some next) × IsCycleAt next events cycle.items)
IsJudged events (Nothing cycle) = IsCycleAt Rc events cycle.items
