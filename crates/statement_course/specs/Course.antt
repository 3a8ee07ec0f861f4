-- The course of a statement: which cells it asks for one after another, depending on the answers, and what it comes to.
use Rattle.std.specs.Prelude.{◌<◌, ◌^◌, ℕ, ⊤, List, length}
use Rattle.cell_base.specs.declared.cell.Cell.{Cell}
use Rattle.cell_base.specs.declared.key.Key.{Key}
use Rattle.cell_base.specs.declared.value.Value.{Value}
use Rattle.statement_course.specs.declared.demand.Demand.{Demand}
use Rattle.statement_course.specs.declared.demand.Demand.TheVariants as demands
use Rattle.statement_course.specs.declared.demand.Outcome.{Outcome}
use Rattle.statement_course.specs.declared.demand.PlanAnswer.{PlanAnswer}
use Rattle.statement_course.specs.declared.demand.PlanAnswer.TheVariants as answers

pub data Course : Type 0 where
  -- the keys of a table are asked for, and with them it goes on
  scan : ℕ → (List Key → Course) → Course
  -- the value of a cell
  touch : Cell → (Value → Course) → Course
  -- a cell is written
  write : Cell → Value → Course → Course
  -- the statement is done
  done : Outcome → Course

-- what a course demands first
abbrev pub first_demand : Course → Demand
first_demand (scan table rest) = demands.Scan table
first_demand (touch cell rest) = demands.Touch cell
first_demand (write cell value rest) = demands.Write cell value
first_demand (done outcome) = demands.Reply outcome

-- an answer that fits what a course demands first
abbrev pub FitsDemand : Course → PlanAnswer → Type 0
FitsDemand (scan table rest) (answers.Keys keys) = length keys < 2 ^ 32
FitsDemand (touch cell rest) (answers.Value value) = ⊤
FitsDemand (write cell value rest) answers.Written = ⊤
FitsDemand _ _ = ⊥

-- how a course goes on after an answer; one that doesn't fit changes nothing
abbrev pub following : Course → PlanAnswer → Course
following (scan table rest) (answers.Keys keys) = rest keys
following (touch cell rest) (answers.Value value) = rest value
following (write cell value rest) answers.Written = rest
following course _ = course
