-- A run of a course: its demands one after another, each with its answer, and what was left of the course.
use Rattle.std.specs.Prelude.{◌≡◌, ℕ, ⊤, List, [], ◌∷◌}
use Rattle.cell_base.specs.declared.cell.Cell.{Cell}
use Rattle.cell_base.specs.declared.key.Key.{Key}
use Rattle.cell_base.specs.declared.value.Value.{Value}
use Rattle.statement_course.specs.declared.demand.Demand.{Demand}
use Rattle.statement_course.specs.declared.demand.Demand.TheVariants as demands
use Rattle.statement_course.specs.Course.{Course, scan, touch, write}
use Rattle.statement_course.specs.Laws.{AreDistinct}

-- a demand that was answered
pub data Step : Type 0 where
  -- the keys of a table were asked for, and these were listed
  lists : ℕ → List Key → Step
  -- the value of a cell was asked for, and this one was found
  finds : Cell → Value → Step
  -- the value was written to the cell
  puts : Cell → Value → Step

-- what was demanded
abbrev pub demand_of : Step → Demand
demand_of (lists table keys) = demands.Scan table
demand_of (finds cell value) = demands.Touch cell
demand_of (puts cell value) = demands.Write cell value

-- The course made these demands in order, went on with their answers, and this was left of it. It ran to its end where what was left is
-- done, and was cut short where it isn't.
abbrev pub Ran : Course → List Step → Course → Type 0
Ran course [] left = left ≡ course
Ran (scan table rest) (lists t keys ∷ steps) left = (t ≡ table) × Ran (rest keys) steps left
Ran (touch cell rest) (finds c value ∷ steps) left = (c ≡ cell) × Ran (rest value) steps left
Ran (write cell value rest) (puts c v ∷ steps) left = (c ≡ cell) × (v ≡ value) × Ran rest steps left
Ran _ _ left = ⊥

-- a scan lists each key once
abbrev pub ListsOnce : Step → Type 0
ListsOnce (lists table keys) = AreDistinct keys
ListsOnce (finds cell value) = ⊤
ListsOnce (puts cell value) = ⊤
