-- The picture of a run: one list of keys for each table and one value for each cell, of which all its answers are.
use Rattle.std.specs.Prelude.{◌≡◌, ℕ, ⊤, List, ◌++◌, map}
use Rattle.std.specs.List.{AllByRecursion}
use Rattle.cell_base.specs.declared.cell.Cell.{Cell}
use Rattle.cell_base.specs.declared.key.Key.{Key}
use Rattle.cell_base.specs.declared.value.Value.{Value}
use Rattle.statement_course.specs.Course.{Course}
use Rattle.statement_laws.specs.Demands.{demands_of}
use Rattle.statement_laws.specs.Runs.{Step, lists, finds, puts, demand_of}

pub record Picture : Type 0 where
  pub listed : ℕ → List Key
  pub value : Cell → Value

-- the answer is the picture's
abbrev pub IsShown : Picture → Step → Type 0
IsShown p (lists table keys) = p.listed table ≡ keys
IsShown p (finds cell value) = p.value cell ≡ value
IsShown p (puts cell value) = ⊤

-- Each answer is the picture's, and the demands of the steps are those of the course over the picture, but for what was left.
pub record IsOver (p : Picture) (course : Course) (steps : List Step) (left : Course) : Type 0 where
  pub shown : AllByRecursion (IsShown p) steps
  pub demands : demands_of p.listed p.value course ≡ map demand_of steps ++ demands_of p.listed p.value left
