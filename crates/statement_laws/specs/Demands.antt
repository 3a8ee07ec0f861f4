-- All that a course demands, where each scan of a table lists its keys and each cell has its value.
use Rattle.std.specs.Prelude.{ℕ, List, [], ◌∷◌}
use Rattle.cell_base.specs.declared.cell.Cell.{Cell}
use Rattle.cell_base.specs.declared.key.Key.{Key}
use Rattle.cell_base.specs.declared.value.Value.{Value}
use Rattle.statement_course.specs.declared.demand.Demand.{Demand}
use Rattle.statement_course.specs.declared.demand.Demand.TheVariants.{Scan, Touch, Write, Reply}
use Rattle.statement_course.specs.Course.{Course, scan, touch, write, done}

-- one demand after another, and at the end what the statement comes to
abbrev pub demands_of : (ℕ → List Key) → (Cell → Value) → Course → List Demand
demands_of listed value (scan table rest) = Scan table ∷ demands_of listed value (rest (listed table))
demands_of listed value (touch cell rest) = Touch cell ∷ demands_of listed value (rest (value cell))
demands_of listed value (write cell written rest) = Write cell written ∷ demands_of listed value rest
demands_of listed value (done outcome) = Reply outcome ∷ []
