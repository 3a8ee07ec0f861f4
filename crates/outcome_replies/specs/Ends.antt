-- What holds of all that a course may come to.
use Rattle.std.specs.Prelude.{List}
use Rattle.cell_base.specs.declared.key.Key.{Key}
use Rattle.cell_base.specs.declared.value.Value.{Value}
use Rattle.statement_course.specs.declared.demand.Outcome.{Outcome}
use Rattle.statement_course.specs.Course.{Course, scan, touch, write, done}

-- whatever the answers are, what it comes to is one of these
abbrev pub EndsIn : (Outcome → Type 0) → Course → Type 0
EndsIn P (scan table rest) = (keys : List Key) → EndsIn P (rest keys)
EndsIn P (touch cell rest) = (value : Value) → EndsIn P (rest value)
EndsIn P (write cell value rest) = EndsIn P rest
EndsIn P (done outcome) = P outcome
