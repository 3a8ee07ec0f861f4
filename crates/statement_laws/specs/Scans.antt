-- The keys of no table are asked for twice.
use Rattle.std.specs.Prelude.{ℕ, ⊤, List, ◌∷◌, Contains}
use Rattle.cell_base.specs.declared.key.Key.{Key}
use Rattle.cell_base.specs.declared.value.Value.{Value}
use Rattle.statement_course.specs.Course.{Course, scan, touch, write, done}

-- no table is scanned that was scanned before
abbrev pub ScansOnce : List ℕ → Course → Type 0
ScansOnce before (scan table rest) = (Contains before table → ⊥) × ((keys : List Key) → ScansOnce (table ∷ before) (rest keys))
ScansOnce before (touch cell rest) = (value : Value) → ScansOnce before (rest value)
ScansOnce before (write cell value rest) = ScansOnce before rest
ScansOnce before (done outcome) = ⊤
