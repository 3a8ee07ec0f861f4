-- The columns and values that are left decide.
use Rattle.std.proofs.Common.{◌≡◌, drop, length}
use Rattle.row_meaning.specs.Storing as spec
use Rattle.row_writes.proofs.storing.has_no_missing.Given as goal

abbrev pub invariant-loop-column : goal.invariant-loop-column
invariant-loop-column l =
    (spec.has_no_missing (drop (length l.yielded) l.fn.columns) (drop (length l.yielded) l.fn.values) ≡ spec.has_no_missing l.fn.columns l.fn.values)
    × (goal.iterator-loop-column).can_next l.column-iterator × (goal.iterator-loop-column).is_finite l.column-iterator
