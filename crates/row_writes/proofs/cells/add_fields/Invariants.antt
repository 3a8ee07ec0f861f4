-- The writes so far, and those of the fields that are left.
use Rattle.std.proofs.Common.{◌≡◌, ◌++◌}
use Rattle.std.specs.Vec.Iter.{into_iter_items}
use Rattle.statement_course.specs.Writing as spec
use Rattle.row_writes.proofs.cells.add_fields.Given as goal

abbrev pub invariant-loop-column : goal.invariant-loop-column
invariant-loop-column l =
    l.writes ++ spec.updates_of l.number (record { key = l.key; fields = into_iter_items l.column-iterator }) ≡ l.fn.writes ++ spec.updates_of l.number (record { key = l.key; fields = l.fn.fields })
