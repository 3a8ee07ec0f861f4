-- The writes so far, and those of the rows that are left.
use Rattle.std.proofs.Common.{◌≡◌, ◌++◌, length}
use Rattle.std.specs.Vec.Iter.{into_iter_items}
use Rattle.statement_course.specs.Writing as spec
use Rattle.row_writes.specs.Widths.{AreWithin}
use Rattle.row_writes.proofs.cells.insert_writes.Given as goal

abbrev pub invariant-loop-key : goal.invariant-loop-key
invariant-loop-key l =
    (l.writes ++ spec.inserts l.number l.table.key (into_iter_items l.key-iterator) ≡ spec.inserts l.number l.table.key l.fn.rows)
    × AreWithin (length l.table.columns) (into_iter_items l.key-iterator)
