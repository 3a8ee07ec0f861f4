-- The writes so far, and those of the changes that are left.
use Rattle.std.proofs.Common.{◌≡◌, ◌++◌}
use Rattle.std.specs.Vec.Iter.{into_iter_items}
use Rattle.statement_course.specs.Writing as spec
use Rattle.row_writes.specs.Seen.{changes_seen}
use Rattle.row_writes.proofs.cells.delete_writes.Given as goal

abbrev pub invariant-loop-change : goal.invariant-loop-change
invariant-loop-change l =
    l.writes ++ spec.deletes l.number (changes_seen (into_iter_items l.change-iterator)) ≡ spec.deletes l.number (changes_seen l.fn.changes)
