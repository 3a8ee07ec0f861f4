-- The fields so far, and those of the values that are left.
use Rattle.std.proofs.Common.{◌≡◌, ◌+◌, ◌++◌, length}
use Rattle.std.specs.Vec.Iter.{into_iter_items}
use Rattle.row_meaning.specs.Changes as changes
use Rattle.row_writes.proofs.assigned.fields_of.Given as goal

abbrev pub invariant-loop-value : goal.invariant-loop-value
invariant-loop-value l =
    (l.fields ++ changes.fields_from l.place l.set (into_iter_items l.value-iterator) ≡ changes.fields_from 0 l.set l.fn.row)
    × (l.place + length (into_iter_items l.value-iterator) ≡ length l.fn.row)
