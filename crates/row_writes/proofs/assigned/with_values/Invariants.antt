-- The values that are left, put into the row.
use Rattle.std.proofs.Common.{◌≡◌}
use Rattle.std.specs.Vec.Iter.{into_iter_items}
use Rattle.row_meaning.specs.Pictures as pictures
use Rattle.row_writes.proofs.assigned.with_values.Given as goal

abbrev pub invariant-loop-column : goal.invariant-loop-column
invariant-loop-column l = pictures.with_values l.row.items (into_iter_items l.column-iterator) ≡ pictures.with_values l.fn.row l.fn.values
