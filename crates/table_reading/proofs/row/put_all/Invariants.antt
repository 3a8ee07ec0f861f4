-- The values so far are put into the row.
use Rattle.std.proofs.Common.{◌≡◌}
use Rattle.row_meaning.specs.Pictures as pictures
use Rattle.table_reading.proofs.row.put_all.Given as goal

abbrev pub invariant-loop-column : goal.invariant-loop-column
invariant-loop-column l = l.row ≡ pictures.with_values l.initial.row l.yielded
