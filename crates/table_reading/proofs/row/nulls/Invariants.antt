-- So many nulls so far.
use Rattle.std.proofs.Common.{◌≡◌, replicate}
use Rattle.cell_base.specs.declared.value.Value.{Value}
use Rattle.cell_base.specs.declared.value.Value.TheVariants as value
use Rattle.table_reading.proofs.row.nulls.Given as goal

abbrev pub invariant-loop-i : goal.invariant-loop-i
invariant-loop-i l = l.row.items ≡ replicate {A = Value} l._i value.Null
