use Rattle.std.proofs.Common.{ℕ, rules}
use Rattle.history_core.specs.Judged.{HasField}
use Rattle.history_core.proofs.WholeRows.{each_next}
use Rattle.history_core.proofs.whole.has_fields.Goals as goal

pub loop-column-preserved : goal.loop-column-preserved
loop-column-preserved c =
    each_next (λ k. HasField c.args.cells.now c.args.table c.args.key.now c.args.of_table.now.key k) c.loop-column.column c.loop-column.invariant
    (c.has_field.ensures.0 (search rules))
