-- One value more is put into the row.
use Rattle.std.proofs.Common.{List, ap, sym, ◌∙◌}
use Rattle.std.specs.Prelude.{slice_set}
use Rattle.cell_base.specs.declared.value.Value.{Value}
use Rattle.table_reading.proofs.Putting.{one_more}
use Rattle.table_reading.proofs.row.put_all.Goals as goal

pub loop-column-preserved : goal.loop-column-preserved
loop-column-preserved c =
    c.put.ensures ∙ ap (λ (row : List Value). slice_set row c.in-Some.column c.in-Some.value) c.loop-column.invariant
    ∙ sym (one_more c.args.row.now c.loop-column.yielded c.in-Some.column c.in-Some.value)
