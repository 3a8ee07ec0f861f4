use Rattle.std.proofs.Common.{◌≤◌, length, sym, subst}
use Rattle.sql_tree.specs.declared.table.OutField.{OutField}
use Rattle.block_machine.proofs.Columns.{field_fits}
use Rattle.block_machine.proofs.replies.append_column.Goals as goal

pub append_row_description-requires-clause-fits : goal.append_row_description-requires-clause-fits
append_row_description-requires-clause-fits c = field_fits c.in_ok-field-in-Told.field (subst (λ (f : OutField). length f.name ≤ 64) (sym c.in_ok-field-in-Told.ensures) c.requires.fits)
