-- The columns that an UPDATE reads, by three walks after one another.
use Rattle.std.specs.Option.{option_map}
use Rattle.typing_rules.specs.Changes.{update_reads}
use Rattle.change_typing.proofs.Reading.{columns_answered, update_marked}
use Rattle.change_typing.proofs.reads.update_reads.Goals as goal

pub returns : goal.returns
returns c =
    columns_answered c.args.table.now c.len.result c.in_ok-marks.marks c.mark_checks.new.marks
    (update_reads c.args.table.now c.args.set.now (option_map (λ f. f.now) c.args.filter))
    c.columns.result c.len.ensures c.in_ok-marks.ensures
    (update_marked c.args.table.now c.args.set.now (option_map (λ f. f.now) c.args.filter) c.in_ok-marks.marks c.mark_values.new.marks c.mark_filter.new.marks c.mark_checks.new.marks
    c.mark_values.ensures c.mark_filter.ensures c.in_ok-mark_checks.ensures)
    c.columns.ensures
