-- The columns that a DELETE reads, by one walk.
use Rattle.std.specs.Option.{option_map}
use Rattle.typing_rules.specs.Mentions.{in_filter}
use Rattle.change_typing.proofs.Reading.{columns_answered}
use Rattle.change_typing.proofs.reads.delete_reads.Goals as goal

pub returns : goal.returns
returns c =
    columns_answered c.args.table.now c.len.result c.in_ok-marks.marks c.mark_filter.new.marks
    (λ k. in_filter 0 k (option_map (λ f. f.now) c.args.filter)) c.columns.result
    c.len.ensures c.in_ok-marks.ensures c.mark_filter.ensures c.columns.ensures
