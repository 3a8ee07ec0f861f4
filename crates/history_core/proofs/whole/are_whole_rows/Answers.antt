use Rattle.history_core.proofs.WholeRows.{whole_from, whole_each}
use Rattle.history_core.proofs.whole.are_whole_rows.Goals as goal

pub returns-then-ascend : goal.returns-then-ascend
returns-then-ascend c =
    let ascending = c.ascend.ensures.0 c.if-ascend.true in (
      λ yes. whole_from c.args.tables.now c.args.cells.now ascending (c.are_right.ensures.0 yes),
      λ is. c.are_right.ensures.1 (whole_each c.args.tables.now c.args.cells.now is.0 is.1),
    )
