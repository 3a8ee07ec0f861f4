-- One entry more.
use Rattle.std.proofs.Common.{arith}
use Rattle.select_typing.proofs.ReadColumns.{marked_entry}
use Rattle.select_typing.proofs.reads.mark_expr.Goals as goal

pub loop-at-preserved : goal.loop-at-preserved
loop-at-preserved c =
    marked_entry c.args.marks.now c.loop-at.marks c.mark_entry.new.marks c.args.number c.args.entries.now c.loop-at.at c.index-entries-at.result
    c.args.expr.now
    (omega arith) c.index-entries-at.is c.loop-at.invariant c.mark_entry.ensures
