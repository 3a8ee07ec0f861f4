use Rattle.saturation.proofs.Marks.{predecessors_push}
use Rattle.saturation.proofs.past.predecessors.Goals as goal

pub loop-first-preserved : goal.loop-first-preserved
loop-first-preserved c =
    rw c.in_ok-push.ensures.items
    (predecessors_push c.args.history.now.events c.args.reader c.loop-first.first c.loop-first.marks.items c.precedes.result c.precedes.ensures c.loop-first.invariant)
