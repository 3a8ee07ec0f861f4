use Rattle.axiom_cc.proofs.Marking.{following_more, past_from_following}
use Rattle.axiom_cc.proofs.past.mark_past.Goals as goal

pub loop-second-preserved : goal.loop-second-preserved
loop-second-preserved c =
    let marked = rw c.deref.ensures.value at c.in-Some.ensures.marked in
    let fresh = rw c.deref-in-loop-second.ensures.value at c.in-Some.ensures.open in
    following_more c.args.history.now.events c.args.marks.now.items c.loop-second.marks.items c.loop-second.done.items c.mark_predecessors.new.marks.items
    c.in-Some.second marked fresh c.mark_predecessors.ensures c.loop-second.invariant

pub returns : goal.returns
returns c =
    let none = rw (c.deref.ensures.value, c.deref-in-loop-second.ensures.value, c.in_default.is) at c.next_open.ensures.none in
    past_from_following c.args.history.now.events c.args.marks.now.items c.loop-second.marks.items c.loop-second.done.items none c.loop-second.invariant
