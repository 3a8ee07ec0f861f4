use Rattle.saturation.proofs.Marks.{closing_none, closing_mark, past_from_closing}
use Rattle.saturation.proofs.past.close.Goals as goal

pub loop-first-init : goal.loop-first-init
loop-first-init c = closing_none c.args.history.now.events c.args.marks.now.items

pub loop-first-preserved : goal.loop-first-preserved
loop-first-preserved c =
    let unmarked = rw c.deref.ensures.value at c.in-Some.ensures.unmarked in
    let precedes = rw c.deref.ensures.value at c.in-Some.ensures.precedes in
    closing_mark c.args.history.now.events c.args.marks.now.items c.loop-first.marks.items c.in-Some.first unmarked precedes c.loop-first.invariant

pub returns : goal.returns
returns c =
    let none = rw (c.in_default.is, c.deref.ensures.value) at c.next_mark.ensures.none in
    past_from_closing c.args.history.now.events c.args.marks.now.items c.loop-first.marks.items none c.loop-first.invariant
