use Rattle.history_core.proofs.Prefixes.{sound_of}
use Rattle.axiom_cc.proofs.Sights.{sight_now}
use Rattle.axiom_cc.proofs.sight.Goals as goal

pub returns : goal.returns
returns c =
    let size = rw c.deref.ensures.value at c.in_ok-sight.ensures.size in
    let exact = rw c.deref.ensures.value at c.in_ok-sight.ensures.exact in
    sight_now c.args.history.now.events c.args.reader c.in_ok-marks.marks.items c.mark_past.new.marks.items c.in_ok-sight.sight.since.items
    (sound_of c.args.history.now.initial c.args.history.now.events c.events-events.ensures.formed.formed) c.in_ok-marks.ensures c.in_ok-mark_past.ensures size exact
