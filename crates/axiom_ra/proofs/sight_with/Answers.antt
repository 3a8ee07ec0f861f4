use Rattle.history_core.proofs.Prefixes.{sound_of}
use Rattle.axiom_ra.proofs.Sights.{sight_then}
use Rattle.axiom_ra.proofs.sight_with.Goals as goal

pub returns : goal.returns
returns c = λ cell.
    let size = rw c.deref.ensures.value at c.in_ok-sight.ensures.size in
    let exact = rw c.deref.ensures.value at c.in_ok-sight.ensures.exact in
    sight_then c.args.history.now.events c.args.reader cell c.args.source c.in_ok-marks.marks.items c.in_ok-sight.sight.since.items
    (sound_of c.args.history.now.initial c.args.history.now.events c.events-events.ensures.formed.formed) c.requires.source c.in_ok-marks.ensures size exact
