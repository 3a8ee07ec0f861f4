use Rattle.cycle_report.proofs.PairSteps.{events_none, events_more, events_whole}
use Rattle.cycle_report.proofs.pairs.add_events.Goals as goal

pub loop-place-init : goal.loop-place-init
loop-place-init c = events_none c.args.level c.args.view.now.events.now c.args.edges.now.items

pub loop-place-preserved : goal.loop-place-preserved
loop-place-preserved c =
    events_more c.args.level c.args.view.now.events.now c.loop-place.place c.args.edges.now.items c.loop-place.edges.items c.add_event.new.edges.items
    c.loop-place.invariant c.in_ok-add_event.ensures

pub returns : goal.returns
returns c =
    events_whole c.args.level c.args.view.now.events.now c.loop-place.place c.args.edges.now.items c.loop-place.edges.items c.loop-place-test.false c.loop-place.invariant
