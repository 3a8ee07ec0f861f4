use Rattle.cycle_report.proofs.PairSteps.{event_none}
use Rattle.cycle_report.proofs.pairs.add_event.Goals as goal

pub returns-in-None : goal.returns-in-None
returns-in-None c =
    event_none c.args.level c.args.view.now.events.now c.args.place c.event_at-event.result.now c.args.edges.now.items c.event_at-event.ensures c.in-None.ensures.none
