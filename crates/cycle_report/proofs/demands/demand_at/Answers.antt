use Rattle.cycle_report.proofs.DemandLemmas.{no_demand_at}
use Rattle.cycle_report.proofs.demands.demand_at.Goals as goal

pub returns-in-None-clause-none : goal.returns-in-None-clause-none
returns-in-None-clause-none c =
    no_demand_at c.args.level c.args.view.now.events.now c.args.place c.event_at-event.result.now c.args.first c.args.second c.event_at-event.ensures c.in-None.ensures.none
