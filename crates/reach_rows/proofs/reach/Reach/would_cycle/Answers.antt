use Rattle.std.proofs.Common.{◌↔◌}
use Rattle.graph_base.specs.Walk.{HasCycle}
use Rattle.graph_base.specs.Trial.{ClosesAt}
use Rattle.graph_base.proofs.Hubs.{trial_cycle}
use Rattle.std.specs.Prelude.{◌++◌}
use Rattle.reach_rows.proofs.reach.Reach.would_cycle.Goals as goal

pub returns-in-Some : goal.returns-in-Some
returns-in-Some c =
    let closes : HasCycle (c.args.self.now.pairs ++ c.args.trial.now)
    ↔ ClosesAt c.args.self.now.pairs c.args.trial.now c.hub_of.result =
    trial_cycle c.args.self.now.pairs c.args.trial.now c.hub_of.result c.hub_of.ensures.touch c.size-size.ensures.acyclic in
    (λ is. closes.1 (c.closes_at.ensures.0 is), λ cycle. c.closes_at.ensures.1 (closes.0 cycle))
