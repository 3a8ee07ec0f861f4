use Rattle.std.proofs.Common.{sym, subst}
use Rattle.host_calls.specs.declared.status.Status.{Status}
use Rattle.sim_command.specs.Simulations.{Simulates}
use Rattle.sim_command.proofs.command.simulate.Goals as goal

pub returns-in-Ok-clause-simulates : goal.returns-in-Ok-clause-simulates
returns-in-Ok-clause-simulates g c =
    subst (λ (status : Status). Simulates c.args.plan.level c.args.plan.seed c.args.plan.sessions c.args.plan.queries c.args.log.now
    (g.H.Host.hosted c.args.host.now) status.code (g.H.Host.hosted c.tell-status.new.host)) (sym c.without.ensures) c.tell-status.ensures.simulates
