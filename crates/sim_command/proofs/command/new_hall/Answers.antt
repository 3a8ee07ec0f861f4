use Rattle.std.proofs.Common.{◌∙◌}
use Rattle.sim_command.proofs.Plays.{pieces, clients_count}
use Rattle.sim_command.proofs.command.new_hall.Goals as goal

pub new-requires : goal.new-requires
new-requires c = record { pieces = pieces c.args.plan.seed c.args.plan.sessions c.args.plan.queries c.in_ok-clients.clients.items c.in_ok-clients.ensures }
