use Rattle.std.proofs.Common.{sym, subst}
use Rattle.block_machine.specs.Stages.{HasReply}
use Rattle.block_machine.proofs.Pursuing.{at_rest_some}
use Rattle.block_machine.proofs.actions.take.Goals as goal

pub returns-in-Failed-clause-some : goal.returns-in-Failed-clause-some
returns-in-Failed-clause-some c =
    subst (λ step. HasReply step.stage c.args.built.now.items) (sym c.without.ensures)
    (at_rest_some c.at_rest.result c.refuse-stage.result c.args.built.now.items c.at_rest.ensures c.refuse-stage.ensures.constant)
