use Rattle.std.proofs.Common.{arith}
use Rattle.block_machine.specs.declared.reply.Fixed.TheVariants as fixed
use Rattle.block_machine.specs.declared.reply.StatementReply.TheVariants as replies
use Rattle.block_machine.specs.declared.stage.MessageStage.TheVariants as stages
use Rattle.block_machine.specs.Stages.{NoBuilt, HasReply}
use Rattle.block_machine.proofs.Carried.{if_ok, running_silent, work_still}
use Rattle.block_machine.proofs.Holding.{holding_some}
use Rattle.block_machine.proofs.Pursuing.{at_rest_some}
use Rattle.block_machine.proofs.actions.act.Goals as goal

pub returns-in-Create-clause-work : goal.returns-in-Create-clause-work
returns-in-Create-clause-work c =
    work_still 4 c.define.result c.or_short-in-Create.result.stage (omega arith) c.define.ensures.work c.or_short-in-Create.ensures.work
    (running_silent c.or_short-in-Create.result.stage (c.or_short-in-Create.ensures.silent c.define.ensures.silent))

pub returns-in-Create-clause-some : goal.returns-in-Create-clause-some
returns-in-Create-clause-some c =
    c.or_short-in-Create.ensures.some c.args.built.now.items
    (if_ok NoBuilt (λ stage. HasReply stage c.args.built.now.items) c.define.result (holding_some c.args.built.now.items) c.define.ensures.constant)

pub returns-in-Begin-clause-some : goal.returns-in-Begin-clause-some
returns-in-Begin-clause-some c = at_rest_some c.at_rest.result c.start.result c.args.built.now.items c.at_rest.ensures c.start.ensures.constant

pub returns-in-Commit-clause-some : goal.returns-in-Commit-clause-some
returns-in-Commit-clause-some c = at_rest_some c.at_rest-in-Commit.result c.commit.result c.args.built.now.items c.at_rest-in-Commit.ensures c.commit.ensures.constant

pub returns-in-Rollback-clause-some : goal.returns-in-Rollback-clause-some
returns-in-Rollback-clause-some c = at_rest_some c.at_rest-in-Rollback.result c.roll_back.result c.args.built.now.items c.at_rest-in-Rollback.ensures c.roll_back.ensures.constant

pub returns-in-Set-clause-some : goal.returns-in-Set-clause-some
returns-in-Set-clause-some c = at_rest_some c.at_rest-in-Set.result c.set.result c.args.built.now.items c.at_rest-in-Set.ensures c.set.ensures.constant

pub returns-in-SetModes-clause-some : goal.returns-in-SetModes-clause-some
returns-in-SetModes-clause-some c =
    at_rest_some c.at_rest-in-SetModes.result (stages.Telling (replies.Fixed fixed.Set) c.args.block) c.args.built.now.items c.at_rest-in-SetModes.ensures tt
