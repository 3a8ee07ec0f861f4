use Rattle.block_machine.proofs.Holding.{holding_some}
use Rattle.block_machine.proofs.actions.answer_alone.Goals as goal

pub returns-in-Err-State-clause-some : goal.returns-in-Err-State-clause-some
returns-in-Err-State-clause-some c = holding_some c.args.built.now.items c.fail.result c.fail.ensures.constant
