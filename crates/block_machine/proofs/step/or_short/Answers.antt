use Rattle.block_machine.proofs.Holding.{holding_some}
use Rattle.block_machine.proofs.step.or_short.Goals as goal

pub returns-in-Err-clause-some : goal.returns-in-Err-clause-some
returns-in-Err-clause-some c = λ built h. holding_some built c.short.result.stage c.short.ensures.constant
