use Rattle.block_machine.proofs.OutOfMemory.{leads_short}
use Rattle.block_machine.proofs.step.short.Goals as goal

pub returns-clause-goes : goal.returns-clause-goes
returns-clause-goes c = λ script built known. leads_short script c.fail.result c.args.block built known (c.fail.ensures.goes built known)
