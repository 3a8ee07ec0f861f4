use Rattle.std.proofs.Common.{subst}
use Rattle.block_machine.specs.declared.block.Block.{Block}
use Rattle.block_machine.specs.Knowledge.{knowledge_in}
use Rattle.block_machine.specs.Statements.{told_of}
use Rattle.block_machine.specs.StatementRunners.{knowledge_of}
use Rattle.block_machine.specs.Stages.{LeadsTo}
use Rattle.block_machine.proofs.runner.Runner.start.Goals as goal

pub returns-clause-goes : goal.returns-clause-goes
returns-clause-goes c =
    subst (λ (b : Block). LeadsTo (told_of c.args.description c.args.statement b (knowledge_of c.args.self.now)) c.take-step.result.stage
    c.take-step.result.out_of_memory c.take-step.new.built.items (knowledge_in c.take-step.new.known))
    c.block_in-block.ensures.block c.take-step.ensures.goes
