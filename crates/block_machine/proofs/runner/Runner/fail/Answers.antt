use Rattle.std.proofs.Common.{subst}
use Rattle.block_machine.specs.declared.block.Block.{Block}
use Rattle.block_machine.specs.Statements.{fails}
use Rattle.block_machine.specs.StatementRunners.{knowledge_of}
use Rattle.block_machine.specs.Stages.{IsScriptAt}
use Rattle.block_machine.proofs.Holding.{holding_some}
use Rattle.block_machine.proofs.runner.Runner.fail.Goals as goal

pub returns-clause-goes : goal.returns-clause-goes
returns-clause-goes c =
    subst (λ (b : Block). IsScriptAt (fails c.args.code b (knowledge_of c.args.self.now)) c.fail-next.result c.args.self.now.built.items
    (knowledge_of c.args.self.now)) c.block_in.ensures.block
    (c.fail-next.ensures.goes c.args.self.now.built.items (knowledge_of c.args.self.now))

pub returns-clause-some : goal.returns-clause-some
returns-clause-some c = holding_some c.args.self.now.built.items c.fail-next.result c.fail-next.ensures.constant
