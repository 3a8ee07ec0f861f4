use Rattle.std.proofs.Common.{ap, sym}
use Rattle.block_machine.specs.declared.block.Block.{Block}
use Rattle.block_machine.specs.Statements.{refreshes}
use Rattle.block_machine.specs.StatementRunners.{knowledge_of}
use Rattle.block_machine.proofs.runner.Runner.look.Goals as goal

pub returns-clause-goes : goal.returns-clause-goes
returns-clause-goes c = λ around outside said es.
    ap (λ (b : Block). refreshes b (knowledge_of c.args.self.now) around said es) (sym c.block_in-block.ensures.block)
