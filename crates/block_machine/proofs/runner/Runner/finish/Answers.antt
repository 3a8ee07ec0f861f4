use Rattle.std.proofs.Common.{◌≡◌, ◌∙◌, subst}
use Rattle.block_machine.specs.declared.block.Block.{Block}
use Rattle.block_machine.specs.Messages.{finishes}
use Rattle.block_machine.specs.StatementRunners.{knowledge_of}
use Rattle.block_machine.specs.Stages.{resumes}
use Rattle.block_machine.proofs.Holding.{holding_some}
use Rattle.block_machine.proofs.runner.Runner.finish.Goals as goal

pub returns-clause-goes : goal.returns-clause-goes
returns-clause-goes c = λ around outside said es.
    subst (λ (b : Block). finishes c.args.ready b (knowledge_of c.args.self.now) outside said es
    ≡ resumes c.finish-next.result c.args.self.now.built.items (knowledge_of c.args.self.now) around outside said es) c.block_in.ensures.block
    (c.finish-next.ensures.goes c.args.self.now.built.items (knowledge_of c.args.self.now) around outside said es)

pub returns-clause-closed : goal.returns-clause-closed
returns-clause-closed c = λ closed. c.finish-next.ensures.closed (c.block_in.ensures.owed ∙ closed)

pub returns-clause-some : goal.returns-clause-some
returns-clause-some c = holding_some c.args.self.now.built.items c.finish-next.result c.finish-next.ensures.constant
