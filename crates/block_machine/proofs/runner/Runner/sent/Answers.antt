use Rattle.block_machine.specs.StatementRunners.{knowledge_of}
use Rattle.block_machine.proofs.Holding.{holding_some}
use Rattle.block_machine.proofs.runner.Runner.sent.Goals as goal

pub returns-clause-goes : goal.returns-clause-goes
returns-clause-goes c = λ around outside said es.
    c.after_sent-next.ensures.goes c.args.self.now.built.items (knowledge_of c.args.self.now) around outside said es

pub returns-clause-some : goal.returns-clause-some
returns-clause-some c = holding_some c.args.self.now.built.items c.after_sent-next.result c.after_sent-next.ensures.constant
