use Rattle.block_machine.specs.StatementRunners.{knowledge_of}
use Rattle.block_machine.proofs.Holding.{holding_tells}
use Rattle.block_machine.proofs.runner.Runner.reply.Goals as goal

pub returns-in-Telling-clause-tells : goal.returns-in-Telling-clause-tells
returns-in-Telling-clause-tells c = λ around outside said es.
    holding_tells c.args.self.now.stage c.args.self.now.built.items (knowledge_of c.args.self.now) around outside
    said es c.requires

pub returns-in-Failing-clause-tells : goal.returns-in-Failing-clause-tells
returns-in-Failing-clause-tells c = λ around outside said es.
    holding_tells c.args.self.now.stage c.args.self.now.built.items (knowledge_of c.args.self.now) around outside
    said es c.requires

pub returns-in-Readying-clause-tells : goal.returns-in-Readying-clause-tells
returns-in-Readying-clause-tells c = λ around outside said es.
    holding_tells c.args.self.now.stage c.args.self.now.built.items (knowledge_of c.args.self.now) around outside
    said es c.requires
