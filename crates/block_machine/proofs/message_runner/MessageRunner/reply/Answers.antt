use Rattle.block_machine.specs.Runners.{knowledge_of, stage_of, statements_of}
use Rattle.block_machine.proofs.Holding.{message_tells}
use Rattle.block_machine.proofs.message_runner.MessageRunner.reply.Goals as goal

pub returns-clause-tells : goal.returns-clause-tells
returns-clause-tells c = λ outside said es.
    message_tells (stage_of c.args.self.now) c.args.self.now.runner.built.items (knowledge_of c.args.self.now) (statements_of c.args.self.now) outside
    said es c.requires
