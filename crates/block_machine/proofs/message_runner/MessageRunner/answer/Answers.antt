use Rattle.block_machine.specs.Messages.{before}
use Rattle.block_machine.specs.Runners.{knowledge_of, stage_of, statements_of}
use Rattle.block_machine.proofs.Succeeding.{asked_busy}
use Rattle.block_machine.proofs.message_runner.MessageRunner.answer.Goals as goal

pub returns-clause-goes : goal.returns-clause-goes
returns-clause-goes c = λ k outside said es e wanted from.
    c.answer.ensures.goes k (before (statements_of c.args.self.now) outside) outside said es e wanted from

pub returns-clause-busy : goal.returns-clause-busy
returns-clause-busy c =
    c.answer.ensures.busy (asked_busy (stage_of c.args.self.now) (knowledge_of c.args.self.now) c.args.answer c.args.self.now.driven c.requires.fits)
