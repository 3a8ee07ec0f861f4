use Rattle.block_machine.specs.Messages.{before}
use Rattle.block_machine.specs.Runners.{statements_of}
use Rattle.block_machine.proofs.message_runner.MessageRunner.demand.Goals as goal

pub returns-clause-asks : goal.returns-clause-asks
returns-clause-asks c = λ k outside said wanted. c.demand.ensures.asks k (before (statements_of c.args.self.now) outside) outside said wanted
