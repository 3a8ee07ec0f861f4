use Rattle.block_machine.specs.StatementRunners.{knowledge_of}
use Rattle.block_machine.proofs.Asking.{asks_call}
use Rattle.block_machine.proofs.runner.Runner.demand.Goals as goal

pub returns-clause-asks : goal.returns-clause-asks
returns-clause-asks c = λ k around outside said wanted.
    asks_call c.args.self.now.stage c.args.self.now.built.items (knowledge_of c.args.self.now) around outside said k
    wanted
