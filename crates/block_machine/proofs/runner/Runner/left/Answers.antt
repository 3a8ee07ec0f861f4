use Rattle.block_machine.proofs.Succeeding.{between_rest, driven_busy}
use Rattle.block_machine.proofs.runner.Runner.left.Goals as goal

pub returns-in_default-clause-driven : goal.returns-in_default-clause-driven
returns-in_default-clause-driven c = λ none driven. driven_busy c.args.self.now.stage c.in_default.not-Over driven

pub returns-in_default-clause-none : goal.returns-in_default-clause-none
returns-in_default-clause-none c = λ none rest. between_rest c.args.self.now.stage c.in_default.not-Over rest
