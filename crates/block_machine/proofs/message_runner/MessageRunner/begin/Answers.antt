use Rattle.std.proofs.Common.{length}
use Rattle.block_machine.proofs.Succeeding.{from_busy}
use Rattle.block_machine.proofs.message_runner.MessageRunner.begin.Goals as goal

pub returns-clause-goes : goal.returns-clause-goes
returns-clause-goes c = λ outside said es from.
    c.begin.ensures.goes outside said es (from_busy c.begin.new.runner.stage (length said.bytes) es c.begin.ensures.busy from)
