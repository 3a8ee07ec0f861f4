use Rattle.program_laws.proofs.SessionsFew.{told_few}
use Rattle.program_laws.proofs.simulations.free_calls_are_few.Goals as goal

pub returns : goal.returns
returns c = told_few
