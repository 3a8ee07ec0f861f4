use Rattle.program_laws.proofs.Playing.{ends}
use Rattle.program_laws.proofs.simulations.simulations_end.Goals as goal

pub returns : goal.returns
returns c = ends
