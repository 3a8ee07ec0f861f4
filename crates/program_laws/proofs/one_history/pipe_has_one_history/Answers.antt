use Rattle.program_laws.proofs.Piped.{piped}
use Rattle.program_laws.proofs.one_history.pipe_has_one_history.Goals as goal

pub returns : goal.returns
returns c = piped
