use Rattle.program_laws.proofs.Piping.{piped_complete, pipes_complete}
use Rattle.program_laws.proofs.completeness.pipes_are_complete.Goals as goal

pub returns : goal.returns
returns c = record { piped = piped_complete; program = pipes_complete }
