use Rattle.program_laws.proofs.ProgramRuns.{program_runs}
use Rattle.program_laws.proofs.one_history.program_runs_are_alike.Goals as goal

pub returns : goal.returns
returns c = program_runs
