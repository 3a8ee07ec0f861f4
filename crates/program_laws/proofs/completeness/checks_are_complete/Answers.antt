use Rattle.program_laws.proofs.Checking.{checks_complete, check_runs_complete, check_runs_exact}
use Rattle.program_laws.proofs.completeness.checks_are_complete.Goals as goal

pub returns : goal.returns
returns c = record { check = checks_complete; program = check_runs_complete; exact = check_runs_exact }
