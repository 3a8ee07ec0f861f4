use Rattle.program_laws.proofs.Verdicts.{legal_right, written_legal}
use Rattle.program_laws.proofs.Checking.{legal_logs_check}
use Rattle.program_laws.proofs.completeness.own_logs_are_right.Goals as goal

pub returns : goal.returns
returns c = record { verdict = legal_right; written = written_legal; program = legal_logs_check }
