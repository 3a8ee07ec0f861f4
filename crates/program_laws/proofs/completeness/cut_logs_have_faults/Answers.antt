use Rattle.program_laws.proofs.CutLogs.{no_logs, are_cut, have_faults, left_cut, cut_logs_check}
use Rattle.program_laws.proofs.completeness.cut_logs_have_faults.Goals as goal

pub returns : goal.returns
returns c = record { no_log = no_logs; fault = are_cut; verdict = have_faults; left = left_cut; program = cut_logs_check }
