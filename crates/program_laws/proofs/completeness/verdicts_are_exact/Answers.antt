use Rattle.program_laws.proofs.Verdicts.{one_verdict, zero_is_right}
use Rattle.program_laws.proofs.completeness.verdicts_are_exact.Goals as goal

pub returns : goal.returns
returns c = record { one = one_verdict; zero = zero_is_right }
