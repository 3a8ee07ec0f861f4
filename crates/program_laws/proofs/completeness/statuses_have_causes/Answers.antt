use Rattle.program_laws.proofs.Statuses.{have_causes}
use Rattle.program_laws.proofs.completeness.statuses_have_causes.Goals as goal

pub returns : goal.returns
returns c = have_causes
