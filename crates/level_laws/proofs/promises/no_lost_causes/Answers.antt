use Rattle.level_laws.proofs.Promised.{loses_no_cause}
use Rattle.level_laws.proofs.promises.no_lost_causes.Goals as goal

pub returns : goal.returns
returns c = loses_no_cause
