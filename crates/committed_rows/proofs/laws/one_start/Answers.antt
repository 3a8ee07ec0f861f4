use Rattle.committed_rows.proofs.Unique.{one_history}
use Rattle.committed_rows.proofs.laws.one_start.Goals as goal

pub returns : goal.returns
returns c = one_history
