use Rattle.committed_rows.proofs.Small.{legal_is_small}
use Rattle.committed_rows.proofs.laws.legal_start_is_small.Goals as goal

pub returns : goal.returns
returns c = legal_is_small
