use Rattle.forced_rows.proofs.Keeping.{rows_still}
use Rattle.forced_rows.proofs.laws.rows_stay.Goals as goal

pub returns : goal.returns
returns c = λ initial events event rows formed follows nothing are. rows_still initial events event rows formed follows nothing are
