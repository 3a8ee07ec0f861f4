use Rattle.committed_rows.proofs.Unique.{one_list}
use Rattle.committed_rows.proofs.laws.one_list_of_rows.Goals as goal

pub returns : goal.returns
returns c = one_list
