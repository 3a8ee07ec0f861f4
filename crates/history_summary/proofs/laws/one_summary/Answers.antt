use Rattle.history_summary.proofs.Unique.{one_line}
use Rattle.history_summary.proofs.laws.one_summary.Goals as goal

pub returns : goal.returns
returns c = one_line
