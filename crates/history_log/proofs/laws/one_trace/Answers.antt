use Rattle.history_log.proofs.OneHistory.{same_log}
use Rattle.history_log.proofs.laws.one_trace.Goals as goal

pub returns : goal.returns
returns c = same_log
