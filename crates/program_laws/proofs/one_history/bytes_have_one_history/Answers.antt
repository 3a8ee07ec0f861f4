use Rattle.program_laws.proofs.HasOneHistory.{one_history}
use Rattle.program_laws.proofs.one_history.bytes_have_one_history.Goals as goal

pub returns : goal.returns
returns c = one_history
