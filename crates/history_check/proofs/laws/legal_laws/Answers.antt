use Rattle.history_check.proofs.Legal.{legal_trace_unbroken}
use Rattle.history_check.proofs.laws.legal_laws.Goals as goal

pub returns : goal.returns
returns c = legal_trace_unbroken
