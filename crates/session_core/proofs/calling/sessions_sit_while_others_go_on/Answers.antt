use Rattle.session_core.proofs.Serving.{sits_on}
use Rattle.session_core.proofs.calling.sessions_sit_while_others_go_on.Goals as goal

pub returns : goal.returns
returns c = sits_on
