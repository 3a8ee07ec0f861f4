use Rattle.session_laws.proofs.SessionsTell.{before_lacks, before_refusals}
use Rattle.session_laws.proofs.memory.replies_come_first.Goals as goal

pub returns : goal.returns
returns c = record { lacks = before_lacks; refusals = before_refusals }
