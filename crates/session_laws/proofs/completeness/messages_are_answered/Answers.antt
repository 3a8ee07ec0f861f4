use Rattle.session_laws.proofs.Conversing.{converses}
use Rattle.session_laws.proofs.Answered.{answered}
use Rattle.session_laws.proofs.completeness.messages_are_answered.Goals as goal

pub returns : goal.returns
returns g c = record { told = converses; served = answered g.W.Words.gives }
