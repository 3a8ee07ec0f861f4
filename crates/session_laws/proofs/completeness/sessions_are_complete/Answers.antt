use Rattle.session_laws.proofs.Complete.{complete}
use Rattle.session_laws.proofs.completeness.sessions_are_complete.Goals as goal

pub returns : goal.returns
returns g c = λ level before outcome after account s. complete g.W.Words.gives level before outcome after account s
