use Rattle.session_laws.proofs.ExactSessions.{told_exactly, served_exactly, saying_ends}
use Rattle.session_laws.proofs.exact_ends.ends_are_exact.Goals as goal

pub returns : goal.returns
returns g c = record { told = told_exactly; served = served_exactly g.W.Words.gives; says = saying_ends g.W.Words.gives }
