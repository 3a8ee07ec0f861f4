use Rattle.session_core.specs.Told.{outside_of}
use Rattle.session_core.specs.Stands.{on}
use Rattle.session_core.proofs.messages.fail.Goals as goal

pub returns-clause-goes : goal.returns-clause-goes
returns-clause-goes c = λ startup requests said es. c.refuse.ensures.goes (outside_of (on requests)) said es
