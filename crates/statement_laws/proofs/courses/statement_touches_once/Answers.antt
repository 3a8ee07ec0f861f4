use Rattle.statement_laws.proofs.TouchesOnce.{touches_once}
use Rattle.statement_laws.proofs.courses.statement_touches_once.Goals as goal

pub returns : goal.returns
returns c = touches_once
