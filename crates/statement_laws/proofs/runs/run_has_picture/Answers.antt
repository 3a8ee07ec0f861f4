use Rattle.statement_laws.proofs.Answering.{run_pictured}
use Rattle.statement_laws.proofs.runs.run_has_picture.Goals as goal

pub returns : goal.returns
returns c = run_pictured
