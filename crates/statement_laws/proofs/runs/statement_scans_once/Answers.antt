use Rattle.statement_laws.proofs.Scanning.{scans_once}
use Rattle.statement_laws.proofs.runs.statement_scans_once.Goals as goal

pub returns : goal.returns
returns c = scans_once
