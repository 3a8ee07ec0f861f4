use Rattle.session_laws.proofs.Blocked.{by_errors}
use Rattle.session_laws.proofs.completeness.blocks_fail_by_errors.Goals as goal

pub returns : goal.returns
returns c = by_errors
