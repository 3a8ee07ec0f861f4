use Rattle.refused_calls.proofs.Leaves.{leaves_all}
use Rattle.refused_calls.proofs.law.refused_calls_leave_all.Goals as goal

pub returns : goal.returns
returns c = leaves_all
