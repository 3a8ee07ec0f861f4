use Rattle.std.proofs.Common.{arith}
use Rattle.right_logs.proofs.AccessLemmas.{may_touch_if}
use Rattle.right_logs.proofs.accesses.owner_of.Goals as goal

pub returns : goal.returns
returns c = may_touch_if c.args.pass.now c.args.session c.args.cell.now c.deref.result.now c.pending_of.result c.deref.ensures.value (omega arith) c.pending_of.ensures
