use Rattle.std.proofs.Common.{refl, length, ◌≤◌, arith}
use Rattle.history_core.proofs.WholeRows.{ascends_from}
use Rattle.history_core.proofs.whole.ascend.Goals as goal

pub returns : goal.returns
returns c = (
  λ yes. ascends_from c.args.cells.now (λ k within. c.loop-at.invariant k (omega arith)),
  λ ascending. refl,
)
