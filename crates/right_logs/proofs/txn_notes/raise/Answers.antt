use Rattle.std.proofs.Common.{arith}
use Rattle.order_test.proofs.ReachLemmas.{value_at}
use Rattle.right_logs.proofs.ClockLemmas.{one_raised}
use Rattle.right_logs.proofs.txn_notes.raise.Goals as goal

pub returns : goal.returns
returns c =
    let was = value_at c.args.clock.now.items c.args.at c.index.result.now c.requires c.index.ensures in
    let top = c.max.ensures in
    one_raised c.args.at c.args.number c.max.result c.args.clock.now.items c.requires (omega arith)
