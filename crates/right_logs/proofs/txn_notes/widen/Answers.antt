use Rattle.std.proofs.Common.{arith}
use Rattle.right_logs.proofs.ClockLemmas.{width_made}
use Rattle.right_logs.proofs.txn_notes.widen.Goals as goal

pub returns-clause-wide : goal.returns-clause-wide
returns-clause-wide c = (width_made c.args.width _ c.args.clock.now.items _ c.args.clock.now.ok.0 (omega arith) c.in_ok-resize.ensures.items).0

pub returns-clause-same : goal.returns-clause-same
returns-clause-same c = (width_made c.args.width _ c.args.clock.now.items _ c.args.clock.now.ok.0 (omega arith) c.in_ok-resize.ensures.items).1
