use Rattle.history_core.proofs.Next.{pending_bounded}
use Rattle.forced_rows.proofs.reader.reader_of.Goals as goal

pub txn-txn-requires-clause-begun : goal.txn-txn-requires-clause-begun
txn-txn-requires-clause-begun c = pending_bounded c.args.history.now.events c.pending_of-number.result c.args.session c.pending_of-number.ensures
