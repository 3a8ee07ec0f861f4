use Rattle.indexed_history.proofs.Indexes.{the_txn, none_found}
use Rattle.indexed_history.proofs.pushes.push_write.Goals as goal

pub unreachable-requires : goal.unreachable-requires
unreachable-requires c =
    none_found c.args.parts.now.history.events c.args.session c.requires.follows.0.0 c.pending.result c.in_default.is c.pending.ensures c.requires.follows.0.1

pub push_further_write-requires-clause-pending : goal.push_further_write-requires-clause-pending
push_further_write-requires-clause-pending c =
    the_txn c.args.parts.now.history.events c.args.session c.in-Some.number c.pending.result c.in-Some.is c.pending.ensures

pub push_first_write-requires-clause-pending : goal.push_first_write-requires-clause-pending
push_first_write-requires-clause-pending c =
    the_txn c.args.parts.now.history.events c.args.session c.in-Some.number c.pending.result c.in-Some.is c.pending.ensures
