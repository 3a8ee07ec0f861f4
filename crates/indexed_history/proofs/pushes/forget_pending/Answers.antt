use Rattle.std.proofs.Common.{List, sym, subst}
use Rattle.std.specs.List.{Contains}
use Rattle.cell_base.specs.declared.cell.Cell.{Cell}
use Rattle.cell_base.specs.declared.value.Value.{Value}
use Rattle.history_core.proofs.Next.{pending_bounded}
use Rattle.history_core.proofs.Numbers.{pending_positive}
use Rattle.indexed_history.proofs.Indexes.{the_txn, none_found, indexed_rollback}
use Rattle.indexed_history.proofs.RecordLemmas.{none_written}
use Rattle.indexed_history.proofs.pushes.forget_pending.Goals as goal

pub txn-requires-clause-some : goal.txn-requires-clause-some
txn-requires-clause-some c =
    pending_positive c.args.history.now.events c.in-Some.number c.args.session ((c.pending.ensures c.in-Some.number).0 c.in-Some.is)

pub txn-requires-clause-begun : goal.txn-requires-clause-begun
txn-requires-clause-begun c =
    pending_bounded c.args.history.now.events c.in-Some.number c.args.session ((c.pending.ensures c.in-Some.number).0 c.in-Some.is)

pub forget_writes-requires : goal.forget_writes-requires
forget_writes-requires c = record { ascending = λ q. (c.requires.indexed q).ascending }

pub unreachable-requires : goal.unreachable-requires
unreachable-requires c =
    none_found c.args.history.now.events c.args.session c.requires.pending.0 c.pending.result c.in-None.is c.pending.ensures c.requires.pending.1

pub returns : goal.returns
returns c =
    let the = the_txn c.args.history.now.events c.args.session c.in-Some.number c.pending.result c.in-Some.is c.pending.ensures in
    indexed_rollback c.args.history.now.events c.args.session c.in-Some.number c.writes.result.now c.args.index.now c.forget_writes.new.index
    ((c.pending.ensures c.in-Some.number).0 c.in-Some.is) (λ n pending. (the n).0 pending)
    (λ q written none. none_written c.args.history.now.events c.in-Some.number q
    (λ v last. none v (subst (λ (ws : List (Cell × Value)). Contains ws (q, v)) (sym c.writes.ensures.items) ((c.txn.ensures.writes q v).1 last))) written)
    c.forget_writes.ensures c.requires.indexed
