use Rattle.std.proofs.Common.{List, ◌≡◌, ◌+◌, ◌-◌, subst, arith}
use Rattle.cell_base.specs.declared.cell.Cell.{Cell}
use Rattle.cell_base.specs.declared.value.Value.{Value}
use Rattle.valid_writes.proofs.Told.{on_ok}
use Rattle.committed_rows.specs.Walk.{Fills}
use Rattle.committed_rows.proofs.Above.{above_committed, above_other}
use Rattle.committed_rows.proofs.walk.take_txn.Goals as goal

pub returns-in-Committed : goal.returns-in-Committed
returns-in-Committed c =
    let some = c.requires.some in
    let next : (c.args.number - 1) + 1 ≡ c.args.number = omega arith in
    on_ok _ _ c.fill.result
    (λ fills. above_committed c.args.history.now.events c.args.number (c.args.number - 1) c.txn-txn.result.now c.args.newest.now c.fill.new.newest next
    c.txn-txn.ensures c.in-Committed.is
    (subst (λ (ws : List (Cell × Value)). Fills c.args.newest.now ws c.fill.new.newest) c.writes.ensures.items fills) c.requires.above)
    c.fill.ensures

pub returns-in_default : goal.returns-in_default
returns-in_default c =
    let some = c.requires.some in
    let next : (c.args.number - 1) + 1 ≡ c.args.number = omega arith in
    above_other c.args.history.now.events c.args.number (c.args.number - 1) c.args.newest.now next
    (λ committed. c.in_default.not-Committed (c.txn-txn.ensures.committed.1 committed)) c.requires.above
