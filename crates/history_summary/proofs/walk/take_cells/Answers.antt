use Rattle.std.proofs.Common.{List, subst}
use Rattle.cell_base.specs.declared.cell.Cell.{Cell}
use Rattle.cell_base.specs.declared.value.Value.{Value}
use Rattle.history_summary.specs.Walk.{SetsWriters}
use Rattle.history_summary.proofs.Writers.{on_ok, takes_from}
use Rattle.history_summary.proofs.walk.take_cells.Goals as goal

pub returns : goal.returns
returns c =
    on_ok _ _ c.set_writers.result
    (λ sets. takes_from c.args.history.now.events c.args.number c.txn.result.now c.args.latest.now c.set_writers.new.latest c.txn.ensures
    (subst (λ (ws : List (Cell × Value)). SetsWriters c.args.latest.now ws c.args.number c.set_writers.new.latest) c.writes.ensures.items sets)) c.set_writers.ensures
