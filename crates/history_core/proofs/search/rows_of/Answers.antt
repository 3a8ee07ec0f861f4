use Rattle.std.proofs.Common.{ℕ, ◌+◌, sym, subst, List}
use Rattle.cell_base.specs.declared.cell.Cell.{Cell}
use Rattle.cell_base.specs.declared.value.Value.{Value}
use Rattle.history_core.specs.Initial.{AreRowsOf}
use Rattle.history_core.specs.Judged.{IsCut}
use Rattle.history_core.proofs.RowLists.{cuts_rise, rows_between}
use Rattle.history_core.proofs.search.rows_of.Goals as goal

pub part-requires-clause-order : goal.part-requires-clause-order
part-requires-clause-order c =
    cuts_rise c.args.cells.now c.args.table c.rows_below-from.result c.rows_below-to.result
    (subst (λ (n : ℕ). IsCut c.args.cells.now n c.rows_below-from.result) c.from.ensures c.rows_below-from.ensures)
    (subst (λ (n : ℕ). IsCut c.args.cells.now (n + 1) c.rows_below-to.result) c.from-2.ensures c.rows_below-to.ensures)

pub returns : goal.returns
returns c =
    subst (λ (rows : List (Cell × Value)). AreRowsOf c.args.cells.now c.args.table rows) (sym c.part.ensures)
    (rows_between c.args.cells.now c.args.table c.rows_below-from.result c.rows_below-to.result c.requires
    (subst (λ (n : ℕ). IsCut c.args.cells.now n c.rows_below-from.result) c.from.ensures c.rows_below-from.ensures)
    (subst (λ (n : ℕ). IsCut c.args.cells.now (n + 1) c.rows_below-to.result) c.from-2.ensures c.rows_below-to.ensures))
