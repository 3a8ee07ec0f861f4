use Rattle.expr_eval.specs.Lent.{seen}
use Rattle.row_totals.proofs.Rows.{adds}
use Rattle.row_totals.proofs.totals.Totals.add.Goals as goal

pub returns : goal.returns
returns c exprs rows s = adds c.add_row.result c.args.self.now (record { alloc = c.args.self.now.alloc; calls = c.add_row.new.calls }) exprs rows (seen c.args.row.now) s c.add_row.ensures
