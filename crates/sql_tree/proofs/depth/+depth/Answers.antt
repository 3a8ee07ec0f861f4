use Rattle.std.proofs.Common.{arith}
use Rattle.sql_tree.proofs.Depths.{goes_on}
use Rattle.sql_tree.proofs.depth.+depth.Goals as goal

pub greatest-loop-expr-preserved : goal.greatest-loop-expr-preserved
greatest-loop-expr-preserved t c =
    goes_on c.args.exprs.now c.loop-expr.expr-index c.expr-item.result c.loop-expr.most c.max-most.result c.height.result 4294967295 (omega arith) c.expr-item.is c.loop-expr.invariant c.height.ensures (omega arith)
