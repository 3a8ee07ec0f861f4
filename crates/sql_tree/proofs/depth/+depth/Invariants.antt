use Rattle.std.proofs.Common.{◌≡◌, take, min}
use Rattle.sql_tree.specs.Depth.{greatest_depth}
use Rattle.sql_tree.proofs.depth.+depth.Given as goal

abbrev pub invariant-greatest-loop-expr : goal.invariant-greatest-loop-expr
invariant-greatest-loop-expr l = l.most ≡ min (greatest_depth (take l.expr-index l.exprs)) 4294967295
