use Rattle.std.proofs.Common.{◌≡◌, take}
use Rattle.sql_tree.proofs.expr.+copies.Given as goal

abbrev pub invariant-copy_each-loop-expr : goal.invariant-copy_each-loop-expr
invariant-copy_each-loop-expr l = l.copies ≡ take l.expr-index l.expr-items
