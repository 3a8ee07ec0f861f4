-- The expressions that a SELECT reads, in order.
use Rattle.std.specs.Prelude.{Bool, List, ◌++◌, map}
use Rattle.sql_tree.specs.declared.typed_expr.TypedExpr.{TypedExpr}
use Rattle.select_typing.specs.declared.reads.Read.{Read}

abbrev pub exprs : Read → List TypedExpr
exprs r = r.conditions.now ++ r.items.now ++ map (λ (t : TypedExpr × Bool). t.0) r.order.now
