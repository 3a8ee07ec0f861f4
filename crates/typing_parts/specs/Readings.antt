-- What an expression is to the search for a point.
use Rattle.std.specs.Prelude.{ℕ}
use Rattle.sql_tree.specs.declared.typed_expr.TypedExpr.{TypedExpr}
use Rattle.sql_tree.specs.declared.typed_expr.TypedNode.TheOpen.{TypedExpr-F}
use Rattle.sql_tree.specs.declared.typed_expr.TypedNode.TheFolds.{fold-TypedExpr}
use Rattle.typing_rules.specs.Points.{Reading, reading_node}

abbrev pub reading : ℕ → ℕ → TypedExpr → Reading
reading e c = fold-TypedExpr Reading Reading (reading_node e c) (λ (x : TypedExpr-F Reading Reading). x.node)
