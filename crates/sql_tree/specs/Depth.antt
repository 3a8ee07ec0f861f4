-- How deep an expression is.
use Rattle.std.specs.Prelude.{ℕ, ◌+◌, max, Some, None, List, [], ◌∷◌, map}
use Rattle.sql_tree.specs.declared.expr.Expr.{Expr, fold-Expr}
use Rattle.sql_tree.specs.declared.expr.Expr.TheOpen.{Expr-F}

-- the greatest of the numbers, or 0
abbrev pub greatest : List ℕ → ℕ
greatest [] = 0
greatest (n ∷ ns) = max n (greatest ns)

-- 1 for a node without operands, and else 1 more than the greatest depth of its operands
abbrev pub depth_step : Expr-F ℕ → ℕ
depth_step (Expr-F.Int n) = 1
depth_step (Expr-F.Str s) = 1
depth_step (Expr-F.Flag b) = 1
depth_step Expr-F.Null = 1
depth_step (Expr-F.Column table name) = 1
depth_step (Expr-F.Call name None) = 1
depth_step (Expr-F.Call name (Some a)) = 1 + a
depth_step (Expr-F.Neg a) = 1 + a
depth_step (Expr-F.Not a) = 1 + a
depth_step (Expr-F.IsNull a negated) = 1 + a
depth_step (Expr-F.Binary op a b) = 1 + max a b
depth_step (Expr-F.In a among negated) = 1 + max a (greatest among)

abbrev pub depth : Expr → ℕ
depth = fold-Expr ℕ depth_step

abbrev pub greatest_depth : List Expr → ℕ
greatest_depth es = greatest (map depth es)
