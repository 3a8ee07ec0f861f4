-- The columns that UPDATE assigns.
use Rattle.std.specs.Prelude.{◌<◌, ℕ, List, [], ◌∷◌}
use Rattle.sql_tree.specs.declared.typed_expr.TypedExpr.{TypedExpr}

-- numbers of columns of which there are so many
abbrev pub AreWithin : ℕ → List (ℕ × TypedExpr) → Type 0
AreWithin count [] = Unit {0}
AreWithin count (a ∷ as') = (a.0 < count) × AreWithin count as'
