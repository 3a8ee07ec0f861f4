-- The row of an INSERT: a slot for each column, which takes its expression.
use Rattle.std.specs.Prelude.{◌≡◌, ℕ, List, [], ◌∷◌, map, set, Option, Some, None, Result, Ok, Err}
use Rattle.sql_tree.specs.declared.expr.Expr.{Expr}
use Rattle.sql_tree.specs.declared.table.Column.{Column}
use Rattle.sql_tree.specs.declared.typed_expr.TypedExpr.{TypedExpr}
use Rattle.sql_tree.specs.declared.typed_expr.TypedNode.TheVariants as node
use Rattle.typing_rules.specs.Outcome.{Outcome, and_then}
use Rattle.typing_rules.specs.Expressions.{typed_node}
use Rattle.typing_rules.specs.Tables.{Target, all_targets}
use Rattle.typing_rules.specs.Insert.{cells, value_at}

-- the slots when each of these columns has its expression
abbrev pub put : List (Option TypedExpr) → List Target → List TypedExpr → List (Option TypedExpr)
put slots [] es = slots
put slots (t ∷ ts) [] = slots
put slots (t ∷ ts) (e ∷ es) = put (set slots t.number (Some e)) ts es

-- the slots with the value that was made in the one of this number
abbrev pub IsPlaced : {A E : Type 0} → Result A E → ℕ → List (Option A) → List (Option A) → Type 0
IsPlaced (Ok x) number before after = after ≡ set before number (Some x)
IsPlaced (Err why) number before after = ⊥

abbrev pub default_value : Column → TypedExpr
default_value c = typed_node c.kind (node.Constant c.default)

abbrev pub value_or : Column → Option TypedExpr → TypedExpr
value_or c None = default_value c
value_or c (Some e) = e

-- what stands in the slots, and defaults
abbrev pub filled : List (Option TypedExpr) → List Column → List TypedExpr
filled slots [] = []
filled [] (c ∷ cs) = []
filled (s ∷ ss) (c ∷ cs) = value_or c s ∷ filled ss cs

-- one expression for each column, where a row has values for these
abbrev pub row_over : List Column → List Target → List (Option Expr) → Outcome (List TypedExpr)
row_over columns targets row = and_then (cells targets row) (λ es. Ok (map (λ c. value_at c targets es) (all_targets columns)))
