-- An assignment, and a column by its place.
use Rattle.std.specs.Prelude.{ℕ, Bool, false, if◌then◌else◌, List, [], ◌∷◌, Option, Some, None, Ok}
use Rattle.cell_base.specs.declared.value.Value.{Value}
use Rattle.sql_tree.specs.declared.table.Column.{Column}
use Rattle.sql_tree.specs.declared.typed_expr.TypedExpr.{TypedExpr}
use Rattle.typing_rules.specs.Assignment.{assigned}
use Rattle.typing_rules.specs.Outcome.{Outcome, and_then}
use Rattle.expr_eval.specs.Values.{value_of}
use Rattle.row_meaning.specs.Changes.{kind_at, is_assigned}
use Rattle.row_meaning.specs.Storing.{is_missing}

-- the value of one assignment over the old row
abbrev pub assigning : List Column → List Value → ℕ × TypedExpr → Outcome (ℕ × Value)
assigning columns row a = and_then (and_then (value_of a.1 (row ∷ [])) (assigned (kind_at columns a.0))) (λ v. Ok (a.0, v))

-- whether the column of this place is assigned, must not be null, and is
abbrev pub is_missing_at : List (ℕ × TypedExpr) → ℕ → Column → Option Value → Bool
is_missing_at set place column None = false
is_missing_at set place column (Some v) = if is_assigned set place then is_missing column v else false
