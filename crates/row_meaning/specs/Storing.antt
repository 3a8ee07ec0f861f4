-- What holds of a row that is stored (PostgreSQL's documentation, "Constraints").
use Rattle.std.specs.Prelude.{Bool, true, false, ◌&&◌, if◌then◌else◌, List, [], ◌∷◌, Ok, Err}
use Rattle.cell_base.specs.declared.sql_state.SqlState.TheVariants.{S23502, S23514}
use Rattle.cell_base.specs.declared.value.Value.{Value}
use Rattle.cell_base.specs.declared.value.Value.TheVariants.{Flag}
use Rattle.sql_tree.specs.declared.table.Column.{Column}
use Rattle.sql_tree.specs.declared.typed_expr.TypedExpr.{TypedExpr}
use Rattle.typing_rules.specs.Outcome.{Outcome, and_then}
use Rattle.typing_rules.specs.Kinds.{is_null}
use Rattle.expr_eval.specs.Values.{value_of}

-- whether a column that is never null has a null
abbrev pub is_missing : Column → Value → Bool
is_missing column v = column.not_null && is_null v

-- a value for each column: none that must not be null is null
abbrev pub has_no_missing : List Column → List Value → Bool
has_no_missing (c ∷ cs) (v ∷ vs) = if is_missing c v then false else has_no_missing cs vs
has_no_missing _ _ = true

abbrev pub is_false : Value → Bool
is_false (Flag false) = true
is_false _ = false

-- the CHECKs in order: one that is false refuses the row, and one that is unknown passes
abbrev pub checked : List TypedExpr → List Value → Outcome (List Value)
checked [] row = Ok row
checked (check ∷ checks) row = and_then (value_of check (row ∷ [])) (λ v. if is_false v then Err S23514 else checked checks row)

-- a row that may be stored
abbrev pub stored : List Column → List TypedExpr → List Value → Outcome (List Value)
stored columns checks row = if has_no_missing columns row then checked checks row else Err S23502
