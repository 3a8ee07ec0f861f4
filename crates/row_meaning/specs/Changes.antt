-- The changes that an UPDATE or a DELETE makes (PostgreSQL's documentation, "UPDATE" and "DELETE").
use Rattle.std.specs.Prelude.{ℕ, zero, suc, ◌+◌, Bool, true, false, ◌==◌, if◌then◌else◌, List, [], ◌∷◌, map, Option, Some, None, Ok, Err}
use Rattle.std.specs.List.{list_any}
use Rattle.cell_base.specs.declared.key.Key.{Key}
use Rattle.cell_base.specs.declared.sql_state.SqlState.TheVariants.{S23502}
use Rattle.cell_base.specs.declared.sql_type.SqlType.{SqlType}
use Rattle.cell_base.specs.declared.sql_type.SqlType.TheVariants.{Text}
use Rattle.cell_base.specs.declared.value.Value.{Value}
use Rattle.sql_tree.specs.declared.table.Column.{Column}
use Rattle.sql_tree.specs.declared.table.Table.{Table}
use Rattle.sql_tree.specs.declared.typed.TypedChange.{TypedChange}
use Rattle.sql_tree.specs.declared.typed_expr.TypedExpr.{TypedExpr}
use Rattle.typing_rules.specs.Outcome.{Outcome, and_then, all_of}
use Rattle.typing_rules.specs.Assignment.{assigned}
use Rattle.typing_rules.specs.Mentions.{mentions}
use Rattle.expr_eval.specs.Values.{value_of}
use Rattle.row_meaning.specs.Pictures.{TableRow, with_values}
use Rattle.row_meaning.specs.Combinations.{is_true}
use Rattle.row_meaning.specs.Storing.{is_missing, checked}

-- a row that is changed: its key, and the columns that are written, by number, ascending; a row that is deleted has none
pub record Change : Type 0 where
  pub key : Key
  pub fields : List (ℕ × Value)

-- whether the row is one that WHERE keeps
abbrev pub passes : Option TypedExpr → List Value → Outcome Bool
passes None row = Ok true
passes (Some filter) row = and_then (value_of filter (row ∷ [])) (λ v. Ok (is_true v))

-- the rows that WHERE keeps, keys ascending; WHERE is evaluated for all rows first
abbrev pub kept_rows : Option TypedExpr → List TableRow → Outcome (List TableRow)
kept_rows filter [] = Ok []
kept_rows filter (row ∷ rows) =
    and_then (passes filter row.1) (λ holds. and_then (kept_rows filter rows) (λ more. Ok (if holds then row ∷ more else more)))

-- the type of a column; that of one that isn't there doesn't matter
abbrev pub kind_at : List Column → ℕ → SqlType
kind_at [] n = Text
kind_at (c ∷ cs) zero = c.kind
kind_at (c ∷ cs) (suc n) = kind_at cs n

-- the assignments in text order, over the old row, each value as one of its column's type
abbrev pub assignments : List Column → List (ℕ × TypedExpr) → List Value → Outcome (List (ℕ × Value))
assignments columns set row =
    all_of (map (λ (a : ℕ × TypedExpr). and_then (and_then (value_of a.1 (row ∷ [])) (assigned (kind_at columns a.0))) (λ v. Ok (a.0, v))) set)

abbrev pub is_assigned : List (ℕ × TypedExpr) → ℕ → Bool
is_assigned set column = list_any (λ (a : ℕ × TypedExpr). a.0 == column) set

-- whether an assigned column, numbered from this one on, must not be null and is
abbrev pub has_missing : ℕ → List Column → List (ℕ × TypedExpr) → List Value → Bool
has_missing i (c ∷ cs) set (v ∷ vs) = if is_assigned set i then (if is_missing c v then true else has_missing (i + 1) cs set vs) else has_missing (i + 1) cs set vs
has_missing i _ set _ = false

-- the CHECKs that mention an assigned column
abbrev pub checks_on : List (ℕ × TypedExpr) → List TypedExpr → List TypedExpr
checks_on set [] = []
checks_on set (check ∷ checks) =
    if list_any (λ (a : ℕ × TypedExpr). mentions 0 a.0 check) set then check ∷ checks_on set checks else checks_on set checks

-- the values of the assigned columns in a row, by number, where the columns are numbered from this one on
abbrev pub fields_from : ℕ → List (ℕ × TypedExpr) → List Value → List (ℕ × Value)
fields_from i set [] = []
fields_from i set (v ∷ vs) = if is_assigned set i then (i, v) ∷ fields_from (i + 1) set vs else fields_from (i + 1) set vs

-- the change of a row: the assignments, NOT NULL of the assigned columns, and the CHECKs that mention one
abbrev pub updated : Table → List (ℕ × TypedExpr) → TableRow → Outcome Change
updated table set row =
    and_then (assignments table.columns set row.1) (λ values.
    let new = with_values row.1 values in
    if has_missing 0 table.columns set new then Err S23502
    else and_then (checked (checks_on set table.checks) new) (λ whole. Ok (record { key = row.0; fields = fields_from 0 set whole })))

abbrev pub change_of : Table → TypedChange → TableRow → Outcome Change
change_of table change row = if change.delete then Ok (record { key = row.0; fields = [] }) else updated table change.set row

-- the changes of the rows that WHERE keeps, keys ascending
unfoldable pub changes_of : Table → TypedChange → List TableRow → Outcome (List Change)
changes_of table change rows = and_then (kept_rows change.filter rows) (λ kept. all_of (map (change_of table change) kept))
