-- The typing of INSERT (PostgreSQL's documentation, "INSERT").
use Rattle.std.specs.Prelude.{ℕ, Bool, ◌&&◌, ◌==◌, nat_le, if◌then◌else◌, List, [], ◌∷◌, ◌++◌, map, length, take, Option, Ok, Err}
use Rattle.std.specs.List.{list_all}
use Rattle.cell_base.specs.declared.sql_state.SqlState.TheVariants.{S42601, S42701}
use Rattle.sql_tree.specs.declared.expr.Expr.{Expr}
use Rattle.sql_tree.specs.declared.statement.Insert.{Insert}
use Rattle.sql_tree.specs.declared.table.Column.{Column}
use Rattle.sql_tree.specs.declared.table.Table.{Table}
use Rattle.sql_tree.specs.declared.typed.TypedInsert.{TypedInsert}
use Rattle.sql_tree.specs.declared.typed_expr.TypedExpr.{TypedExpr}
use Rattle.sql_tree.specs.declared.typed_expr.TypedNode.TheVariants as node
use Rattle.typing_rules.specs.Outcome.{Outcome, and_then, all_of}
use Rattle.typing_rules.specs.Expressions.{typed_node}
use Rattle.typing_rules.specs.Tables.{table_named, Target, target_named, all_targets, is_among}
use Rattle.typing_rules.specs.Given.{cell}

-- the columns of a written list, after those that stand before: unknown 42703, twice 42701
abbrev pub listed_from : List Column → List Target → List (List ℕ) → Outcome (List Target)
listed_from columns before [] = Ok before
listed_from columns before (name ∷ names) =
    and_then (target_named columns name) (λ t. if is_among t.number before then Err S42701 else listed_from columns (before ++ t ∷ []) names)

abbrev pub first_length : List (List (Option Expr)) → ℕ
first_length [] = 0
first_length (row ∷ rows) = length row

-- the columns that a row's values go to
abbrev pub row_targets : Table → List Target → ℕ → List Target
row_targets t [] count = take count (all_targets t.columns)
row_targets t (l ∷ ls) count = l ∷ ls

-- each row has as many values as the first, no more than there are columns, and as many as a written list has
abbrev pub has_lengths : Table → List Target → List (List (Option Expr)) → Bool
has_lengths t [] rows = list_all (λ row. length row == first_length rows && nat_le (length row) (length t.columns)) rows
has_lengths t (l ∷ ls) rows = list_all (λ row. length row == length (l ∷ ls)) rows

abbrev pub cells : List Target → List (Option Expr) → Outcome (List TypedExpr)
cells [] es = Ok []
cells (t ∷ ts) [] = Ok []
cells (t ∷ ts) (e ∷ es) = and_then (cell [] t.column e) (λ x. and_then (cells ts es) (λ xs. Ok (x ∷ xs)))

-- the expression that goes to a column, or its default
abbrev pub value_at : Target → List Target → List TypedExpr → TypedExpr
value_at c [] es = typed_node c.column.kind (node.Constant c.column.default)
value_at c (t ∷ ts) [] = typed_node c.column.kind (node.Constant c.column.default)
value_at c (t ∷ ts) (e ∷ es) = if c.number == t.number then e else value_at c ts es

-- one expression for each column, in order of declaration
abbrev pub typed_row : Table → List Target → List (Option Expr) → Outcome (List TypedExpr)
typed_row t listed row =
    let targets = row_targets t listed (length row) in
    and_then (cells targets row) (λ es. Ok (map (λ c. value_at c targets es) (all_targets t.columns)))

unfoldable pub typed_insert : List Table → Insert → Outcome TypedInsert
typed_insert tables insert =
    and_then (table_named tables insert.table) (λ t.
    and_then (listed_from t.table.columns [] insert.columns) (λ listed.
    if has_lengths t.table listed insert.rows then
    and_then (all_of (map (typed_row t.table listed) insert.rows)) (λ rows. Ok (record { table = t.number; rows = rows }))
    else Err S42601))
