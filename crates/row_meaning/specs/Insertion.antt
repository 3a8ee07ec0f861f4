-- The rows that an INSERT makes (PostgreSQL's documentation, "INSERT").
use Rattle.std.specs.Prelude.{Bool, false, ◌||◌, if◌then◌else◌, List, [], ◌∷◌, map, slice_get, unwrap_or, Ok, Err}
use Rattle.std.specs.List.{list_any}
use Rattle.std.specs.Ordering.{is_lt}
use Rattle.cell_base.specs.declared.key.Key.{Key}
use Rattle.cell_base.specs.declared.key.Key.TheVariants as key
use Rattle.cell_base.specs.contracts.key.KeyPartialEq.TheImpl as key_eq
use Rattle.cell_base.specs.contracts.key.KeyOrd.TheImpl as key_ord
use Rattle.cell_base.specs.declared.sql_state.SqlState.TheVariants.{S23502, S23505}
use Rattle.cell_base.specs.declared.value.Value.{Value}
use Rattle.cell_base.specs.declared.value.Value.TheVariants as value
use Rattle.sql_tree.specs.declared.table.Column.{Column}
use Rattle.sql_tree.specs.declared.table.Table.{Table}
use Rattle.sql_tree.specs.declared.typed_expr.TypedExpr.{TypedExpr}
use Rattle.typing_rules.specs.Outcome.{Outcome, and_then, all_of}
use Rattle.typing_rules.specs.Assignment.{assigned}
use Rattle.expr_eval.specs.Values.{value_of}
use Rattle.row_meaning.specs.Pictures.{TableRow}
use Rattle.row_meaning.specs.Storing.{stored}

-- the values of a row, each as one of its column's type; an expression of VALUES sees no row
abbrev pub row_of : List Column → List TypedExpr → Outcome (List Value)
row_of (c ∷ cs) (e ∷ es) = and_then (and_then (value_of e []) (assigned c.kind)) (λ v. and_then (row_of cs es) (λ vs. Ok (v ∷ vs)))
row_of _ _ = Ok []

-- the key that a value is; a key is never null
abbrev pub key_of : Value → Outcome Key
key_of (value.Int n) = Ok (key.Int n)
key_of (value.Text text) = Ok (key.Text text)
key_of _ = Err S23502

-- a row with its key
abbrev pub keyed_row : Table → List TypedExpr → Outcome TableRow
keyed_row table exprs =
    and_then (row_of table.columns exprs) (λ made.
    and_then (stored table.columns table.checks made) (λ row.
    and_then (key_of (unwrap_or (slice_get row table.key) value.Null)) (λ k. Ok (k, row))))

abbrev pub same_key : Key → Key → Bool
same_key = (key_eq.ghosts).eq

abbrev pub is_key_below : Key → Key → Bool
is_key_below a b = is_lt ((key_ord.ghosts).cmp a b)

-- whether a key stands twice
abbrev pub has_twice : List TableRow → Bool
has_twice [] = false
has_twice (row ∷ rows) = list_any (λ (other : TableRow). same_key row.0 other.0) rows || has_twice rows

-- a row among others that are in order
abbrev pub placed : TableRow → List TableRow → List TableRow
placed row [] = row ∷ []
placed row (other ∷ others) = if is_key_below other.0 row.0 then other ∷ placed row others else row ∷ other ∷ others

-- by keys, ascending
abbrev pub by_keys : List TableRow → List TableRow
by_keys [] = []
by_keys (row ∷ rows) = placed row (by_keys rows)

-- The rows, keys ascending. All rows are made and tested, in text order, before a key that stands twice is refused.
unfoldable pub rows_to_insert : Table → List (List TypedExpr) → Outcome (List TableRow)
rows_to_insert table rows =
    and_then (all_of (map (keyed_row table) rows)) (λ made. if has_twice made then Err S23505 else Ok (by_keys made))
