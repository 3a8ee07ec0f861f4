-- The typing of SELECT (PostgreSQL's documentation, "SELECT").
use Rattle.std.specs.Prelude.{ℕ, zero, suc, ◌+◌, Bool, true, false, ◌&&◌, ◌||◌, ◌==◌, nat_lt, if◌then◌else◌, List, [], ◌∷◌, ◌++◌, map, length, take, codes, slice_get, Option, Some, None, is_some, Ok, Err, ℤ, pos, negsuc}
use Rattle.std.specs.List.{list_any}
use Rattle.std.specs.Str.{bytes_eq}
use Rattle.cell_base.specs.declared.key.Key.{Key}
use Rattle.cell_base.specs.declared.sql_state.SqlState.TheVariants.{S0A000, S42601, S42712, S42803, S54000}
use Rattle.sql_tree.specs.declared.expr.Expr.{Expr, fold-Expr, out-Expr}
use Rattle.sql_tree.specs.declared.expr.Expr.TheOpen.{Expr-F}
use Rattle.sql_tree.specs.declared.statement.Item.{Item}
use Rattle.sql_tree.specs.declared.statement.Item.TheVariants as item
use Rattle.sql_tree.specs.declared.statement.OrderTerm.{OrderTerm}
use Rattle.sql_tree.specs.declared.statement.Select.{Select}
use Rattle.sql_tree.specs.declared.statement.TableRef.{TableRef}
use Rattle.sql_tree.specs.declared.table.Column.{Column}
use Rattle.sql_tree.specs.declared.table.OutField.{OutField}
use Rattle.sql_tree.specs.declared.table.Table.{Table}
use Rattle.sql_tree.specs.declared.typed.TypedSelect.{TypedSelect}
use Rattle.sql_tree.specs.declared.typed_expr.TypedExpr.{TypedExpr}
use Rattle.sql_tree.specs.declared.typed_expr.TypedNode.TheVariants as node
use Rattle.typing_rules.specs.declared.place.Place.{Place}
use Rattle.typing_rules.specs.declared.place.Place.TheVariants.{Row, Group}
use Rattle.typing_rules.specs.Outcome.{Outcome, and_then, all_of}
use Rattle.typing_rules.specs.Operators.{aggregate_named}
use Rattle.typing_rules.specs.Names.{Source}
use Rattle.typing_rules.specs.Expressions.{typed_node, typing, flag}
use Rattle.typing_rules.specs.Expressions as forms
use Rattle.typing_rules.specs.Tables.{Numbered, table_named}
use Rattle.typing_rules.specs.Mentions.{mentions, columns_where}
use Rattle.typing_rules.specs.Points.{point_of}
use Rattle.typing_rules.specs.Changes.{filter_of}

-- ---- FROM

-- an entry: the name by which it is seen, and its table with its number
pub record Entry : Type 0 where
  pub name : List ℕ
  pub found : Numbered

abbrev pub name_or : List ℕ → Option (List ℕ) → List ℕ
name_or name None = name
name_or name (Some alias) = alias

-- the entries from left to right after those that stand before: an unknown table, and a name that stands twice
abbrev pub entries_from : List Table → List Entry → List TableRef → Outcome (List Entry)
entries_from tables before [] = Ok before
entries_from tables before (r ∷ rs) =
    and_then (table_named tables r.name) (λ t.
    let name = name_or r.name r.alias in
    if list_any (λ e. bytes_eq e.name name) before then Err S42712
    else entries_from tables (before ++ record { name = name; found = t } ∷ []) rs)

unfoldable pub entries_of : List Table → List TableRef → Outcome (List Entry)
entries_of tables from = if nat_lt 4 (length from) then Err S54000 else entries_from tables [] from

abbrev pub entry_source : Entry → Source
entry_source e = record { name = e.name; columns = e.found.table.columns }

abbrev pub entry_sources : List Entry → List Source
entry_sources = map entry_source

-- a condition of JOIN before the others, where it is written
abbrev pub on_before : List Source → Option Expr → Outcome (List TypedExpr) → Outcome (List TypedExpr)
on_before seen None others = others
on_before seen (Some e) others = and_then (flag seen e) (λ x. and_then others (λ xs. Ok (x ∷ xs)))

-- the conditions of JOIN, where the first entry is the one of this number, from 1: each sees the entries up to its own
abbrev pub ons_from : List Source → ℕ → List TableRef → Outcome (List TypedExpr)
ons_from sources seen [] = Ok []
ons_from sources seen (r ∷ rs) = on_before (take seen sources) r.on (ons_from sources (seen + 1) rs)

abbrev pub ons_of : List Source → List TableRef → Outcome (List TypedExpr)
ons_of sources from = ons_from sources 1 from

-- ---- aggregates

abbrev pub calls_aggregate_step : Expr-F Bool → Bool
calls_aggregate_step (Expr-F.Int n) = false
calls_aggregate_step (Expr-F.Str text) = false
calls_aggregate_step (Expr-F.Flag b) = false
calls_aggregate_step Expr-F.Null = false
calls_aggregate_step (Expr-F.Column qualifier name) = false
calls_aggregate_step (Expr-F.Call name None) = is_some (aggregate_named name)
calls_aggregate_step (Expr-F.Call name (Some a)) = is_some (aggregate_named name) || a
calls_aggregate_step (Expr-F.Neg a) = a
calls_aggregate_step (Expr-F.Not a) = a
calls_aggregate_step (Expr-F.IsNull a negated) = a
calls_aggregate_step (Expr-F.Binary op a b) = a || b
calls_aggregate_step (Expr-F.In a members negated) = a || list_any (λ m. m) members

-- whether an aggregate is called in an expression, whether or not the call has a type
abbrev pub calls_aggregate : Expr → Bool
calls_aggregate = fold-Expr Bool calls_aggregate_step

abbrev pub item_calls : Item → Bool
item_calls item.Star = false
item_calls (item.Expr e alias) = calls_aggregate e

-- a SELECT with an aggregate: one in its items or in ORDER BY
abbrev pub has_aggregate : Select → Bool
has_aggregate s = list_any item_calls s.items || list_any (λ (t : OrderTerm). calls_aggregate t.expr) s.order

abbrev pub place_of : Bool → Place
place_of true = Group
place_of false = Row

-- ---- items

-- a column of the result
pub record Output : Type 0 where
  pub name : List ℕ
  pub expr : TypedExpr

abbrev pub column_outputs : ℕ → ℕ → List Column → List Output
column_outputs e c [] = []
column_outputs e c (x ∷ xs) = record { name = x.name; expr = typed_node x.kind (node.Column e c) } ∷ column_outputs e (c + 1) xs

-- all columns of all entries, where the entries are numbered from this one on
abbrev pub star_outputs : ℕ → List Source → List Output
star_outputs e [] = []
star_outputs e (s ∷ ss) = column_outputs e 0 s.columns ++ star_outputs (e + 1) ss

-- the alias, else the column's name, else the function's, else `?column?`
abbrev pub plain_name : Expr-F Expr → List ℕ
plain_name (Expr-F.Column qualifier name) = name
plain_name (Expr-F.Call name a) = name
plain_name _ = codes "?column?"

abbrev pub star_of : Place → List Source → Outcome (List Output)
star_of place [] = Err S42601
star_of Row (s ∷ ss) = Ok (star_outputs 0 (s ∷ ss))
star_of Group (s ∷ ss) = Err S42803

-- how many columns an item has
abbrev pub width : List Source → Item → ℕ
width sources item.Star = length (star_outputs 0 sources)
width sources (item.Expr e alias) = 1

abbrev pub outputs_of : Place → List Source → Item → Outcome (List Output)
outputs_of place sources item.Star = star_of place sources
outputs_of place sources (item.Expr e alias) =
    and_then (typing sources e place) (λ x. and_then (forms.item x) (λ t. Ok (record { name = name_or (plain_name (out-Expr e)) alias; expr = t } ∷ [])))

-- the columns of the result after those that stand before; more than 1,664 are 54000 before the item is typed
abbrev pub items_from : Place → List Source → List Output → List Item → Outcome (List Output)
items_from place sources before [] = Ok before
items_from place sources before (i ∷ is) =
    if nat_lt 1664 (length before + width sources i) then Err S54000
    else and_then (outputs_of place sources i) (λ os. items_from place sources (before ++ os) is)

-- ---- ORDER BY

abbrev pub expr_or : Outcome TypedExpr → Option Output → Outcome TypedExpr
expr_or other (Some o) = Ok o.expr
expr_or other None = other

-- the first column of the result of this name
abbrev pub output_named : List ℕ → List Output → Option Output
output_named name [] = None
output_named name (o ∷ os) = if bytes_eq o.name name then Some o else output_named name os

abbrev pub ordinary : List Source → Expr → Outcome TypedExpr
ordinary sources e = and_then (typing sources e Row) forms.item

-- a position from 1
abbrev pub at_position : List Output → ℤ → Outcome TypedExpr
at_position outputs (pos zero) = Err S42601
at_position outputs (pos (suc n)) = expr_or (Err S42601) (slice_get outputs n)
at_position outputs (negsuc n) = Err S42601

abbrev pub term_at : List Source → List Output → Expr → Expr-F Expr → Outcome TypedExpr
term_at sources outputs e (Expr-F.Int n) = at_position outputs n
term_at sources outputs e (Expr-F.Column None name) = expr_or (ordinary sources e) (output_named name outputs)
term_at sources outputs e _ = ordinary sources e

abbrev pub term_of : List Source → List Output → OrderTerm → Outcome (TypedExpr × Bool)
term_of sources outputs t = and_then (term_at sources outputs t.expr (out-Expr t.expr)) (λ x. Ok (x, t.descending))

-- With an aggregate, ORDER BY is 0A000 at its first term.
abbrev pub order_of : Bool → List Source → List Output → List OrderTerm → Outcome (List (TypedExpr × Bool))
order_of grouped sources outputs [] = Ok []
order_of true sources outputs (t ∷ ts) = Err S0A000
order_of false sources outputs (t ∷ ts) = all_of (map (term_of sources outputs) (t ∷ ts))

-- ---- what is read

-- whether an expression mentions the column in any entry of the table of this number, where the entries are numbered from this one on
abbrev pub mentions_table : ℕ → ℕ → ℕ → List Entry → TypedExpr → Bool
mentions_table table c e [] x = false
mentions_table table c e (t ∷ ts) x = (t.found.number == table && mentions e c x) || mentions_table table c (e + 1) ts x

abbrev pub times_mentioned : ℕ → List Entry → ℕ
times_mentioned table [] = 0
times_mentioned table (t ∷ ts) = (if t.found.number == table then 1 else 0) + times_mentioned table ts

-- the columns of the entry's table that the SELECT mentions, but for its key
abbrev pub mentioned_of : List Entry → List TypedExpr → Entry → List ℕ
mentioned_of entries exprs t = columns_where t.found.table (λ c. list_any (mentions_table t.found.number c 0 entries) exprs)

-- the key at which an entry is read, where its table stands once in FROM
abbrev pub points_from : List Entry → Option TypedExpr → ℕ → List Entry → List (Option Key)
points_from all filter e [] = []
points_from all filter e (t ∷ ts) =
    (if times_mentioned t.found.number all == 1 then point_of e t.found.table.key filter else None) ∷ points_from all filter (e + 1) ts

-- ---- the whole

abbrev pub field_of : Output → OutField
field_of o = record { name = o.name; kind = o.expr.kind }

abbrev pub option_list : {A : Type 0} → Option A → List A
option_list None = []
option_list (Some a) = a ∷ []

abbrev pub offset_of : Option ℤ → ℤ
offset_of None = pos 0
offset_of (Some n) = n

unfoldable pub typed_select : List Table → Select → Outcome TypedSelect
typed_select tables s =
    and_then (entries_of tables s.from) (λ entries.
    let sources = entry_sources entries in
    and_then (ons_of sources s.from) (λ ons.
    and_then (filter_of sources s.filter) (λ filter.
    and_then (items_from (place_of (has_aggregate s)) sources [] s.items) (λ outputs.
    and_then (order_of (has_aggregate s) sources outputs s.order) (λ order.
    let exprs = ons ++ option_list filter ++ map (λ o. o.expr) outputs ++ map (λ t. t.0) order in
    Ok (record {
      fields = map field_of outputs;
      tables = map (λ e. e.found.number) entries;
      mentioned = map (mentioned_of entries exprs) entries;
      points = points_from entries filter 0 entries;
      conditions = ons ++ option_list filter;
      items = map (λ o. o.expr) outputs;
      order = order;
      aggregate = has_aggregate s;
      limit = s.limit;
      offset = offset_of s.offset;
    }))))))
