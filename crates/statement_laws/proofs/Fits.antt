-- What a typed statement says of tables, columns and rows fits the tables.
use Rattle.std.proofs.Common.{◌≡◌, ℕ, zero, suc, ◌+◌, ◌<◌, ◌==◌, Bool, true, false, List, [], ◌∷◌, ◌++◌, map, length, Option, Some, Ok, Err, subst, not, ◌&&◌, arith, refl, ap, ◌∙◌}
use Rattle.std.specs.Prelude.{slice_get, unwrap_or}
use Rattle.std.specs.Str.{bytes_eq}
use Rattle.std.specs.List.{list_any, AllByRecursion}
use Rattle.std.proofs.lemmas.Bool.{cond_both, and_parts, eqb-false, false≢true}
use Rattle.std.proofs.lemmas.List.{length-map}
use Rattle.cell_base.specs.declared.key.Key.{Key}
use Rattle.cell_base.specs.declared.sql_state.SqlState.TheVariants.{S23502, S23505, S42601, S42712, S54000}
use Rattle.cell_base.specs.declared.value.Value.{Value}
use Rattle.cell_base.specs.declared.value.Value.TheVariants as value
use Rattle.sql_tree.specs.declared.expr.Expr.{Expr}
use Rattle.sql_tree.specs.declared.statement.Delete.{Delete as DeleteTree}
use Rattle.sql_tree.specs.declared.statement.Insert.{Insert as InsertTree}
use Rattle.sql_tree.specs.declared.statement.Select.{Select as SelectTree}
use Rattle.sql_tree.specs.declared.statement.Statement.{Statement}
use Rattle.sql_tree.specs.declared.statement.Statement.TheVariants as tree
use Rattle.sql_tree.specs.declared.statement.TableRef.{TableRef}
use Rattle.sql_tree.specs.declared.statement.Update.{Update as UpdateTree}
use Rattle.sql_tree.specs.declared.table.Column.{Column}
use Rattle.sql_tree.specs.declared.table.Table.{Table}
use Rattle.sql_tree.specs.declared.typed.Typed.{Typed}
use Rattle.sql_tree.specs.declared.typed.Typed.TheVariants.{Select, Insert, Change}
use Rattle.sql_tree.specs.declared.typed.TypedChange.{TypedChange}
use Rattle.sql_tree.specs.declared.typed.TypedInsert.{TypedInsert}
use Rattle.sql_tree.specs.declared.typed.TypedSelect.{TypedSelect}
use Rattle.sql_tree.specs.declared.typed_expr.TypedExpr.{TypedExpr}
use Rattle.typing_rules.specs.Assignment.{assigned}
use Rattle.typing_rules.specs.Changes.{own_source, filter_of, assigned_from, set_values, update_reads, typed_update, typed_delete}
use Rattle.typing_rules.specs.Insert.{listed_from, row_targets, has_lengths, cells, value_at, typed_row, typed_insert}
use Rattle.typing_rules.specs.Mentions.{numbers_from, kept, columns_where, in_filter}
use Rattle.typing_rules.specs.Outcome.{and_then, all_of}
use Rattle.typing_rules.specs.Select as typing
use Rattle.typing_rules.specs.Sound.{Holds}
use Rattle.typing_rules.specs.Tables.{Numbered, Target, table_from, table_named, numbered_from, all_targets}
use Rattle.typing_rules.specs.Typed.{typed}
use Rattle.typing_rules.proofs.Numbers.{then_holds}
use Rattle.expr_eval.specs.Values.{value_of}
use Rattle.row_meaning.specs.Pictures.{TableRow}
use Rattle.row_meaning.specs.Storing.{has_no_missing, checked, stored}
use Rattle.row_meaning.specs.Insertion.{row_of, key_of, keyed_row, has_twice, is_key_below, placed, by_keys, rows_to_insert}
use Rattle.statement_laws.proofs.Inserting.{anything, all_hold, both, checked_holds}
use Rattle.statement_laws.specs.WholeRows.{IsField}

-- ---- tables by name

abbrev pub IsNumbered : List Table → Numbered → Type 0
IsNumbered tables n = slice_get tables n.number ≡ Some n.table

named_from : (tables : List Table) (name : List ℕ) (i : ℕ) (ts : List Table) → ((k : ℕ) → slice_get tables (i + k) ≡ slice_get ts k) →
    Holds (IsNumbered tables) (table_from name i ts)
named_from tables name i [] at = tt
named_from tables name i (t ∷ ts) at =
    cond_both (bytes_eq t.name name) (Ok (record { number = i; table = t })) (table_from name (i + 1) ts) (Holds (IsNumbered tables))
    (λ _. let here : i ≡ i + 0 = omega arith in ap (λ (n : ℕ). slice_get tables n) here ∙ at 0)
    (λ _. named_from tables name (i + 1) ts (λ k. let next : i + 1 + k ≡ i + suc k = omega arith in ap (λ (n : ℕ). slice_get tables n) next ∙ at (suc k)))

pub numbered : (tables : List Table) (name : List ℕ) → Holds (IsNumbered tables) (table_named tables name)
numbered tables name = named_from tables name 0 tables (λ k. let same : 0 + k ≡ k = omega arith in ap (λ (n : ℕ). slice_get tables n) same)

-- ---- columns that are mentioned

kept_all : (p : ℕ → Bool) (P : ℕ → Type 0) (i n : ℕ) → ((m : ℕ) → m < i + n → p m ≡ true → P m) → AllByRecursion P (kept p (numbers_from i n))
kept_all p P i zero f = tt
kept_all p P i (suc n) f =
    let more = kept_all p P (i + 1) n (λ m h e. f m (omega arith) e) in
    cond_both (p i) (i ∷ kept p (numbers_from (i + 1) n)) (kept p (numbers_from (i + 1) n)) (AllByRecursion P)
    (λ e. (f i (omega arith) e, more)) (λ _. more)

was_false : (b : Bool) → not b ≡ true → b ≡ false
was_false true e = absurd (false≢true e)
was_false false e = refl

abbrev pub AreFields : List Table → ℕ → List ℕ → Type 0
AreFields tables table = AllByRecursion (IsField tables table)

fields_where : (tables : List Table) (n : Numbered) (p : ℕ → Bool) → IsNumbered tables n → AreFields tables n.number (columns_where n.table p)
fields_where tables n p is =
    kept_all (λ c. not (c == n.table.key) && p c) (IsField tables n.number) 0 (length n.table.columns) (λ m within e. record {
      of_table = n.table;
      is = is;
      within = omega arith;
      apart = eqb-false m n.table.key (was_false (m == n.table.key) (and_parts (not (m == n.table.key)) (p m) e).0);
    })

-- ---- SELECT

abbrev pub EntryFits : List Table → typing.Entry → Type 0
EntryFits tables e = IsNumbered tables e.found

entries_fit : (tables : List Table) (before : List typing.Entry) (refs : List TableRef) → AllByRecursion (EntryFits tables) before →
    Holds (AllByRecursion (EntryFits tables)) (typing.entries_from tables before refs)
entries_fit tables before [] fit = fit
entries_fit tables before (r ∷ rs) fit =
    then_holds (IsNumbered tables) (AllByRecursion (EntryFits tables)) (table_named tables r.name) _ (numbered tables r.name) (λ t is.
    cond_both (list_any (λ e. bytes_eq e.name (typing.name_or r.name r.alias)) before) (Err S42712)
    (typing.entries_from tables (before ++ record { name = typing.name_or r.name r.alias; found = t } ∷ []) rs) (Holds (AllByRecursion (EntryFits tables)))
    (λ _. tt)
    (λ _. entries_fit tables (before ++ record { name = typing.name_or r.name r.alias; found = t } ∷ []) rs
    (both (EntryFits tables) before (record { name = typing.name_or r.name r.alias; found = t } ∷ []) fit (is, tt))))

entries_are : (tables : List Table) (refs : List TableRef) → Holds (AllByRecursion (EntryFits tables)) (typing.entries_of tables refs)
unfolding typing.entries_of
entries_are tables refs =
    cond_both _ (Err S54000) (typing.entries_from tables [] refs) (Holds (AllByRecursion (EntryFits tables))) (λ _. tt) (λ _. entries_fit tables [] refs tt)

-- each list of columns has fields of the table beside it
abbrev pub ColumnsFit : List Table → List ℕ → List (List ℕ) → Type 0
ColumnsFit tables (number ∷ numbers) (columns ∷ more) = AreFields tables number columns × ColumnsFit tables numbers more
ColumnsFit tables _ _ = Unit {0}

abbrev pub SelectFits : List Table → TypedSelect → Type 0
SelectFits tables t = ColumnsFit tables t.tables t.mentioned

mentioned_fit : (tables : List Table) (all : List typing.Entry) (exprs : List TypedExpr) (entries : List typing.Entry) → AllByRecursion (EntryFits tables) entries →
    ColumnsFit tables (map (λ e. e.found.number) entries) (map (typing.mentioned_of all exprs) entries)
mentioned_fit tables all exprs [] fit = tt
mentioned_fit tables all exprs (t ∷ ts) fit = (
  fields_where tables t.found (λ c. list_any (typing.mentions_table t.found.number c 0 all) exprs) fit.0,
  mentioned_fit tables all exprs ts fit.1,
)

select_fits : (tables : List Table) (s : SelectTree) → Holds (SelectFits tables) (typing.typed_select tables s)
unfolding typing.typed_select
select_fits tables s =
    then_holds (AllByRecursion (EntryFits tables)) (SelectFits tables) (typing.entries_of tables s.from) _ (entries_are tables s.from) (λ entries fit.
    then_holds (λ (ons : List TypedExpr). Unit {0}) (SelectFits tables) (typing.ons_of (typing.entry_sources entries) s.from) _ (anything (typing.ons_of (typing.entry_sources entries) s.from)) (λ ons _.
    then_holds (λ (filter : Option TypedExpr). Unit {0}) (SelectFits tables) (filter_of (typing.entry_sources entries) s.filter) _ (anything (filter_of (typing.entry_sources entries) s.filter)) (λ filter _.
    then_holds (λ (outputs : List typing.Output). Unit {0}) (SelectFits tables) (typing.items_from (typing.place_of (typing.has_aggregate s)) (typing.entry_sources entries) [] s.items) _
    (anything (typing.items_from (typing.place_of (typing.has_aggregate s)) (typing.entry_sources entries) [] s.items)) (λ outputs _.
    then_holds (λ (order : List (TypedExpr × Bool)). Unit {0}) (SelectFits tables) (typing.order_of (typing.has_aggregate s) (typing.entry_sources entries) outputs s.order) _
    (anything (typing.order_of (typing.has_aggregate s) (typing.entry_sources entries) outputs s.order)) (λ order _.
    mentioned_fit tables entries (ons ++ typing.option_list filter ++ map (λ (o : typing.Output). o.expr) outputs ++ map (λ (t : TypedExpr × Bool). t.0) order) entries fit)))))

-- ---- UPDATE and DELETE

abbrev pub ChangeFits : List Table → TypedChange → Type 0
ChangeFits tables t = AreFields tables t.table t.mentioned

update_fits : (tables : List Table) (s : UpdateTree) → Holds (ChangeFits tables) (typed_update tables s)
unfolding typed_update
update_fits tables s =
    then_holds (IsNumbered tables) (ChangeFits tables) (table_named tables s.table) _ (numbered tables s.table) (λ t is.
    then_holds (λ (targets : List Target). Unit {0}) (ChangeFits tables) (assigned_from t.table [] s.set) _ (anything (assigned_from t.table [] s.set)) (λ targets _.
    then_holds (λ (set : List (ℕ × TypedExpr)). Unit {0}) (ChangeFits tables) (set_values (own_source t.table) targets s.set) _ (anything (set_values (own_source t.table) targets s.set)) (λ set _.
    then_holds (λ (filter : Option TypedExpr). Unit {0}) (ChangeFits tables) (filter_of (own_source t.table) s.filter) _ (anything (filter_of (own_source t.table) s.filter)) (λ filter _.
    fields_where tables t (update_reads t.table set filter) is))))

delete_fits : (tables : List Table) (s : DeleteTree) → Holds (ChangeFits tables) (typed_delete tables s)
unfolding typed_delete
delete_fits tables s =
    then_holds (IsNumbered tables) (ChangeFits tables) (table_named tables s.table) _ (numbered tables s.table) (λ t is.
    then_holds (λ (filter : Option TypedExpr). Unit {0}) (ChangeFits tables) (filter_of (own_source t.table) s.filter) _ (anything (filter_of (own_source t.table) s.filter)) (λ filter _.
    fields_where tables t (λ c. in_filter 0 c filter) is))

-- ---- INSERT

-- one expression for each column
abbrev pub IsWide : Table → List TypedExpr → Type 0
IsWide table exprs = length exprs ≡ length table.columns

pub record InsertFits (tables : List Table) (t : TypedInsert) : Type 0 where
  pub of_table : Table
  pub is : slice_get tables t.table ≡ Some of_table
  pub wide : AllByRecursion (IsWide of_table) t.rows

length-numbered : (i : ℕ) (columns : List Column) → length (numbered_from i columns) ≡ length columns
length-numbered i [] = refl
length-numbered i (c ∷ cs) = ap suc (length-numbered (i + 1) cs)

row_wide : (table : Table) (listed : List Target) (row : List (Option Expr)) → Holds (IsWide table) (typed_row table listed row)
row_wide table listed row =
    then_holds (λ (es : List TypedExpr). Unit {0}) (IsWide table) (cells (row_targets table listed (length row)) row) _ (anything (cells (row_targets table listed (length row)) row))
    (λ es _. length-map (all_targets table.columns) (λ c. value_at c (row_targets table listed (length row)) es) ∙ length-numbered 0 table.columns)

insert_fits : (tables : List Table) (s : InsertTree) → Holds (InsertFits tables) (typed_insert tables s)
unfolding typed_insert
insert_fits tables s =
    then_holds (IsNumbered tables) (InsertFits tables) (table_named tables s.table) _ (numbered tables s.table) (λ t is.
    then_holds (λ (listed : List Target). Unit {0}) (InsertFits tables) (listed_from t.table.columns [] s.columns) _ (anything (listed_from t.table.columns [] s.columns)) (λ listed _.
    cond_both (has_lengths t.table listed s.rows) _ (Err S42601) (Holds (InsertFits tables))
    (λ _. then_holds (AllByRecursion (IsWide t.table)) (InsertFits tables) (all_of (map (typed_row t.table listed) s.rows)) _
    (all_hold (IsWide t.table) (typed_row t.table listed) s.rows (row_wide t.table listed))
    (λ rows wide. record { of_table = t.table; is = is; wide = wide }))
    (λ _. tt)))

-- ---- the rows of an INSERT

-- one value for each column
abbrev pub RowFits : Table → TableRow → Type 0
RowFits table row = length row.1 ≡ length table.columns

values_wide : (columns : List Column) (exprs : List TypedExpr) → length exprs ≡ length columns → Holds (λ (vs : List Value). length vs ≡ length columns) (row_of columns exprs)
values_wide [] [] same = refl
values_wide [] (e ∷ es) same = absurd (omega (arith, same))
values_wide (c ∷ cs) [] same = absurd (omega (arith, same))
values_wide (c ∷ cs) (e ∷ es) same =
    then_holds (λ (v : Value). Unit {0}) (λ (vs : List Value). length vs ≡ length (c ∷ cs)) (and_then (value_of e []) (assigned c.kind)) _
    (anything (and_then (value_of e []) (assigned c.kind)))
    (λ v _. then_holds (λ (vs : List Value). length vs ≡ length cs) (λ (vs : List Value). length vs ≡ length (c ∷ cs)) (row_of cs es) (λ vs. Ok (v ∷ vs))
    (values_wide cs es (omega (arith, same))) (λ vs h. ap suc h))

stored_wide : (table : Table) (row : List Value) → length row ≡ length table.columns →
    Holds (λ (vs : List Value). length vs ≡ length table.columns) (stored table.columns table.checks row)
stored_wide table row h =
    cond_both (has_no_missing table.columns row) (checked table.checks row) (Err S23502) (Holds (λ (vs : List Value). length vs ≡ length table.columns))
    (λ _. checked_holds (λ (vs : List Value). length vs ≡ length table.columns) table.checks row h) (λ _. tt)

keyed_fits : (table : Table) (exprs : List TypedExpr) → IsWide table exprs → Holds (RowFits table) (keyed_row table exprs)
keyed_fits table exprs wide =
    then_holds (λ (vs : List Value). length vs ≡ length table.columns) (RowFits table) (row_of table.columns exprs) _ (values_wide table.columns exprs wide)
    (λ made h. then_holds (λ (vs : List Value). length vs ≡ length table.columns) (RowFits table) (stored table.columns table.checks made) _
    (stored_wide table made h)
    (λ row hr. then_holds (λ (k : Key). Unit {0}) (RowFits table) (key_of (unwrap_or (slice_get row table.key) value.Null)) (λ k. Ok (k, row))
    (anything (key_of (unwrap_or (slice_get row table.key) value.Null))) (λ k _. hr)))

all_keyed : (table : Table) (rows : List (List TypedExpr)) → AllByRecursion (IsWide table) rows →
    Holds (AllByRecursion (RowFits table)) (all_of (map (keyed_row table) rows))
all_keyed table [] wide = tt
all_keyed table (row ∷ rows) wide =
    then_holds (RowFits table) (AllByRecursion (RowFits table)) (keyed_row table row) _ (keyed_fits table row wide.0)
    (λ y hy. then_holds (AllByRecursion (RowFits table)) (AllByRecursion (RowFits table)) (all_of (map (keyed_row table) rows)) (λ ys. Ok (y ∷ ys))
    (all_keyed table rows wide.1) (λ ys hys. (hy, hys)))

placed_fit : (table : Table) (row : TableRow) (rows : List TableRow) → RowFits table row → AllByRecursion (RowFits table) rows →
    AllByRecursion (RowFits table) (placed row rows)
placed_fit table row [] h hs = (h, tt)
placed_fit table row (other ∷ others) h hs =
    cond_both (is_key_below other.0 row.0) (other ∷ placed row others) (row ∷ other ∷ others) (AllByRecursion (RowFits table))
    (λ _. (hs.0, placed_fit table row others h hs.1)) (λ _. (h, hs))

in_order_fit : (table : Table) (rows : List TableRow) → AllByRecursion (RowFits table) rows → AllByRecursion (RowFits table) (by_keys rows)
in_order_fit table [] h = tt
in_order_fit table (row ∷ rows) h = placed_fit table row (by_keys rows) h.0 (in_order_fit table rows h.1)

pub rows_fit : (table : Table) (rows : List (List TypedExpr)) → AllByRecursion (IsWide table) rows → Holds (AllByRecursion (RowFits table)) (rows_to_insert table rows)
unfolding rows_to_insert
rows_fit table rows wide =
    then_holds (AllByRecursion (RowFits table)) (AllByRecursion (RowFits table)) (all_of (map (keyed_row table) rows)) _ (all_keyed table rows wide)
    (λ made h. cond_both (has_twice made) (Err S23505) (Ok (by_keys made)) (Holds (AllByRecursion (RowFits table))) (λ _. tt) (λ _. in_order_fit table made h))

-- ---- all of them

abbrev pub TypedFits : List Table → Typed → Type 0
TypedFits tables (Select t) = SelectFits tables t
TypedFits tables (Insert t) = InsertFits tables t
TypedFits tables (Change t) = ChangeFits tables t

statement_fits : (tables : List Table) (statement : Statement) → Holds (TypedFits tables) (typed tables statement)
statement_fits tables (tree.Select s) = then_holds (SelectFits tables) (TypedFits tables) (typing.typed_select tables s) _ (select_fits tables s) (λ t h. h)
statement_fits tables (tree.Insert s) = then_holds (InsertFits tables) (TypedFits tables) (typed_insert tables s) _ (insert_fits tables s) (λ t h. h)
statement_fits tables (tree.Update s) = then_holds (ChangeFits tables) (TypedFits tables) (typed_update tables s) _ (update_fits tables s) (λ t h. h)
statement_fits tables (tree.Delete s) = then_holds (ChangeFits tables) (TypedFits tables) (typed_delete tables s) _ (delete_fits tables s) (λ t h. h)
statement_fits tables _ = tt

pub fits : (tables : List Table) (statement : Statement) (t : Typed) → typed tables statement ≡ Ok t → TypedFits tables t
fits tables statement t is = subst (Holds (TypedFits tables)) is (statement_fits tables statement)
