-- The values of the rows that an INSERT makes are ones that a cell may hold.
use Rattle.std.proofs.Common.{ℕ, ◌+◌, ◌<◌, ◌==◌, Bool, true, List, [], ◌∷◌, ◌++◌, length, map, Ok, Err, ◌||◌}
use Rattle.std.specs.Prelude.{nat_le, slice_get, unwrap_or, encode_utf8_all, take, drop, chars}
use Rattle.std.specs.List.{AllByRecursion}
use Rattle.std.proofs.lemmas.Bool.{cond_both}
use Rattle.cell_base.specs.declared.key.Key.{Key}
use Rattle.cell_base.specs.declared.sql_state.SqlState.TheVariants.{S22001, S22003, S23502, S23505, S23514, S54000}
use Rattle.cell_base.specs.declared.sql_type.SqlType.{SqlType}
use Rattle.cell_base.specs.declared.sql_type.SqlType.TheVariants.{Boolean, Integer, Bigint, Text, Varchar}
use Rattle.cell_base.specs.declared.value.Value.{Value}
use Rattle.cell_base.specs.declared.value.Value.TheVariants as value
use Rattle.sql_tree.specs.declared.table.Column.{Column}
use Rattle.sql_tree.specs.declared.table.Table.{Table}
use Rattle.sql_tree.specs.declared.typed_expr.TypedExpr.{TypedExpr}
use Rattle.typing_rules.specs.Assignment.{stored_text, are_spaces, limited_text, assigned}
use Rattle.typing_rules.specs.Kinds.{fits}
use Rattle.typing_rules.specs.Outcome.{Outcome, and_then, all_of}
use Rattle.typing_rules.specs.Sound.{Holds}
use Rattle.typing_rules.proofs.Numbers.{then_holds}
use Rattle.expr_eval.specs.Values.{value_of}
use Rattle.row_meaning.specs.Pictures.{TableRow}
use Rattle.row_meaning.specs.Storing.{is_false, has_no_missing, checked, stored}
use Rattle.row_meaning.specs.Insertion.{row_of, key_of, keyed_row, has_twice, is_key_below, placed, by_keys, rows_to_insert}
use Rattle.statement_course.specs.Laws.{MayStand}
use Rattle.statement_course.specs.Writing.{fields_of, inserts}
use Rattle.statement_laws.proofs.ReadingFirst.{IsWritable}

-- ---- what a statement comes to

pub anything : {A : Type 0} (o : Outcome A) → Holds (λ (a : A). Unit {0}) o
anything (Ok a) = tt
anything (Err code) = tt

pub all_hold : {A B : Type 0} (P : B → Type 0) (f : A → Outcome B) (xs : List A) → ((a : A) → Holds P (f a))
    → Holds (AllByRecursion P) (all_of (map f xs))
all_hold P f [] h = tt
all_hold P f (x ∷ xs) h =
    then_holds P (AllByRecursion P) (f x) _ (h x)
    (λ y hy. then_holds (AllByRecursion P) (AllByRecursion P) (all_of (map f xs)) (λ ys. Ok (y ∷ ys)) (all_hold P f xs h) (λ ys hys. (hy, hys)))

pub both : {A : Type 0} (P : A → Type 0) (xs ys : List A) → AllByRecursion P xs → AllByRecursion P ys → AllByRecursion P (xs ++ ys)
both P [] ys h k = k
both P (x ∷ xs) ys h k = (h.0, both P xs ys h.1 k)

-- ---- values

null_stands : MayStand value.Null
null_stands = (λ e. cc, λ wide e. cc)

pub flag_stands : (flag : Bool) → MayStand (value.Flag flag)
flag_stands flag = (λ e. cc, λ wide e. cc)

stored_stands : (text : List ℕ) → Holds MayStand (stored_text text)
stored_stands text =
    cond_both (nat_le (length text) 65536) (Ok (value.Text text)) (Err S54000) (Holds MayStand) (λ _. (λ e. cc, λ wide e. cc)) (λ _. tt)

limited_stands : (limit : ℕ) (text : List ℕ) → Holds MayStand (limited_text limit text)
limited_stands limit text =
    cond_both (limit == 0 || nat_le (length (chars text)) limit) _ _ (Holds MayStand) (λ _. stored_stands text)
    (λ _. cond_both (are_spaces (drop limit (chars text))) _ (Err S22001) (Holds MayStand)
    (λ _. stored_stands (encode_utf8_all (take limit (chars text)))) (λ _. tt))

pub assigned_stands : (kind : SqlType) (v : Value) → Holds MayStand (assigned kind v)
assigned_stands kind value.Unset = null_stands
assigned_stands kind value.Null = null_stands
assigned_stands Boolean (value.Flag flag) = flag_stands flag
assigned_stands Integer (value.Int n) =
    cond_both (fits Integer n) (Ok (value.Int n)) (Err S22003) (Holds MayStand) (λ _. (λ e. cc, λ wide e. cc)) (λ _. tt)
assigned_stands Bigint (value.Int n) = (λ e. cc, λ wide e. cc)
assigned_stands Text (value.Text text) = stored_stands text
assigned_stands (Varchar limit) (value.Text text) = limited_stands limit text
assigned_stands _ _ = tt

-- ---- rows

abbrev pub AllStand : List Value → Type 0
AllStand = AllByRecursion MayStand

row_stands : (columns : List Column) (exprs : List TypedExpr) → Holds AllStand (row_of columns exprs)
row_stands (c ∷ cs) (e ∷ es) =
    then_holds MayStand AllStand (and_then (value_of e []) (assigned c.kind)) _
    (then_holds (λ (v : Value). Unit {0}) MayStand (value_of e []) (assigned c.kind) (anything (value_of e [])) (λ v _. assigned_stands c.kind v))
    (λ v hv. then_holds AllStand AllStand (row_of cs es) (λ vs. Ok (v ∷ vs)) (row_stands cs es) (λ vs hvs. (hv, hvs)))
row_stands _ _ = tt

-- a row that passes its CHECKs is as it was
pub checked_holds : (P : List Value → Type 0) (checks : List TypedExpr) (row : List Value) → P row → Holds P (checked checks row)
checked_holds P [] row h = h
checked_holds P (check ∷ checks) row h =
    then_holds (λ (v : Value). Unit {0}) P (value_of check (row ∷ [])) _ (anything (value_of check (row ∷ [])))
    (λ v _. cond_both (is_false v) (Err S23514) (checked checks row) (Holds P) (λ _. tt) (λ _. checked_holds P checks row h))

stored_holds : (P : List Value → Type 0) (columns : List Column) (checks : List TypedExpr) (row : List Value) → P row → Holds P (stored columns checks row)
stored_holds P columns checks row h =
    cond_both (has_no_missing columns row) (checked checks row) (Err S23502) (Holds P) (λ _. checked_holds P checks row h) (λ _. tt)

abbrev pub RowStands : TableRow → Type 0
RowStands row = AllStand row.1

keyed_stands : (table : Table) (exprs : List TypedExpr) → Holds RowStands (keyed_row table exprs)
keyed_stands table exprs =
    then_holds AllStand RowStands (row_of table.columns exprs) _ (row_stands table.columns exprs)
    (λ made h. then_holds AllStand RowStands (stored table.columns table.checks made) _ (stored_holds AllStand table.columns table.checks made h)
    (λ row hr. then_holds (λ (k : Key). Unit {0}) RowStands (key_of (unwrap_or (slice_get row table.key) value.Null)) (λ k. Ok (k, row))
    (anything (key_of (unwrap_or (slice_get row table.key) value.Null))) (λ k _. hr)))

-- ---- all rows

abbrev pub RowsStand : List TableRow → Type 0
RowsStand = AllByRecursion RowStands

placed_stand : (row : TableRow) (rows : List TableRow) → RowStands row → RowsStand rows → RowsStand (placed row rows)
placed_stand row [] h hs = (h, tt)
placed_stand row (other ∷ others) h hs =
    cond_both (is_key_below other.0 row.0) (other ∷ placed row others) (row ∷ other ∷ others) RowsStand
    (λ _. (hs.0, placed_stand row others h hs.1)) (λ _. (h, hs))

in_order_stand : (rows : List TableRow) → RowsStand rows → RowsStand (by_keys rows)
in_order_stand [] h = tt
in_order_stand (row ∷ rows) h = placed_stand row (by_keys rows) h.0 (in_order_stand rows h.1)

pub rows_stand : (table : Table) (rows : List (List TypedExpr)) → Holds RowsStand (rows_to_insert table rows)
unfolding rows_to_insert
rows_stand table rows =
    then_holds RowsStand RowsStand (all_of (map (keyed_row table) rows)) _ (all_hold RowStands (keyed_row table) rows (keyed_stands table))
    (λ made h. cond_both (has_twice made) (Err S23505) (Ok (by_keys made)) (Holds RowsStand) (λ _. tt) (λ _. in_order_stand made h))

-- ---- what is written

fields_writable : (n table : ℕ) (key : Key) (key_column i : ℕ) (vs : List Value) → table < n → AllStand vs
    → AllByRecursion (IsWritable n) (fields_of table key key_column i vs)
fields_writable n table key key_column i [] within h = tt
fields_writable n table key key_column i (v ∷ vs) within h =
    let rest = fields_writable n table key key_column (i + 1) vs within h.1 in
    cond_both (i == key_column) _ _ (AllByRecursion (IsWritable n)) (λ _. rest) (λ _. (record { within = within; stands = h.0 }, rest))

pub inserts_writable : (n table key_column : ℕ) (rows : List TableRow) → table < n → RowsStand rows
    → AllByRecursion (IsWritable n) (inserts table key_column rows)
inserts_writable n table key_column [] within h = tt
inserts_writable n table key_column (row ∷ rows) within h = (
  record { within = within; stands = flag_stands true },
  both (IsWritable n) (fields_of table row.0 key_column 0 row.1) (inserts table key_column rows)
      (fields_writable n table row.0 key_column 0 row.1 within h.0) (inserts_writable n table key_column rows within h.1),
)
