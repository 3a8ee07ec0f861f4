-- The course of a typed statement writes fields of its table alone.
use Rattle.std.proofs.Common.{◌≡◌, ℕ, zero, suc, ◌+◌, ◌<◌, ◌==◌, Bool, true, false, List, [], ◌∷◌, ◌++◌, length, map, slice_index_or, Option, Some, None, Ok, Err, sym, subst, arith}
use Rattle.std.specs.Prelude.{slice_get}
use Rattle.std.specs.List.{AllByRecursion}
use Rattle.std.proofs.lemmas.Bool.{cond_both, eqb-true, eqb-false}
use Rattle.std.proofs.lemmas.List.Folds.{Any-from_list_any}
use Rattle.cell_base.specs.declared.cell.Cell.{Cell}
use Rattle.cell_base.specs.declared.cell.Cell.TheVariants.{Presence, Field}
use Rattle.cell_base.specs.declared.key.Key.{Key}
use Rattle.cell_base.specs.declared.sql_state.SqlState.TheVariants.{S23502}
use Rattle.cell_base.specs.declared.value.Value.{Value}
use Rattle.sql_tree.specs.declared.statement.Statement.{Statement}
use Rattle.sql_tree.specs.declared.table.Table.{Table}
use Rattle.sql_tree.specs.declared.typed.Typed.{Typed}
use Rattle.sql_tree.specs.declared.typed.Typed.TheVariants.{Select, Insert, Change}
use Rattle.sql_tree.specs.declared.typed.TypedChange.{TypedChange}
use Rattle.sql_tree.specs.declared.typed.TypedInsert.{TypedInsert}
use Rattle.sql_tree.specs.declared.typed_expr.TypedExpr.{TypedExpr}
use Rattle.typing_rules.specs.Outcome.{Outcome as Result}
use Rattle.typing_rules.specs.Sound.{Holds}
use Rattle.typing_rules.specs.Typed.{typed}
use Rattle.typing_rules.proofs.Numbers.{then_holds}
use Rattle.row_meaning.specs.declared.picture.TableRows.{TableRows}
use Rattle.row_meaning.specs.Combinations.{is_true}
use Rattle.row_meaning.specs.Pictures.{TableRow, shown_of, with_values}
use Rattle.row_meaning.specs.Insertion.{rows_to_insert}
use Rattle.row_meaning.specs.Storing.{checked}
use Rattle.row_meaning.specs.Changes.{kept_rows, assignments, is_assigned, has_missing, checks_on, fields_from, updated, change_of, changes_of}
use Rattle.row_meaning.specs.Changes as changes
use Rattle.statement_course.specs.Course.{Course, scan, touch, write, done}
use Rattle.statement_course.specs.Reading.{Part, read_columns, read_row, read_rows, read_keys, read_parts}
use Rattle.statement_course.specs.Statements.{parts_of_select, course_of_rows, course_of_insert, part_of_change, course_of_changes, course_of_change, course_of}
use Rattle.statement_course.specs.Writing.{write_all, read_presences, insert_rows, fields_of, inserts, updates_of, updates, deletes}
use Rattle.statement_course.specs.declared.demand.Outcome.TheVariants.{Updated, Deleted, Inserted}
use Rattle.statement_laws.proofs.Inserting.{anything, all_hold, both}
use Rattle.statement_laws.specs.WholeRows.{IsField}
use Rattle.statement_laws.proofs.Fits.{RowFits, InsertFits, rows_fit, fits}
use Rattle.program_laws.proofs.SetColumns.{IsSettable, AreSettable, SetsFields, change_sets}

-- a field is one of its table
abbrev pub IsFieldIn : List Table → Cell → Type 0
IsFieldIn tables (Presence table key) = Unit {0}
IsFieldIn tables (Field table key column) = IsField tables table column

-- each field that the course writes is one of its table
abbrev pub WritesFields : List Table → Course → Type 0
WritesFields tables (scan table rest) = (keys : List Key) → WritesFields tables (rest keys)
WritesFields tables (touch cell rest) = (value : Value) → WritesFields tables (rest value)
WritesFields tables (write cell value rest) = IsFieldIn tables cell × WritesFields tables rest
WritesFields tables (done outcome) = Unit {0}

-- ---- what is read

columns_on : (tables : List Table) (table : ℕ) (key : Key) (columns : List ℕ) (read : List (ℕ × Value)) (rest : List (ℕ × Value) → Course) →
    ((more : List (ℕ × Value)) → WritesFields tables (rest more)) → WritesFields tables (read_columns table key columns read rest)
columns_on tables table key [] read rest on = on read
columns_on tables table key (column ∷ columns) read rest on = λ v. columns_on tables table key columns (read ++ (column, v) ∷ []) rest on

row_on : (tables : List Table) (part : Part) (key : Key) (found : List TableRow) (rest : List TableRow → Course) →
    ((rows : List TableRow) → WritesFields tables (rest rows)) → WritesFields tables (read_row part key found rest)
row_on tables part key found rest on = λ present.
    cond_both (is_true present) _ (rest found) (WritesFields tables)
    (λ _. columns_on tables part.table key part.columns [] _ (λ read. on _)) (λ _. on found)

rows_on : (tables : List Table) (part : Part) (keys : List Key) (found : List TableRow) (rest : List TableRow → Course) →
    ((rows : List TableRow) → WritesFields tables (rest rows)) → WritesFields tables (read_rows part keys found rest)
rows_on tables part [] found rest on = on found
rows_on tables part (key ∷ keys) found rest on = row_on tables part key found _ (λ rows. rows_on tables part keys rows rest on)

keys_on : (tables : List Table) (table : ℕ) (point : Option Key) (rest : List Key → Course) → ((keys : List Key) → WritesFields tables (rest keys)) →
    WritesFields tables (read_keys table point rest)
keys_on tables table None rest on = on
keys_on tables table (Some key) rest on = on (key ∷ [])

parts_on : (tables : List Table) (parts : List Part) (picture : List TableRows) (rest : List TableRows → Course) →
    ((more : List TableRows) → WritesFields tables (rest more)) → WritesFields tables (read_parts parts picture rest)
parts_on tables [] picture rest on = on picture
parts_on tables (part ∷ parts) picture rest on =
    keys_on tables part.table part.point _ (λ keys. rows_on tables part keys [] _ (λ rows. parts_on tables parts _ rest on))

presences_on : (tables : List Table) (table : ℕ) (keys : List Key) (found : Bool) (rest : Bool → Course) → ((b : Bool) → WritesFields tables (rest b)) →
    WritesFields tables (read_presences table keys found rest)
presences_on tables table [] found rest on = on found
presences_on tables table (key ∷ keys) found rest on = λ present. presences_on tables table keys _ rest on

-- ---- what is written

abbrev IsFit : List Table → Cell × Value → Type 0
IsFit tables w = IsFieldIn tables w.0

all_on : (tables : List Table) (writes : List (Cell × Value)) (rest : Course) → AllByRecursion (IsFit tables) writes → WritesFields tables rest →
    WritesFields tables (write_all writes rest)
all_on tables [] rest fit on = on
all_on tables (w ∷ ws) rest fit on = (fit.0, all_on tables ws rest fit.1 on)

fields_fit : (tables : List Table) (number : ℕ) (table : Table) (key : Key) (i : ℕ) (values : List Value) → slice_get tables number ≡ Some table →
    i + length values ≡ length table.columns → AllByRecursion (IsFit tables) (fields_of number key table.key i values)
fields_fit tables number table key i [] is same = tt
fields_fit tables number table key i (v ∷ vs) is same =
    let rest : AllByRecursion (IsFit tables) (fields_of number key table.key (i + 1) vs) = fields_fit tables number table key (i + 1) vs is (omega (arith, same)) in
    cond_both (i == table.key) (fields_of number key table.key (i + 1) vs) ((Field number key i, v) ∷ fields_of number key table.key (i + 1) vs)
    (AllByRecursion (IsFit tables)) (λ _. rest)
    (λ apart. (record { of_table = table; is = is; within = omega (arith, same); apart = eqb-false i table.key apart }, rest))

inserts_fit : (tables : List Table) (number : ℕ) (table : Table) (rows : List TableRow) → slice_get tables number ≡ Some table →
    AllByRecursion (RowFits table) rows → AllByRecursion (IsFit tables) (inserts number table.key rows)
inserts_fit tables number table [] is fit = tt
inserts_fit tables number table (row ∷ rows) is fit = (
  tt,
  both (IsFit tables) (fields_of number row.0 table.key 0 row.1) (inserts number table.key rows)
      (fields_fit tables number table row.0 0 row.1 is (let wide : length row.1 ≡ length table.columns = fit.0 in omega (arith, wide)))
      (inserts_fit tables number table rows is fit.1),
)

-- each field of a change is one that can be set
abbrev SetsAll : Table → changes.Change → Type 0
SetsAll table change = AllByRecursion (λ (f : ℕ × Value). IsSettable table f.0) change.fields

update_fits : (tables : List Table) (number : ℕ) (table : Table) (key : Key) (fields : List (ℕ × Value)) → slice_get tables number ≡ Some table →
    AllByRecursion (λ (f : ℕ × Value). IsSettable table f.0) fields → AllByRecursion (IsFit tables) (map (λ (f : ℕ × Value). (Field number key f.0, f.1)) fields)
update_fits tables number table key [] is fit = tt
update_fits tables number table key (f ∷ fs) is fit =
    (record { of_table = table; is = is; within = fit.0.0; apart = fit.0.1 }, update_fits tables number table key fs is fit.1)

updates_fit : (tables : List Table) (number : ℕ) (table : Table) (made : List changes.Change) → slice_get tables number ≡ Some table →
    AllByRecursion (SetsAll table) made → AllByRecursion (IsFit tables) (updates number made)
updates_fit tables number table [] is fit = tt
updates_fit tables number table (c ∷ cs) is fit =
    both (IsFit tables) (updates_of number c) (updates number cs) (update_fits tables number table c.key c.fields is fit.0)
    (updates_fit tables number table cs is fit.1)

deletes_fit : (tables : List Table) (number : ℕ) (made : List changes.Change) → AllByRecursion (IsFit tables) (deletes number made)
deletes_fit tables number [] = tt
deletes_fit tables number (c ∷ cs) = (tt, deletes_fit tables number cs)

-- ---- INSERT

inserted_on : (tables : List Table) (number : ℕ) (table : Table) (rows : List TableRow) (found : Bool) → slice_get tables number ≡ Some table →
    AllByRecursion (RowFits table) rows → WritesFields tables (insert_rows number table.key rows found)
inserted_on tables number table rows true is fit = tt
inserted_on tables number table rows false is fit =
    all_on tables (inserts number table.key rows) (done (Inserted (length rows))) (inserts_fit tables number table rows is fit) tt

made_on : (tables : List Table) (number : ℕ) (table : Table) (rows : Result (List TableRow)) → slice_get tables number ≡ Some table →
    Holds (AllByRecursion (RowFits table)) rows → WritesFields tables (course_of_rows number table rows)
made_on tables number table (Err code) is fit = tt
made_on tables number table (Ok rows) is fit =
    presences_on tables number (map (λ (r : TableRow). r.0) rows) false _ (λ found. inserted_on tables number table rows found is fit)

insert_on : (tables : List Table) (insert : TypedInsert) → InsertFits tables insert →
    WritesFields tables (course_of_insert insert (slice_get tables insert.table))
insert_on tables insert fit =
    subst (λ (t : Option Table). WritesFields tables (course_of_insert insert t)) (sym fit.is)
    (made_on tables insert.table fit.of_table (rows_to_insert fit.of_table insert.rows) fit.is (rows_fit fit.of_table insert.rows fit.wide))

-- ---- UPDATE and DELETE

at_place : {X : Type 0} (P : X → Type 0) (xs : List X) (k : ℕ) (d : X) → AllByRecursion P xs → k < length xs → P (slice_index_or xs k d)
at_place P [] k d all within = absurd (omega (arith, within))
at_place P (x ∷ xs) zero d all within = all.0
at_place P (x ∷ xs) (suc k) d all within = at_place P xs k d all.1 (omega (arith, within))

-- a column that is assigned is one that can be set
is_settable : (table : Table) (set : List (ℕ × TypedExpr)) (i : ℕ) → AreSettable table set → is_assigned set i ≡ true → IsSettable table i
is_settable table set i fit is =
    let (k, a, within, at, same) = Any-from_list_any (λ (a : ℕ × TypedExpr). a.0 == i) set is in
    subst (λ (n : ℕ). IsSettable table n) (eqb-true a.0 i same)
    (subst (λ (x : ℕ × TypedExpr). IsSettable table x.0) at (at_place (λ (x : ℕ × TypedExpr). IsSettable table x.0) set k a fit within))

kept_fit : (table : Table) (set : List (ℕ × TypedExpr)) (i : ℕ) (values : List Value) → AreSettable table set →
    AllByRecursion (λ (f : ℕ × Value). IsSettable table f.0) (fields_from i set values)
kept_fit table set i [] fit = tt
kept_fit table set i (v ∷ vs) fit =
    let rest : AllByRecursion (λ (f : ℕ × Value). IsSettable table f.0) (fields_from (i + 1) set vs) = kept_fit table set (i + 1) vs fit in
    cond_both (is_assigned set i) ((i, v) ∷ fields_from (i + 1) set vs) (fields_from (i + 1) set vs) (AllByRecursion (λ (f : ℕ × Value). IsSettable table f.0))
    (λ assigned. (is_settable table set i fit assigned, rest)) (λ _. rest)

updated_fits : (table : Table) (set : List (ℕ × TypedExpr)) (row : TableRow) → AreSettable table set → Holds (SetsAll table) (updated table set row)
updated_fits table set row fit =
    then_holds (λ (values : List (ℕ × Value)). Unit {0}) (SetsAll table) (assignments table.columns set row.1) _ (anything (assignments table.columns set row.1))
    (λ values _.
    let new = with_values row.1 values in
    cond_both (has_missing 0 table.columns set new) (Err S23502) _ (Holds (SetsAll table)) (λ _. tt)
    (λ _. then_holds (λ (whole : List Value). Unit {0}) (SetsAll table) (checked (checks_on set table.checks) new)
    (λ whole. Ok (record { key = row.0; fields = fields_from 0 set whole })) (anything (checked (checks_on set table.checks) new))
    (λ whole _. kept_fit table set 0 whole fit)))

change_fits : (table : Table) (change : TypedChange) (row : TableRow) → AreSettable table change.set → Holds (SetsAll table) (change_of table change row)
change_fits table change row fit =
    cond_both change.delete (Ok (record { key = row.0; fields = [] })) (updated table change.set row) (Holds (SetsAll table))
    (λ _. tt) (λ _. updated_fits table change.set row fit)

changes_fit : (table : Table) (change : TypedChange) (rows : List TableRow) → AreSettable table change.set →
    Holds (AllByRecursion (SetsAll table)) (changes_of table change rows)
unfolding changes_of
changes_fit table change rows fit =
    then_holds (λ (kept : List TableRow). Unit {0}) (AllByRecursion (SetsAll table)) (kept_rows change.filter rows) _ (anything (kept_rows change.filter rows))
    (λ kept _. all_hold (SetsAll table) (change_of table change) kept (λ row. change_fits table change row fit))

changed_on : (tables : List Table) (change : TypedChange) (table : Table) (made : Result (List changes.Change)) → slice_get tables change.table ≡ Some table →
    Holds (AllByRecursion (SetsAll table)) made → WritesFields tables (course_of_changes change made)
changed_on tables change table (Err code) is fit = tt
changed_on tables change table (Ok made) is fit =
    cond_both change.delete (write_all (deletes change.table made) (done (Deleted (length made)))) (write_all (updates change.table made) (done (Updated (length made))))
    (WritesFields tables)
    (λ _. all_on tables (deletes change.table made) (done (Deleted (length made))) (deletes_fit tables change.table made) tt)
    (λ _. all_on tables (updates change.table made) (done (Updated (length made))) (updates_fit tables change.table table made is fit) tt)

change_on : (tables : List Table) (change : TypedChange) → SetsFields tables change → WritesFields tables (course_of_change change (slice_get tables change.table))
change_on tables change fit =
    subst (λ (t : Option Table). WritesFields tables (course_of_change change t)) (sym fit.is)
    (parts_on tables (part_of_change fit.of_table change ∷ []) [] _ (λ picture.
    changed_on tables change fit.of_table (changes_of fit.of_table change (shown_of change.table picture)) fit.is
    (changes_fit fit.of_table change (shown_of change.table picture) fit.set)))

-- ---- all of them

pub statement_writes : (tables : List Table) (statement : Statement) (t : Typed) → typed tables statement ≡ Ok t → WritesFields tables (course_of tables t)
unfolding course_of
statement_writes tables statement (Select select) is = parts_on tables (parts_of_select tables select) [] _ (λ picture. tt)
statement_writes tables statement (Insert insert) is = insert_on tables insert (fits tables statement (Insert insert) is)
statement_writes tables statement (Change change) is = change_on tables change (change_sets tables statement change is)
