-- The course of a typed statement keeps rows whole.
use Rattle.std.proofs.Common.{◌≡◌, inl, inr, ℕ, ◌+◌, ◌==◌, Bool, true, false, cond, List, [], ◌∷◌, ◌++◌, length, map, Option, Some, None, Ok, Err, refl, sym, ap, subst, arith}
use Rattle.std.specs.Prelude.{slice_get, Contains}
use Rattle.std.specs.List.{list_any, AllByRecursion}
use Rattle.std.proofs.lemmas.Bool.{cond_both}
use Rattle.std.proofs.lemmas.Option.{slice_get_within}
use Rattle.cell_base.specs.declared.cell.Cell.{Cell}
use Rattle.cell_base.specs.declared.cell.Cell.TheVariants.{Presence, Field}
use Rattle.cell_base.specs.declared.key.Key.{Key}
use Rattle.cell_base.specs.declared.value.Value.{Value}
use Rattle.sql_tree.specs.declared.table.Column.{Column}
use Rattle.sql_tree.specs.declared.table.Table.{Table}
use Rattle.sql_tree.specs.declared.typed.Typed.TheVariants.{Select, Insert, Change}
use Rattle.sql_tree.specs.declared.typed.TypedChange.{TypedChange}
use Rattle.sql_tree.specs.declared.typed.TypedInsert.{TypedInsert}
use Rattle.sql_tree.specs.declared.typed.TypedSelect.{TypedSelect}
use Rattle.typing_rules.specs.Outcome.{Outcome as Result}
use Rattle.typing_rules.specs.Sound.{Holds}
use Rattle.row_meaning.specs.declared.picture.TableRows.{TableRows}
use Rattle.row_meaning.specs.Combinations.{is_true}
use Rattle.row_meaning.specs.Pictures.{TableRow, shown_of}
use Rattle.row_meaning.specs.Insertion.{rows_to_insert}
use Rattle.row_meaning.specs.Changes.{changes_of}
use Rattle.row_meaning.specs.Changes as changes
use Rattle.statement_course.specs.Course.{Course, write, done}
use Rattle.statement_course.specs.Reading.{Part, read_columns, read_row, read_rows, read_keys, read_part, read_parts, part_before, parts_from}
use Rattle.statement_course.specs.Statements.{parts_of_select, course_of_select, course_of_rows, course_of_insert, part_of_change, course_of_changes, course_of_change, course_of}
use Rattle.statement_course.specs.Writing.{write_all, read_presences, insert_rows, fields_of, inserts, updates_of, updates, deletes}
use Rattle.statement_course.specs.declared.demand.Outcome.{Outcome}
use Rattle.statement_course.specs.declared.demand.Outcome.TheVariants.{Updated, Deleted, Inserted}
use Rattle.statement_laws.specs.RowCourses.{fields_from, fields_in, shown_after, KeepsWhole, StatementKeepsRows}
use Rattle.statement_laws.proofs.Fits.{AreFields, ColumnsFit, SelectFits, ChangeFits, InsertFits, RowFits, rows_fit, fits}

-- ---- what is read

-- what follows keeps rows whole, whatever is shown before it
abbrev GoesOn : {A : Type 0} → List Table → (A → Course) → Type 0
GoesOn {A} tables rest = (shown : List (ℕ × Key)) (a : A) → KeepsWhole tables shown [] (rest a)

columns_keep : (tables : List Table) (shown : List (ℕ × Key)) (table : ℕ) (key : Key) (columns : List ℕ) (read : List (ℕ × Value)) (rest : List (ℕ × Value) → Course) →
    AreFields tables table columns → Contains shown (table, key) → GoesOn tables rest → KeepsWhole tables shown [] (read_columns table key columns read rest)
columns_keep tables shown table key [] read rest fit there on = on shown read
columns_keep tables shown table key (column ∷ columns) read rest fit there on =
    (refl, (fit.0, there), λ v. columns_keep tables shown table key columns (read ++ (column, v) ∷ []) rest fit.1 there on)

first_there : {A : Type 0} (x : A) (xs : List A) → Contains (x ∷ xs) x
first_there x xs = (0, omega arith, refl)

abbrev PartFits : List Table → Part → Type 0
PartFits tables part = AreFields tables part.table part.columns

-- a row that is there is shown to be
row_shown : (tables : List Table) (shown : List (ℕ × Key)) (row : ℕ × Key) (there : Bool) (one other : Course) → KeepsWhole tables (row ∷ shown) [] one →
    KeepsWhole tables shown [] other → KeepsWhole tables (cond there (row ∷ shown) shown) [] (cond there one other)
row_shown tables shown row true one other first second = first
row_shown tables shown row false one other first second = second

row_keeps : (tables : List Table) (shown : List (ℕ × Key)) (part : Part) (key : Key) (found : List TableRow) (rest : List TableRow → Course) →
    PartFits tables part → GoesOn tables rest → KeepsWhole tables shown [] (read_row part key found rest)
row_keeps tables shown part key found rest fit on = (
  refl,
  tt,
  λ present. row_shown tables shown (part.table, key) (is_true present) _ (rest found)
      (columns_keep tables ((part.table, key) ∷ shown) part.table key part.columns [] _ fit (first_there (part.table, key) shown) (λ more read. on more _))
      (on shown found),
)

rows_keep : (tables : List Table) (shown : List (ℕ × Key)) (part : Part) (keys : List Key) (found : List TableRow) (rest : List TableRow → Course) →
    PartFits tables part → GoesOn tables rest → KeepsWhole tables shown [] (read_rows part keys found rest)
rows_keep tables shown part [] found rest fit on = on shown found
rows_keep tables shown part (key ∷ keys) found rest fit on =
    row_keeps tables shown part key found _ fit (λ more rows. rows_keep tables more part keys rows rest fit on)

keys_keep : (tables : List Table) (shown : List (ℕ × Key)) (table : ℕ) (point : Option Key) (rest : List Key → Course) → GoesOn tables rest →
    KeepsWhole tables shown [] (read_keys table point rest)
keys_keep tables shown table None rest on = (refl, λ keys. on shown keys)
keys_keep tables shown table (Some key) rest on = on shown (key ∷ [])

part_keeps : (tables : List Table) (shown : List (ℕ × Key)) (part : Part) (rest : List TableRow → Course) → PartFits tables part → GoesOn tables rest →
    KeepsWhole tables shown [] (read_part part rest)
part_keeps tables shown part rest fit on =
    keys_keep tables shown part.table part.point _ (λ more keys. rows_keep tables more part keys [] rest fit on)

parts_keep : (tables : List Table) (shown : List (ℕ × Key)) (parts : List Part) (picture : List TableRows) (rest : List TableRows → Course) →
    AllByRecursion (PartFits tables) parts → GoesOn tables rest → KeepsWhole tables shown [] (read_parts parts picture rest)
parts_keep tables shown [] picture rest fit on = on shown picture
parts_keep tables shown (part ∷ parts) picture rest fit on =
    part_keeps tables shown part _ fit.0 (λ more rows. parts_keep tables more parts _ rest fit.1 on)

-- ---- SELECT

before_fit : (tables : List Table) (number : ℕ) (found : Option Table) (columns : List ℕ) (point : Option Key) (parts : List Part) → AreFields tables number columns →
    AllByRecursion (PartFits tables) parts → AllByRecursion (PartFits tables) (part_before number found columns point parts)
before_fit tables number None columns point parts fit h = h
before_fit tables number (Some table) columns point parts fit h = (fit, h)

parts_fit : (tables : List Table) (before numbers : List ℕ) (columns : List (List ℕ)) (points : List (Option Key)) → ColumnsFit tables numbers columns →
    AllByRecursion (PartFits tables) (parts_from tables before numbers columns points)
parts_fit tables before (number ∷ numbers) (columns ∷ more) (point ∷ points) fit =
    cond_both (list_any (λ n. n == number) before) _ _ (AllByRecursion (PartFits tables))
    (λ _. parts_fit tables before numbers more points fit.1)
    (λ _. before_fit tables number (slice_get tables number) columns point _ fit.0 (parts_fit tables (number ∷ before) numbers more points fit.1))
parts_fit tables before _ _ _ fit = tt

select_keeps : (tables : List Table) (shown : List (ℕ × Key)) (select : TypedSelect) → SelectFits tables select → KeepsWhole tables shown [] (course_of_select tables select)
select_keeps tables shown select fit =
    parts_keep tables shown (parts_of_select tables select) [] _ (parts_fit tables [] select.tables select.mentioned select.points fit) (λ more picture. refl)

-- ---- writes

write_all-append : (xs ys : List (Cell × Value)) (rest : Course) → write_all (xs ++ ys) rest ≡ write_all xs (write_all ys rest)
write_all-append [] ys rest = refl
write_all-append (x ∷ xs) ys rest = ap (λ (c : Course). write x.0 x.1 c) (write_all-append xs ys rest)

field_keeps : (tables : List Table) (shown : List (ℕ × Key)) (table : ℕ) (key : Key) (i : ℕ) (v : Value) (owed : List Cell) (more : List (Cell × Value)) (rest : Course) (b : Bool) →
    KeepsWhole tables shown owed (write_all more rest) →
    KeepsWhole tables shown (cond b owed (Field table key i ∷ owed)) (write_all (cond b more ((Field table key i, v) ∷ more)) rest)
field_keeps tables shown table key i v owed more rest true h = h
field_keeps tables shown table key i v owed more rest false h = (inr (owed, refl), h)

fields_keep : (tables : List Table) (shown : List (ℕ × Key)) (table : ℕ) (key : Key) (key_column i : ℕ) (columns : List Column) (values : List Value) (rest : Course) →
    length values ≡ length columns → KeepsWhole tables shown [] rest →
    KeepsWhole tables shown (fields_from table key key_column i columns) (write_all (fields_of table key key_column i values) rest)
fields_keep tables shown table key key_column i [] [] rest same h = h
fields_keep tables shown table key key_column i [] (v ∷ vs) rest same h = absurd (omega (arith, same))
fields_keep tables shown table key key_column i (c ∷ cs) [] rest same h = absurd (omega (arith, same))
fields_keep tables shown table key key_column i (c ∷ cs) (v ∷ vs) rest same h =
    field_keeps tables shown table key i v (fields_from table key key_column (i + 1) cs) (fields_of table key key_column (i + 1) vs) rest (i == key_column)
    (fields_keep tables shown table key key_column (i + 1) cs vs rest (omega (arith, same)) h)

inserts_keep : (tables : List Table) (shown : List (ℕ × Key)) (number : ℕ) (table : Table) (rows : List TableRow) (outcome : Outcome) → slice_get tables number ≡ Some table →
    AllByRecursion (RowFits table) rows → KeepsWhole tables shown [] (write_all (inserts number table.key rows) (done outcome))
inserts_keep tables shown number table [] outcome is fit = refl
inserts_keep tables shown number table (row ∷ rows) outcome is fit = (
  (refl, slice_get_within tables number table is),
  subst (λ (t : Option Table). KeepsWhole tables shown (fields_in number row.0 t)
      (write_all (fields_of number row.0 table.key 0 row.1 ++ inserts number table.key rows) (done outcome))) (sym is)
      (subst (λ (c : Course). KeepsWhole tables shown (fields_from number row.0 table.key 0 table.columns) c)
      (sym (write_all-append (fields_of number row.0 table.key 0 row.1) (inserts number table.key rows) (done outcome)))
      (fields_keep tables shown number row.0 table.key 0 table.columns row.1 (write_all (inserts number table.key rows) (done outcome)) fit.0
      (inserts_keep tables shown number table rows outcome is fit.1))),
)

-- ---- INSERT

presences_keep : (tables : List Table) (shown : List (ℕ × Key)) (table : ℕ) (keys : List Key) (found : Bool) (rest : Bool → Course) → GoesOn tables rest →
    KeepsWhole tables shown [] (read_presences table keys found rest)
presences_keep tables shown table [] found rest on = on shown found
presences_keep tables shown table (key ∷ keys) found rest on =
    (refl, tt, λ present. presences_keep tables (shown_after shown (Presence table key) present) table keys _ rest on)

inserted_keeps : (tables : List Table) (shown : List (ℕ × Key)) (number : ℕ) (table : Table) (rows : List TableRow) (found : Bool) → slice_get tables number ≡ Some table →
    AllByRecursion (RowFits table) rows → KeepsWhole tables shown [] (insert_rows number table.key rows found)
inserted_keeps tables shown number table rows true is fit = refl
inserted_keeps tables shown number table rows false is fit = inserts_keep tables shown number table rows (Inserted (length rows)) is fit

made_keeps : (tables : List Table) (shown : List (ℕ × Key)) (number : ℕ) (table : Table) (rows : Result (List TableRow)) → slice_get tables number ≡ Some table →
    Holds (AllByRecursion (RowFits table)) rows → KeepsWhole tables shown [] (course_of_rows number table rows)
made_keeps tables shown number table (Err code) is fit = refl
made_keeps tables shown number table (Ok rows) is fit =
    presences_keep tables shown number (map (λ (r : TableRow). r.0) rows) false _ (λ more found. inserted_keeps tables more number table rows found is fit)

insert_keeps : (tables : List Table) (shown : List (ℕ × Key)) (insert : TypedInsert) → InsertFits tables insert →
    KeepsWhole tables shown [] (course_of_insert insert (slice_get tables insert.table))
insert_keeps tables shown insert fit =
    subst (λ (t : Option Table). KeepsWhole tables shown [] (course_of_insert insert t)) (sym fit.is)
    (made_keeps tables shown insert.table fit.of_table (rows_to_insert fit.of_table insert.rows) fit.is (rows_fit fit.of_table insert.rows fit.wide))

-- ---- UPDATE and DELETE

row_updates : (tables : List Table) (shown : List (ℕ × Key)) (table : ℕ) (key : Key) (fields : List (ℕ × Value)) (rest : Course) → KeepsWhole tables shown [] rest →
    KeepsWhole tables shown [] (write_all (map (λ (f : ℕ × Value). (Field table key f.0, f.1)) fields) rest)
row_updates tables shown table key [] rest h = h
row_updates tables shown table key (f ∷ fs) rest h = (inl refl, row_updates tables shown table key fs rest h)

updates_keep : (tables : List Table) (shown : List (ℕ × Key)) (table : ℕ) (made : List changes.Change) (outcome : Outcome) →
    KeepsWhole tables shown [] (write_all (updates table made) (done outcome))
updates_keep tables shown table [] outcome = refl
updates_keep tables shown table (c ∷ cs) outcome =
    subst (λ (course : Course). KeepsWhole tables shown [] course) (sym (write_all-append (updates_of table c) (updates table cs) (done outcome)))
    (row_updates tables shown table c.key c.fields (write_all (updates table cs) (done outcome)) (updates_keep tables shown table cs outcome))

deletes_keep : (tables : List Table) (shown : List (ℕ × Key)) (table : ℕ) (made : List changes.Change) (outcome : Outcome) →
    KeepsWhole tables shown [] (write_all (deletes table made) (done outcome))
deletes_keep tables shown table [] outcome = refl
deletes_keep tables shown table (c ∷ cs) outcome = (inl refl, deletes_keep tables shown table cs outcome)

changed_keeps : (tables : List Table) (shown : List (ℕ × Key)) (change : TypedChange) (made : Result (List changes.Change)) →
    KeepsWhole tables shown [] (course_of_changes change made)
changed_keeps tables shown change (Err code) = refl
changed_keeps tables shown change (Ok made) =
    cond_both change.delete (write_all (deletes change.table made) (done (Deleted (length made)))) (write_all (updates change.table made) (done (Updated (length made))))
    (KeepsWhole tables shown [])
    (λ _. deletes_keep tables shown change.table made (Deleted (length made)))
    (λ _. updates_keep tables shown change.table made (Updated (length made)))

change_keeps : (tables : List Table) (shown : List (ℕ × Key)) (change : TypedChange) (table : Option Table) → ChangeFits tables change →
    KeepsWhole tables shown [] (course_of_change change table)
change_keeps tables shown change None fit = refl
change_keeps tables shown change (Some table) fit =
    parts_keep tables shown (part_of_change table change ∷ []) [] _ (fit, tt)
    (λ more picture. changed_keeps tables more change (changes_of table change (shown_of change.table picture)))

-- ---- all of them

pub statement_keeps : StatementKeepsRows
unfolding course_of
statement_keeps tables statement (Select select) shown is = select_keeps tables shown select (fits tables statement (Select select) is)
statement_keeps tables statement (Insert insert) shown is = insert_keeps tables shown insert (fits tables statement (Insert insert) is)
statement_keeps tables statement (Change change) shown is =
    change_keeps tables shown change (slice_get tables change.table) (fits tables statement (Change change) is)
