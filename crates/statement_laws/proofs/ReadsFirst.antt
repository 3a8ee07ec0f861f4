-- A statement asks for cells of the tables that there are, and then it only writes.
use Rattle.std.proofs.Common.{◌≡◌, ℕ, ◌<◌, Bool, true, false, List, [], ◌∷◌, length, map, Option, Some, None, Ok, Err, refl}
use Rattle.std.specs.Prelude.{slice_get}
use Rattle.std.proofs.lemmas.Bool.{cond_both}
use Rattle.std.proofs.lemmas.Option.{slice_get_within}
use Rattle.sql_tree.specs.declared.table.Table.{Table}
use Rattle.sql_tree.specs.declared.typed.Typed.TheVariants.{Select, Insert, Change}
use Rattle.sql_tree.specs.declared.typed.TypedChange.{TypedChange}
use Rattle.sql_tree.specs.declared.typed.TypedInsert.{TypedInsert}
use Rattle.sql_tree.specs.declared.typed.TypedSelect.{TypedSelect}
use Rattle.typing_rules.specs.Outcome.{Outcome as Result}
use Rattle.typing_rules.specs.Sound.{Holds}
use Rattle.row_meaning.specs.Pictures.{TableRow, shown_of}
use Rattle.row_meaning.specs.Insertion.{rows_to_insert}
use Rattle.row_meaning.specs.Changes.{changes_of}
use Rattle.row_meaning.specs.Changes as changes
use Rattle.statement_course.specs.Course.{done}
use Rattle.statement_course.specs.Laws.{ReadsFirst}
use Rattle.statement_course.specs.Statements.{parts_of_select, course_of_select, course_of_rows, course_of_insert, part_of_change, course_of_changes, course_of_change, course_of}
use Rattle.statement_course.specs.Writing.{write_all, insert_rows, inserts, updates, deletes}
use Rattle.statement_course.specs.declared.demand.Outcome.TheVariants.{Updated, Deleted, Inserted}
use Rattle.statement_laws.specs.Courses.{StatementReadsFirst}
use Rattle.statement_laws.proofs.ReadingFirst.{writes_first, parts_first, parts_within, presences_first}
use Rattle.statement_laws.proofs.Inserting.{RowsStand, rows_stand, inserts_writable}
use Rattle.statement_laws.proofs.ChangingOnce.{ChangesStand, changes_stand, updates_writable, deletes_writable}

select_first : (tables : List Table) (select : TypedSelect) → ReadsFirst (length tables) (course_of_select tables select)
select_first tables select =
    parts_first (length tables) (parts_of_select tables select) [] _ (parts_within tables [] select.tables select.mentioned select.points) (λ picture. tt)

-- ---- INSERT

inserted_first : (n number key_column : ℕ) (rows : List TableRow) (found : Bool) → number < n → RowsStand rows
    → ReadsFirst n (insert_rows number key_column rows found)
inserted_first n number key_column rows true within h = tt
inserted_first n number key_column rows false within h = writes_first n (inserts number key_column rows) (Inserted (length rows)) (inserts_writable n number key_column rows within h)

made_first : (n number : ℕ) (table : Table) (rows : Result (List TableRow)) → number < n → Holds RowsStand rows
    → ReadsFirst n (course_of_rows number table rows)
made_first n number table (Err code) within h = tt
made_first n number table (Ok rows) within h =
    presences_first n number (map (λ (r : TableRow). r.0) rows) false _ within (λ found. inserted_first n number table.key rows found within h)

insert_first : (n : ℕ) (insert : TypedInsert) (table : Option Table) → ((t : Table) → table ≡ Some t → insert.table < n)
    → ReadsFirst n (course_of_insert insert table)
insert_first n insert None within = tt
insert_first n insert (Some table) within =
    made_first n insert.table table (rows_to_insert table insert.rows) (within table refl) (rows_stand table insert.rows)

-- ---- UPDATE and DELETE

changed_first : (n : ℕ) (change : TypedChange) (made : Result (List changes.Change)) → change.table < n → Holds ChangesStand made
    → ReadsFirst n (course_of_changes change made)
changed_first n change (Err code) within h = tt
changed_first n change (Ok made) within h =
    cond_both change.delete (write_all (deletes change.table made) (done (Deleted (length made)))) (write_all (updates change.table made) (done (Updated (length made))))
    (ReadsFirst n)
    (λ _. writes_first n (deletes change.table made) (Deleted (length made)) (deletes_writable n change.table made within))
    (λ _. writes_first n (updates change.table made) (Updated (length made)) (updates_writable n change.table made within h))

change_first : (n : ℕ) (change : TypedChange) (table : Option Table) → ((t : Table) → table ≡ Some t → change.table < n)
    → ReadsFirst n (course_of_change change table)
change_first n change None within = tt
change_first n change (Some table) within =
    parts_first n (part_of_change table change ∷ []) [] _ (within table refl, tt)
    (λ picture. changed_first n change (changes_of table change (shown_of change.table picture)) (within table refl)
    (changes_stand table change (shown_of change.table picture)))

pub reads_first : StatementReadsFirst
unfolding course_of
reads_first tables (Select select) = select_first tables select
reads_first tables (Insert insert) = insert_first (length tables) insert (slice_get tables insert.table) (slice_get_within tables insert.table)
reads_first tables (Change change) = change_first (length tables) change (slice_get tables change.table) (slice_get_within tables change.table)
