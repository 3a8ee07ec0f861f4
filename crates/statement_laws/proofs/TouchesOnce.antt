-- A typed statement asks for no cell twice.
use Rattle.std.proofs.Common.{ℕ, Bool, true, false, List, [], ◌∷◌, length, map, Option, Some, None, Ok, Err}
use Rattle.std.specs.Prelude.{slice_get}
use Rattle.std.proofs.lemmas.Bool.{cond_both}
use Rattle.cell_base.specs.declared.cell.Cell.{Cell}
use Rattle.cell_base.specs.declared.key.Key.{Key}
use Rattle.sql_tree.specs.declared.table.Table.{Table}
use Rattle.sql_tree.specs.declared.typed.Typed.{Typed}
use Rattle.sql_tree.specs.declared.typed.Typed.TheVariants.{Select, Insert, Change}
use Rattle.sql_tree.specs.declared.typed.TypedChange.{TypedChange}
use Rattle.sql_tree.specs.declared.typed.TypedInsert.{TypedInsert}
use Rattle.sql_tree.specs.declared.typed.TypedSelect.{TypedSelect}
use Rattle.typing_rules.specs.Outcome.{Outcome as Result}
use Rattle.typing_rules.specs.Sound.{Holds}
use Rattle.row_meaning.specs.Pictures.{TableRow, shown_of}
use Rattle.row_meaning.specs.Insertion.{rows_to_insert}
use Rattle.row_meaning.specs.Changes.{changes_of}
use Rattle.row_meaning.specs.Changes as changes
use Rattle.statement_course.specs.Course.{done}
use Rattle.statement_course.specs.Laws.{TouchesOnce}
use Rattle.statement_course.specs.Reading.{Part}
use Rattle.statement_course.specs.Statements.{parts_of_select, course_of_select, course_of_rows, course_of_insert, part_of_change, course_of_changes, course_of_change, course_of}
use Rattle.statement_course.specs.Writing.{write_all, insert_rows, inserts, updates, deletes}
use Rattle.statement_course.specs.declared.demand.Outcome.TheVariants.{Updated, Deleted, Inserted}
use Rattle.statement_laws.specs.Courses.{StatementTouchesOnce}
use Rattle.statement_laws.proofs.MentionsOnce.{SelectOnce, ChangeOnce, MentionsOnce, mentions_once}
use Rattle.statement_laws.proofs.ReadingOnce.{PartsFree, KeysFree, parts_once, writes_once, presences_once}
use Rattle.statement_laws.proofs.PartsOnce.{picked}
use Rattle.statement_laws.proofs.KeysOnce.{KeysDistinct, rows_distinct}

parts_free : (parts : List Part) → PartsFree parts []
parts_free [] = tt
parts_free (p ∷ ps) = (tt, parts_free ps)

keys_free : (table : ℕ) (keys : List Key) → KeysFree table keys []
keys_free table [] = tt
keys_free table (k ∷ ks) = (tt, keys_free table ks)

select_once : (tables : List Table) (select : TypedSelect) → SelectOnce select → TouchesOnce [] (course_of_select tables select)
select_once tables select once =
    parts_once (parts_of_select tables select) [] [] _ (picked tables [] select.tables select.mentioned select.points once).apart
    (parts_free (parts_of_select tables select)) (λ picture after. tt)

-- ---- INSERT

inserted_once : (number key_column : ℕ) (rows : List TableRow) (found : Bool) (before : List Cell) → TouchesOnce before (insert_rows number key_column rows found)
inserted_once number key_column rows true before = tt
inserted_once number key_column rows false before = writes_once (inserts number key_column rows) before (Inserted (length rows))

made_once : (number : ℕ) (table : Table) (rows : Result (List TableRow)) → Holds KeysDistinct rows → TouchesOnce [] (course_of_rows number table rows)
made_once number table (Err code) h = tt
made_once number table (Ok rows) h =
    let keys = map (λ (r : TableRow). r.0) rows in
    presences_once number keys [] false _ h (keys_free number keys) (λ found after. inserted_once number table.key rows found after)

insert_once : (insert : TypedInsert) (table : Option Table) → TouchesOnce [] (course_of_insert insert table)
insert_once insert None = tt
insert_once insert (Some table) = made_once insert.table table (rows_to_insert table insert.rows) (rows_distinct table insert.rows)

-- ---- UPDATE and DELETE

changed_once : (change : TypedChange) (made : Result (List changes.Change)) (before : List Cell) → TouchesOnce before (course_of_changes change made)
changed_once change (Err code) before = tt
changed_once change (Ok made) before =
    cond_both change.delete (write_all (deletes change.table made) (done (Deleted (length made)))) (write_all (updates change.table made) (done (Updated (length made))))
    (TouchesOnce before)
    (λ _. writes_once (deletes change.table made) before (Deleted (length made))) (λ _. writes_once (updates change.table made) before (Updated (length made)))

change_once : (change : TypedChange) (table : Option Table) → ChangeOnce change → TouchesOnce [] (course_of_change change table)
change_once change None once = tt
change_once change (Some table) once =
    parts_once (part_of_change table change ∷ []) [] [] (λ picture. course_of_changes change (changes_of table change (shown_of change.table picture)))
    (tt, once, tt) (tt, tt)
    (λ picture after. changed_once change (changes_of table change (shown_of change.table picture)) after)

-- a statement that mentions each column once
mentioned_once : (tables : List Table) (t : Typed) → MentionsOnce t → TouchesOnce [] (course_of tables t)
unfolding course_of
mentioned_once tables (Select select) once = select_once tables select once
mentioned_once tables (Insert insert) once = insert_once insert (slice_get tables insert.table)
mentioned_once tables (Change change) once = change_once change (slice_get tables change.table) once

pub touches_once : StatementTouchesOnce
touches_once tables statement t is = mentioned_once tables t (mentions_once tables statement t is)
