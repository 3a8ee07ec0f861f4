-- The course of a statement that reads or writes rows, over the tables, which are numbered from 0.
use Rattle.std.specs.Prelude.{ℕ, false, if◌then◌else◌, List, [], ◌∷◌, map, length, slice_get, Option, Some, None, Ok, Err}
use Rattle.cell_base.specs.declared.sql_state.SqlState.TheVariants.{S42P01}
use Rattle.cell_base.specs.declared.value.Value.{Value}
use Rattle.sql_tree.specs.declared.table.Table.{Table}
use Rattle.sql_tree.specs.declared.typed.Typed.{Typed}
use Rattle.sql_tree.specs.declared.typed.Typed.TheVariants.{Select, Insert, Change}
use Rattle.sql_tree.specs.declared.typed.TypedChange.{TypedChange}
use Rattle.sql_tree.specs.declared.typed.TypedInsert.{TypedInsert}
use Rattle.sql_tree.specs.declared.typed.TypedSelect.{TypedSelect}
use Rattle.typing_rules.specs.Outcome.{Outcome as Result}
use Rattle.row_meaning.specs.Pictures.{TableRow, shown_of}
use Rattle.row_meaning.specs.Selection.{selected}
use Rattle.row_meaning.specs.Insertion.{rows_to_insert}
use Rattle.row_meaning.specs.Changes.{changes_of}
use Rattle.row_meaning.specs.Changes as changes
use Rattle.statement_course.specs.declared.demand.Outcome.{Outcome}
use Rattle.statement_course.specs.declared.demand.Outcome.TheVariants.{Rows, Updated, Deleted, Failed}
use Rattle.statement_course.specs.Course.{Course, done}
use Rattle.statement_course.specs.Reading.{Part, part_of, parts_from, read_parts}
use Rattle.statement_course.specs.Writing.{write_all, read_presences, insert_rows, updates, deletes}

-- ---- SELECT

abbrev pub parts_of_select : List Table → TypedSelect → List Part
parts_of_select tables select = parts_from tables [] select.tables select.mentioned select.points

abbrev pub rows_outcome : TypedSelect → Result (List (List Value)) → Outcome
rows_outcome select (Ok rows) = Rows select.fields rows
rows_outcome select (Err code) = Failed code

abbrev pub course_of_select : List Table → TypedSelect → Course
course_of_select tables select = read_parts (parts_of_select tables select) [] (λ picture. done (rows_outcome select (selected select picture)))

-- ---- INSERT

abbrev pub course_of_rows : ℕ → Table → Result (List TableRow) → Course
course_of_rows number table (Err code) = done (Failed code)
course_of_rows number table (Ok rows) =
    read_presences number (map (λ (r : TableRow). r.0) rows) false (insert_rows number table.key rows)

abbrev pub course_of_insert : TypedInsert → Option Table → Course
course_of_insert insert None = done (Failed S42P01)
course_of_insert insert (Some table) = course_of_rows insert.table table (rows_to_insert table insert.rows)

-- ---- UPDATE and DELETE

abbrev pub part_of_change : Table → TypedChange → Part
part_of_change table change = part_of change.table table change.mentioned change.point

abbrev pub course_of_changes : TypedChange → Result (List changes.Change) → Course
course_of_changes change (Err code) = done (Failed code)
course_of_changes change (Ok made) =
    if change.delete then write_all (deletes change.table made) (done (Deleted (length made)))
    else write_all (updates change.table made) (done (Updated (length made)))

abbrev pub course_of_change : TypedChange → Option Table → Course
course_of_change change None = done (Failed S42P01)
course_of_change change (Some table) =
    read_parts (part_of_change table change ∷ []) [] (λ picture. course_of_changes change (changes_of table change (shown_of change.table picture)))

-- ---- all of them

-- a statement over the tables; one of a table that isn't there is 42P01
unfoldable pub course_of : List Table → Typed → Course
course_of tables (Select select) = course_of_select tables select
course_of tables (Insert insert) = course_of_insert insert (slice_get tables insert.table)
course_of tables (Change change) = course_of_change change (slice_get tables change.table)
