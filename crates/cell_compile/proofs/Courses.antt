-- A plan begins with the course of its statement.
use Rattle.std.proofs.Common.{◌≡◌, ℕ, Bool, true, false, List, [], ◌∷◌, ◌++◌, map, length, Result, Ok, Some, refl, ap, sym, ◌∙◌, subst}
use Rattle.std.proofs.lemmas.Bool.{cond-true, cond-false}
use Rattle.std.proofs.lemmas.List.{length-map}
use Rattle.std.specs.Prelude.{IfOk}
use mathlib.Core.Path.{fun_ext}
use Rattle.cell_base.specs.declared.cell.Cell.{Cell}
use Rattle.cell_base.specs.declared.key.Key.{Key}
use Rattle.cell_base.specs.declared.memory.Memory.{Memory}
use Rattle.cell_base.specs.declared.value.Value.{Value}
use Rattle.sql_tree.specs.declared.table.Table.{Table}
use Rattle.sql_tree.specs.declared.typed.TypedChange.{TypedChange}
use Rattle.row_writes.specs.declared.changes.RowChange.{RowChange}
use Rattle.row_writes.specs.Seen.{change_seen, changes_seen}
use Rattle.row_meaning.specs.Changes.{changes_of}
use Rattle.row_meaning.specs.declared.picture.TableRows.{TableRows}
use Rattle.row_meaning.specs.Pictures.{TableRow, shown_of}
use Rattle.statement_course.specs.declared.demand.Demand.{Demand}
use Rattle.statement_course.specs.declared.demand.Demand.TheVariants.{Scan}
use Rattle.statement_course.specs.declared.demand.PlanAnswer.TheVariants as answers
use Rattle.statement_course.specs.declared.demand.Outcome.TheVariants.{Deleted, Updated}
use Rattle.statement_course.specs.Course.{Course, done, following}
use Rattle.statement_course.specs.Reading.{read_parts}
use Rattle.statement_course.specs.Statements.{course_of_change, course_of_changes, part_of_change}
use Rattle.statement_course.specs.Writing.{deletes, insert_rows, inserts, read_presences, updates, write_all}
use Rattle.statement_course.specs.Reading as course
use Rattle.table_reading.specs.declared.part.Part.{Part}
use Rattle.table_reading.specs.declared.reading.Question.{Question}
use Rattle.table_reading.specs.declared.reading.Question.TheVariants.{Keys, Presence, Field}
use Rattle.table_reading.specs.declared.reading.Reading.{Reading}
use Rattle.table_reading.specs.declared.reading.Step.{Step}
use Rattle.table_reading.specs.Left.{after_keys, part_of, reading_course, step_course}
use Rattle.cell_compile.specs.declared.next.Next.{Next}
use Rattle.cell_compile.specs.declared.next.Next.TheVariants.{Reads}
use Rattle.cell_compile.specs.declared.next.Purpose.{Purpose}
use Rattle.cell_compile.specs.declared.next.Purpose.TheVariants.{Changes}
use Rattle.cell_compile.specs.Plans.{demanded, ending, inserting, next_course}

-- ---- questions of a reading

pub reads_course : (question : Question) (reading : Reading) (purpose : Purpose)
    → next_course (demanded question) (Reads reading purpose) ≡ reading_course question reading (ending purpose)
reads_course (Keys table) reading purpose = refl
reads_course (Presence table key) reading purpose = refl
reads_course (Field table key column) reading purpose = refl

pub keys_course : (demand : Demand) (next : Next) (table : ℕ) (reading : Reading) (purpose same : Purpose) (keys : List Key) (step : Step) (read : Result Step Memory)
    → demand ≡ Scan table → next ≡ Reads reading purpose → same ≡ purpose → read ≡ Ok step
    → IfOk read (λ step. (rest : List TableRows → Course) → step_course step rest ≡ after_keys reading keys rest)
    → step_course step (ending same) ≡ following (next_course demand next) (answers.Keys keys)
keys_course demand next table reading purpose same keys step read e f g h course =
    rw (e, f, g)
    (subst (λ (r : Result Step Memory). IfOk r (λ s. (rest : List TableRows → Course) → step_course s rest ≡ after_keys reading keys rest)) h course (ending purpose))

-- ---- INSERT

inserting_at : (number key_column : ℕ) (rows : List TableRow) (found : Bool)
    → inserting (inserts number key_column rows) (length rows) found ≡ insert_rows number key_column rows found
inserting_at number key_column rows true = refl
inserting_at number key_column rows false = refl

pub inserts_course : (number key_column count : ℕ) (rows : List TableRow) (keys : List Key) (writes : List (Cell × Value))
    → keys ≡ map (λ (r : TableRow). r.0) rows → writes ≡ inserts number key_column rows → count ≡ length rows
    → read_presences number keys false (inserting writes count)
    ≡ read_presences number (map (λ (r : TableRow). r.0) rows) false (insert_rows number key_column rows)
inserts_course number key_column count rows keys writes e f g =
    rw (e, f, g) (ap (read_presences number (map (λ (r : TableRow). r.0) rows) false) (fun_ext (inserting_at number key_column rows)))

-- ---- UPDATE and DELETE

pub one_part : (p : Part) (before parts : List Part) (read : course.Part)
    → before ≡ [] → parts ≡ before ++ p ∷ [] → part_of p ≡ read → map part_of parts ≡ read ∷ []
one_part p before parts read e f g = rw (f, e) (ap (λ (r : course.Part). r ∷ []) g)

pub changed_course : (change : TypedChange) (table copy : Table)
    → copy ≡ table → read_parts (part_of_change table change ∷ []) [] (ending (Changes change copy)) ≡ course_of_change change (Some table)
changed_course change table copy same =
    ap (λ (t : Table). read_parts (part_of_change table change ∷ []) [] (λ picture. course_of_changes change (changes_of t change (shown_of change.table picture)))) same

pub deleted_course : (change : TypedChange) (made : List RowChange) (count : ℕ) (writes : List (Cell × Value))
    → change.delete ≡ true → count ≡ length made → writes ≡ deletes change.table (changes_seen made)
    → write_all writes (done (Deleted count)) ≡ course_of_changes change (Ok (changes_seen made))
deleted_course change made count writes delete e f =
    rw (e, f)
    (ap (λ (n : ℕ). write_all (deletes change.table (changes_seen made)) (done (Deleted n))) (sym (length-map made change_seen))
    ∙ sym (cond-true _ _ _ delete))

pub updated_course : (change : TypedChange) (made : List RowChange) (count : ℕ) (writes : List (Cell × Value))
    → change.delete ≡ false → count ≡ length made → writes ≡ updates change.table (changes_seen made)
    → write_all writes (done (Updated count)) ≡ course_of_changes change (Ok (changes_seen made))
updated_course change made count writes keeps e f =
    rw (e, f)
    (ap (λ (n : ℕ). write_all (updates change.table (changes_seen made)) (done (Updated n))) (sym (length-map made change_seen))
    ∙ sym (cond-false _ _ _ keeps))
