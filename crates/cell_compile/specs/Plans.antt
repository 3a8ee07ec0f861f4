-- What is still to come of a statement whose plan was made, and how many answers it takes at most.
use Rattle.std.specs.Prelude.{ℕ, ◌+◌, ◌^◌, Bool, true, false, if◌then◌else◌, List, length}
use Rattle.cell_base.specs.declared.cell.Cell.{Cell}
use Rattle.cell_base.specs.declared.cell.Cell.TheVariants.{Presence, Field}
use Rattle.cell_base.specs.declared.sql_state.SqlState.TheVariants.{S23505, S53200}
use Rattle.cell_base.specs.declared.value.Value.{Value}
use Rattle.row_meaning.specs.declared.picture.TableRows.{TableRows}
use Rattle.row_meaning.specs.Changes.{changes_of}
use Rattle.row_meaning.specs.Combinations.{is_true}
use Rattle.row_meaning.specs.Pictures.{shown_of}
use Rattle.row_meaning.specs.Selection.{selected}
use Rattle.statement_course.specs.declared.demand.Demand.{Demand}
use Rattle.statement_course.specs.declared.demand.Demand.TheVariants.{Scan, Touch, Write, Reply}
use Rattle.statement_course.specs.declared.demand.Outcome.TheVariants.{Inserted, Failed}
use Rattle.statement_course.specs.Course.{Course, scan, touch, write, done}
use Rattle.statement_course.specs.Statements.{rows_outcome, course_of_changes}
use Rattle.statement_course.specs.Writing.{write_all, read_presences}
use Rattle.table_reading.specs.declared.reading.Question.{Question}
use Rattle.table_reading.specs.declared.reading.Question.TheVariants.{Keys}
use Rattle.table_reading.specs.declared.reading.Question.TheVariants as questions
use Rattle.table_reading.specs.Left.{reading_course, reading_answers}
use Rattle.cell_compile.specs.declared.next.Insertion.{Insertion}
use Rattle.cell_compile.specs.declared.next.Next.{Next}
use Rattle.cell_compile.specs.declared.next.Next.TheVariants.{Reads, Inserts, Writes, Nothing}
use Rattle.cell_compile.specs.declared.next.Purpose.{Purpose}
use Rattle.cell_compile.specs.declared.next.Purpose.TheVariants.{Selects, Changes}
use Rattle.cell_compile.specs.declared.plan.Plan.{Plan}

-- ---- what is still to come

-- nothing comes of a plan that is spent
abbrev pub spent : Course
spent = done (Failed S53200)

-- what is made of the tables that were read
abbrev pub ending : Purpose → List TableRows → Course
ending (Selects select) picture = done (rows_outcome select (selected select picture))
ending (Changes change table) picture = course_of_changes change (changes_of table change (shown_of change.table picture))

-- so many rows are written where no row of their keys is there
abbrev pub inserting : List (Cell × Value) → ℕ → Bool → Course
inserting writes count true = done (Failed S23505)
inserting writes count false = write_all writes (done (Inserted count))

abbrev pub insertion_course : Insertion → Course
insertion_course i = read_presences i.table i.keys i.found (inserting i.writes i.count)

-- after the presence of a key
abbrev pub after_presence : Insertion → Value → Course
after_presence i present = read_presences i.table i.keys (if is_true present then true else i.found) (inserting i.writes i.count)

-- the demand that a question of a reading makes
abbrev pub demanded : Question → Demand
demanded (Keys table) = Scan table
demanded (questions.Presence table key) = Touch (Presence table key)
demanded (questions.Field table key column) = Touch (Field table key column)

-- What follows a demand. Of two that don't go together nothing comes.
abbrev pub next_course : Demand → Next → Course
next_course (Scan table) (Reads reading purpose) = reading_course (Keys table) reading (ending purpose)
next_course (Touch (Presence table key)) (Reads reading purpose) = reading_course (questions.Presence table key) reading (ending purpose)
next_course (Touch (Field table key column)) (Reads reading purpose) = reading_course (questions.Field table key column) reading (ending purpose)
next_course (Touch cell) (Inserts insertion) = touch cell (after_presence insertion)
next_course (Write cell value) (Writes writes outcome) = write cell value (write_all writes (done outcome))
next_course (Reply outcome) _ = done outcome
next_course (Scan table) _ = scan table (λ keys. spent)
next_course (Touch cell) _ = touch cell (λ value. spent)
next_course (Write cell value) _ = write cell value spent

-- what is still to come of a plan's statement
unfoldable pub rest_of : Plan → Course
rest_of plan = next_course plan.demand plan.next

-- ---- how many answers it takes at most

-- fewer than 2^64 cells are written
abbrev pub next_answers : Demand → Next → ℕ
next_answers (Scan table) (Reads reading purpose) = 2 ^ 64 + reading_answers (Keys table) reading
next_answers (Touch (Presence table key)) (Reads reading purpose) = 2 ^ 64 + reading_answers (questions.Presence table key) reading
next_answers (Touch (Field table key column)) (Reads reading purpose) = 2 ^ 64 + reading_answers (questions.Field table key column) reading
next_answers demand (Reads reading purpose) = 0
next_answers demand (Inserts insertion) = 2 ^ 64 + (1 + length insertion.keys)
next_answers demand (Writes writes outcome) = 1 + length writes
next_answers demand Nothing = 0

unfoldable pub left_of : Plan → ℕ
left_of plan = next_answers plan.demand plan.next
