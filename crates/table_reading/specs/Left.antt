-- What is still to come of a reading of tables, and how many answers it takes at most.
use Rattle.std.specs.Prelude.{ℕ, ◌+◌, ◌*◌, ◌^◌, if◌then◌else◌, List, [], ◌∷◌, ◌++◌, map, length, None}
use Rattle.cell_base.specs.declared.cell.Cell.TheVariants.{Presence, Field}
use Rattle.cell_base.specs.declared.key.Key.{Key}
use Rattle.cell_base.specs.declared.value.Value.{Value}
use Rattle.row_meaning.specs.declared.picture.TableRows.{TableRows}
use Rattle.row_meaning.specs.Combinations.{is_true}
use Rattle.row_meaning.specs.Pictures.{TableRow, row_values}
use Rattle.statement_course.specs.Course.{Course, scan, touch}
use Rattle.statement_course.specs.Reading.{read_columns, read_rows, read_parts}
use Rattle.statement_course.specs.Reading as course
use Rattle.table_reading.specs.declared.part.Part.{Part}
use Rattle.table_reading.specs.declared.reading.Tables.{Tables}
use Rattle.table_reading.specs.declared.reading.Question.{Question}
use Rattle.table_reading.specs.declared.reading.Question.TheVariants as questions
use Rattle.table_reading.specs.declared.reading.Reading.{Reading}
use Rattle.table_reading.specs.declared.reading.Step.{Step}
use Rattle.table_reading.specs.declared.reading.Step.TheVariants.{Asks, Ends}

-- ---- what is still to come

-- what is read of a table, as the definitions of courses have it
abbrev pub part_of : Part → course.Part
part_of p = record { table = p.table; width = p.width; key_column = p.key_column; point = p.point; columns = p.columns }

abbrev pub tables_course : List Part → List TableRows → (List TableRows → Course) → Course
tables_course parts picture rest = read_parts (map part_of parts) picture rest

-- the table that is being read, whose keys are known
abbrev pub part_here : Tables → course.Part
part_here t = record { table = t.table; width = t.width; key_column = t.key_column; point = None; columns = t.columns }

-- the rows of these keys, after those that were found, and then the other tables
abbrev pub rows_course : Tables → List Key → List TableRow → (List TableRows → Course) → Course
rows_course t keys found rest =
    read_rows (part_here t) keys found
    (λ rows. tables_course t.parts (t.picture ++ record { table = t.table; rows = rows } ∷ []) rest)

-- these columns of the row of a key, after those that were read, and then the other rows
abbrev pub columns_course : Tables → List Key → List TableRow → Key → List ℕ → List (ℕ × Value) → (List TableRows → Course) → Course
columns_course t keys found key columns read rest =
    read_columns t.table key columns read
    (λ all. rows_course t keys (found ++ (key, row_values t.width t.key_column key all) ∷ []) rest)

-- after the keys of a scan
abbrev pub after_keys : Reading → List Key → (List TableRows → Course) → Course
after_keys r keys rest = rows_course r.tables keys [] rest

-- after the presence of a key
abbrev pub after_presence : Reading → Key → Value → (List TableRows → Course) → Course
after_presence r key present rest =
    if is_true present then columns_course r.tables r.keys r.found key r.tables.columns [] rest
    else rows_course r.tables r.keys r.found rest

-- after the value of a column
abbrev pub after_field : Reading → Key → ℕ → Value → (List TableRows → Course) → Course
after_field r key column v rest = columns_course r.tables r.keys r.found key r.columns (r.read ++ (column, v) ∷ []) rest

-- a reading that has asked for this; then what follows, given all tables
abbrev pub reading_course : Question → Reading → (List TableRows → Course) → Course
reading_course (questions.Keys table) r rest = scan table (λ keys. after_keys r keys rest)
reading_course (questions.Presence table key) r rest = touch (Presence table key) (λ present. after_presence r key present rest)
reading_course (questions.Field table key column) r rest = touch (Field table key column) (λ v. after_field r key column v rest)

abbrev pub step_course : Step → (List TableRows → Course) → Course
step_course (Asks question reading) rest = reading_course question reading rest
step_course (Ends picture) rest = rest picture

-- ---- how many answers it takes at most; a scan lists fewer than 2^32 keys

-- a row is asked for its presence and for its columns
abbrev pub row_answers : List ℕ → ℕ
row_answers columns = 1 + length columns

abbrev pub tables_answers : List Part → ℕ
tables_answers [] = 0
tables_answers (p ∷ ps) = 2 ^ 32 * row_answers p.columns + tables_answers ps

abbrev pub rows_answers : Tables → List Key → ℕ
rows_answers t keys = length keys * row_answers t.columns + tables_answers t.parts

abbrev pub reading_answers : Question → Reading → ℕ
reading_answers (questions.Keys table) r = 2 ^ 32 * row_answers r.tables.columns + tables_answers r.tables.parts
reading_answers (questions.Presence table key) r = row_answers r.tables.columns + rows_answers r.tables r.keys
reading_answers (questions.Field table key column) r = 1 + length r.columns + rows_answers r.tables r.keys

abbrev pub step_answers : Step → ℕ
step_answers (Asks question reading) = reading_answers question reading
step_answers (Ends picture) = 0
