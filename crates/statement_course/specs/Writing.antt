-- What a statement writes: rows ascending by their keys, of each its presence first and then its columns in order of declaration.
use Rattle.std.specs.Prelude.{ℕ, ◌+◌, Bool, true, false, ◌==◌, if◌then◌else◌, List, [], ◌∷◌, ◌++◌, map, length}
use Rattle.cell_base.specs.declared.cell.Cell.{Cell}
use Rattle.cell_base.specs.declared.cell.Cell.TheVariants.{Presence, Field}
use Rattle.cell_base.specs.declared.key.Key.{Key}
use Rattle.cell_base.specs.declared.sql_state.SqlState.TheVariants.{S23505}
use Rattle.cell_base.specs.declared.value.Value.{Value}
use Rattle.cell_base.specs.declared.value.Value.TheVariants.{Flag}
use Rattle.row_meaning.specs.Combinations.{is_true}
use Rattle.row_meaning.specs.Pictures.{TableRow}
use Rattle.row_meaning.specs.Changes.{Change}
use Rattle.statement_course.specs.Course.{Course, touch, write, done}
use Rattle.statement_course.specs.declared.demand.Outcome.TheVariants.{Failed, Inserted}

-- so many writes, and then what follows
abbrev pub write_all : List (Cell × Value) → Course → Course
write_all [] rest = rest
write_all (w ∷ ws) rest = write w.0 w.1 (write_all ws rest)

-- a row's columns but for its key, where the columns are numbered from this one on
abbrev pub fields_of : ℕ → Key → ℕ → ℕ → List Value → List (Cell × Value)
fields_of table key key_column i [] = []
fields_of table key key_column i (v ∷ vs) =
    if i == key_column then fields_of table key key_column (i + 1) vs
    else (Field table key i, v) ∷ fields_of table key key_column (i + 1) vs

-- the writes of rows that are inserted into the table of this number
abbrev pub inserts : ℕ → ℕ → List TableRow → List (Cell × Value)
inserts table key_column [] = []
inserts table key_column (row ∷ rows) =
    (Presence table row.0, Flag true) ∷ fields_of table row.0 key_column 0 row.1 ++ inserts table key_column rows

-- the presence of all keys is read, ascending, and then it goes on, given whether a row is there
abbrev pub read_presences : ℕ → List Key → Bool → (Bool → Course) → Course
read_presences table [] found rest = rest found
read_presences table (key ∷ keys) found rest =
    touch (Presence table key) (λ present. read_presences table keys (if is_true present then true else found) rest)

-- rows are inserted where no row of their keys is there
abbrev pub insert_rows : ℕ → ℕ → List TableRow → Bool → Course
insert_rows table key_column rows true = done (Failed S23505)
insert_rows table key_column rows false = write_all (inserts table key_column rows) (done (Inserted (length rows)))

abbrev pub updates_of : ℕ → Change → List (Cell × Value)
updates_of table change = map (λ (f : ℕ × Value). (Field table change.key f.0, f.1)) change.fields

-- the writes of rows that are updated
abbrev pub updates : ℕ → List Change → List (Cell × Value)
updates table [] = []
updates table (c ∷ cs) = updates_of table c ++ updates table cs

-- the writes of rows that are deleted
abbrev pub deletes : ℕ → List Change → List (Cell × Value)
deletes table changes = map (λ (c : Change). (Presence table c.key, Flag false)) changes
