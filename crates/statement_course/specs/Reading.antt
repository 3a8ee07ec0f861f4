-- What a statement reads: tables one after another, of each its keys or one key, of each key its presence, and of a row that is there
-- the columns that the statement mentions.
use Rattle.std.specs.Prelude.{ℕ, ◌==◌, if◌then◌else◌, List, [], ◌∷◌, ◌++◌, length, slice_get, Option, Some, None}
use Rattle.std.specs.List.{list_any}
use Rattle.cell_base.specs.declared.cell.Cell.TheVariants.{Presence, Field}
use Rattle.cell_base.specs.declared.key.Key.{Key}
use Rattle.cell_base.specs.declared.value.Value.{Value}
use Rattle.sql_tree.specs.declared.table.Table.{Table}
use Rattle.row_meaning.specs.declared.picture.TableRows.{TableRows}
use Rattle.row_meaning.specs.Combinations.{is_true}
use Rattle.row_meaning.specs.Pictures.{TableRow, row_values}
use Rattle.statement_course.specs.Course.{Course, scan, touch}

-- what is read of one table: its number, how many columns it has, which is the key's, the one key that is asked where the table isn't
-- scanned, and the columns that are read, ascending
pub record Part : Type 0 where
  pub table : ℕ
  pub width : ℕ
  pub key_column : ℕ
  pub point : Option Key
  pub columns : List ℕ

-- the columns of a row, after those that were read
abbrev pub read_columns : ℕ → Key → List ℕ → List (ℕ × Value) → (List (ℕ × Value) → Course) → Course
read_columns table key [] read rest = rest read
read_columns table key (column ∷ columns) read rest =
    touch (Field table key column) (λ v. read_columns table key columns (read ++ (column, v) ∷ []) rest)

-- the row of a key, where it is there, after the rows that were found
abbrev pub read_row : Part → Key → List TableRow → (List TableRow → Course) → Course
read_row part key found rest =
    touch (Presence part.table key) (λ present.
    if is_true present
    then read_columns part.table key part.columns [] (λ read. rest (found ++ (key, row_values part.width part.key_column key read) ∷ []))
    else rest found)

abbrev pub read_rows : Part → List Key → List TableRow → (List TableRow → Course) → Course
read_rows part [] found rest = rest found
read_rows part (key ∷ keys) found rest = read_row part key found (λ more. read_rows part keys more rest)

abbrev pub read_keys : ℕ → Option Key → (List Key → Course) → Course
read_keys table None rest = scan table rest
read_keys table (Some key) rest = rest (key ∷ [])

abbrev pub read_part : Part → (List TableRow → Course) → Course
read_part part rest = read_keys part.table part.point (λ keys. read_rows part keys [] rest)

-- all parts in order, after the tables that were read; and then what follows, given all of them
abbrev pub read_parts : List Part → List TableRows → (List TableRows → Course) → Course
read_parts [] picture rest = rest picture
read_parts (part ∷ parts) picture rest =
    read_part part (λ rows. read_parts parts (picture ++ record { table = part.table; rows = rows } ∷ []) rest)

-- what is read of a table at these columns
abbrev pub part_of : ℕ → Table → List ℕ → Option Key → Part
part_of number table columns point =
    record { table = number; width = length table.columns; key_column = table.key; point = point; columns = columns }

abbrev pub part_before : ℕ → Option Table → List ℕ → Option Key → List Part → List Part
part_before number None columns point parts = parts
part_before number (Some table) columns point parts = part_of number table columns point ∷ parts

-- The parts of a SELECT: a table that stands several times in FROM is read once, at its first place. After the tables that stand before.
abbrev pub parts_from : List Table → List ℕ → List ℕ → List (List ℕ) → List (Option Key) → List Part
parts_from tables before (number ∷ numbers) (columns ∷ more) (point ∷ points) =
    if list_any (λ n. n == number) before then parts_from tables before numbers more points
    else part_before number (slice_get tables number) columns point (parts_from tables (number ∷ before) numbers more points)
parts_from tables before _ _ _ = []
