-- The reading part of a statement asks for cells of the tables that there are.
use Rattle.std.proofs.Common.{◌≡◌, ℕ, ◌<◌, ◌==◌, Bool, List, [], ◌∷◌, ◌++◌, length, Option, Some, None, refl}
use Rattle.std.specs.Prelude.{slice_get}
use Rattle.std.specs.List.{list_any, AllByRecursion}
use Rattle.std.proofs.lemmas.Bool.{cond_both}
use Rattle.std.proofs.lemmas.Option.{slice_get_within}
use Rattle.cell_base.specs.declared.cell.Cell.{Cell}
use Rattle.cell_base.specs.declared.key.Key.{Key}
use Rattle.cell_base.specs.declared.value.Value.{Value}
use Rattle.sql_tree.specs.declared.table.Table.{Table}
use Rattle.row_meaning.specs.declared.picture.TableRows.{TableRows}
use Rattle.row_meaning.specs.Combinations.{is_true}
use Rattle.row_meaning.specs.Pictures.{TableRow}
use Rattle.statement_course.specs.Course.{Course, done}
use Rattle.statement_course.specs.Laws.{ReadsFirst, OnlyWrites, MayStand, table_number}
use Rattle.statement_course.specs.Reading.{Part, read_columns, read_row, read_rows, read_keys, read_part, read_parts, part_before, parts_from}
use Rattle.statement_course.specs.Writing.{write_all, read_presences}
use Rattle.statement_course.specs.declared.demand.Outcome.{Outcome}

-- ---- what is written

-- a cell of the first so many tables, and a value that it may hold
pub record IsWritable (n : ℕ) (w : Cell × Value) : Type 0 where
  pub within : table_number w.0 < n
  pub stands : MayStand w.1

only_writes : (n : ℕ) (ws : List (Cell × Value)) (outcome : Outcome) → AllByRecursion (IsWritable n) ws → OnlyWrites n (write_all ws (done outcome))
only_writes n [] outcome h = tt
only_writes n (w ∷ ws) outcome h = (h.0.within, h.0.stands, only_writes n ws outcome h.1)

pub writes_first : (n : ℕ) (ws : List (Cell × Value)) (outcome : Outcome) → AllByRecursion (IsWritable n) ws → ReadsFirst n (write_all ws (done outcome))
writes_first n [] outcome h = tt
writes_first n (w ∷ ws) outcome h = only_writes n (w ∷ ws) outcome h

-- ---- what is read

columns_first : (n table : ℕ) (key : Key) (columns : List ℕ) (read : List (ℕ × Value)) (rest : List (ℕ × Value) → Course)
    → table < n → ((all : List (ℕ × Value)) → ReadsFirst n (rest all)) → ReadsFirst n (read_columns table key columns read rest)
columns_first n table key [] read rest h f = f read
columns_first n table key (column ∷ columns) read rest h f = (h, λ v. columns_first n table key columns (read ++ (column, v) ∷ []) rest h f)

row_first : (n : ℕ) (part : Part) (key : Key) (found : List TableRow) (rest : List TableRow → Course)
    → part.table < n → ((all : List TableRow) → ReadsFirst n (rest all)) → ReadsFirst n (read_row part key found rest)
row_first n part key found rest h f = (
  h,
  λ present. cond_both (is_true present) _ (rest found) (ReadsFirst n)
      (λ _. columns_first n part.table key part.columns [] _ h (λ read. f _)) (λ _. f found),
)

rows_first : (n : ℕ) (part : Part) (keys : List Key) (found : List TableRow) (rest : List TableRow → Course)
    → part.table < n → ((all : List TableRow) → ReadsFirst n (rest all)) → ReadsFirst n (read_rows part keys found rest)
rows_first n part [] found rest h f = f found
rows_first n part (key ∷ keys) found rest h f = row_first n part key found _ h (λ more. rows_first n part keys more rest h f)

keys_first : (n table : ℕ) (point : Option Key) (rest : List Key → Course)
    → table < n → ((keys : List Key) → ReadsFirst n (rest keys)) → ReadsFirst n (read_keys table point rest)
keys_first n table None rest h f = (h, f)
keys_first n table (Some key) rest h f = f (key ∷ [])

part_first : (n : ℕ) (part : Part) (rest : List TableRow → Course)
    → part.table < n → ((all : List TableRow) → ReadsFirst n (rest all)) → ReadsFirst n (read_part part rest)
part_first n part rest h f = keys_first n part.table part.point _ h (λ keys. rows_first n part keys [] rest h f)

-- the table of a part is one of the first so many
abbrev pub IsPartWithin : ℕ → Part → Type 0
IsPartWithin n part = part.table < n

pub parts_first : (n : ℕ) (parts : List Part) (picture : List TableRows) (rest : List TableRows → Course)
    → AllByRecursion (IsPartWithin n) parts → ((all : List TableRows) → ReadsFirst n (rest all)) → ReadsFirst n (read_parts parts picture rest)
parts_first n [] picture rest h f = f picture
parts_first n (part ∷ parts) picture rest h f = part_first n part _ h.0 (λ rows. parts_first n parts _ rest h.1 f)

pub presences_first : (n table : ℕ) (keys : List Key) (found : Bool) (rest : Bool → Course)
    → table < n → ((found : Bool) → ReadsFirst n (rest found)) → ReadsFirst n (read_presences table keys found rest)
presences_first n table [] found rest h f = f found
presences_first n table (key ∷ keys) found rest h f = (h, λ present. presences_first n table keys _ rest h f)

-- ---- the parts of a SELECT

before_within : (n number : ℕ) (found : Option Table) (columns : List ℕ) (point : Option Key) (parts : List Part)
    → ((t : Table) → found ≡ Some t → number < n) → AllByRecursion (IsPartWithin n) parts
    → AllByRecursion (IsPartWithin n) (part_before number found columns point parts)
before_within n number None columns point parts f h = h
before_within n number (Some table) columns point parts f h = (f table refl, h)

pub parts_within : (tables : List Table) (before numbers : List ℕ) (columns : List (List ℕ)) (points : List (Option Key))
    → AllByRecursion (IsPartWithin (length tables)) (parts_from tables before numbers columns points)
parts_within tables before (number ∷ numbers) (columns ∷ more) (point ∷ points) =
    cond_both (list_any (λ n. n == number) before) _ _ (AllByRecursion (IsPartWithin (length tables)))
    (λ _. parts_within tables before numbers more points)
    (λ _. before_within (length tables) number (slice_get tables number) columns point _ (slice_get_within tables number)
    (parts_within tables (number ∷ before) numbers more points))
parts_within tables before _ _ _ = tt
