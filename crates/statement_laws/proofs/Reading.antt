-- What the reading part of a statement demands, and with what it goes on.
use Rattle.std.proofs.Common.{◌≡◌, ℕ, Bool, true, false, List, [], ◌∷◌, ◌++◌, map, Option, Some, None, refl, sym, ap, ◌∙◌, append_assoc}
use Rattle.std.specs.Prelude.{if◌then◌else◌, flat_map}
use Rattle.std.specs.List.{filter}
use Rattle.std.proofs.lemmas.List.{append-nil}
use Rattle.cell_base.specs.declared.cell.Cell.{Cell}
use Rattle.cell_base.specs.declared.cell.Cell.TheVariants.{Presence, Field}
use Rattle.cell_base.specs.declared.key.Key.{Key}
use Rattle.cell_base.specs.declared.value.Value.{Value}
use Rattle.row_meaning.specs.declared.picture.TableRows.{TableRows}
use Rattle.row_meaning.specs.Pictures.{TableRow, row_values}
use Rattle.statement_course.specs.declared.demand.Demand.{Demand}
use Rattle.statement_course.specs.declared.demand.Demand.TheVariants.{Touch}
use Rattle.statement_course.specs.Course.{Course}
use Rattle.statement_course.specs.Reading.{Part, read_columns, read_row, read_rows, read_keys, read_part, read_parts}
use Rattle.statement_laws.specs.Demands.{demands_of}
use Rattle.statement_laws.specs.Shown.{point_or, keys_of, is_there, shown_row, shown_rows, picture_of}
use Rattle.statement_laws.specs.Asked.{asks_key, asks_scan, asks_part}
use Rattle.statement_laws.proofs.ShownRows.{row_shown}

-- one more item after those that stand before
one_more : {A : Type 0} (before : List A) (x : A) (more : List A) → (before ++ x ∷ []) ++ more ≡ before ++ x ∷ more
one_more before x more = append_assoc before (x ∷ []) more

-- ---- the columns of a row

abbrev column_demands : ℕ → Key → List ℕ → List Demand
column_demands table key columns = map (λ column. Touch (Field table key column)) columns

abbrev column_values : (Cell → Value) → ℕ → Key → List ℕ → List (ℕ × Value)
column_values value table key columns = map (λ c. (c, value (Field table key c))) columns

columns_read : (listed : ℕ → List Key) (value : Cell → Value) (table : ℕ) (key : Key) (columns : List ℕ) (read : List (ℕ × Value))
    (rest : List (ℕ × Value) → Course)
    → demands_of listed value (read_columns table key columns read rest)
    ≡ column_demands table key columns ++ demands_of listed value (rest (read ++ column_values value table key columns))
columns_read listed value table key [] read rest = ap (λ all. demands_of listed value (rest all)) (sym (append-nil read))
columns_read listed value table key (c ∷ cs) read rest =
    ap (λ ds. Touch (Field table key c) ∷ ds)
    (columns_read listed value table key cs (read ++ (c, value (Field table key c)) ∷ []) rest
    ∙ ap (λ all. column_demands table key cs ++ demands_of listed value (rest all))
    (one_more read (c, value (Field table key c)) (column_values value table key cs)))

-- ---- the rows of a table

-- the row of a key, where it is there
abbrev rows_at : (Cell → Value) → Part → Key → Bool → List TableRow
rows_at value part key true = shown_row value part key ∷ []
rows_at value part key false = []

abbrev found_at : (Cell → Value) → Part → List Key → List TableRow
found_at value part keys = flat_map (λ key. rows_at value part key (is_there value part.table key)) keys

row_here : (listed : ℕ → List Key) (value : Cell → Value) (part : Part) (key : Key) (found : List TableRow) (rest : List TableRow → Course) (there : Bool)
    → demands_of listed value
    (if there then read_columns part.table key part.columns [] (λ read. rest (found ++ (key, row_values part.width part.key_column key read) ∷ []))
    else rest found)
    ≡ (if there then column_demands part.table key part.columns else []) ++ demands_of listed value (rest (found ++ rows_at value part key there))
row_here listed value part key found rest true =
    columns_read listed value part.table key part.columns [] (λ read. rest (found ++ (key, row_values part.width part.key_column key read) ∷ []))
    ∙ ap (λ (values : List Value). column_demands part.table key part.columns ++ demands_of listed value (rest (found ++ (key, values) ∷ []))) (row_shown value part key)
row_here listed value part key found rest false = ap (λ all. demands_of listed value (rest all)) (sym (append-nil found))

row_read : (listed : ℕ → List Key) (value : Cell → Value) (part : Part) (key : Key) (found : List TableRow) (rest : List TableRow → Course)
    → demands_of listed value (read_row part key found rest)
    ≡ asks_key value part key ++ demands_of listed value (rest (found ++ rows_at value part key (is_there value part.table key)))
row_read listed value part key found rest =
    ap (λ ds. Touch (Presence part.table key) ∷ ds) (row_here listed value part key found rest (is_there value part.table key))

rows_read : (listed : ℕ → List Key) (value : Cell → Value) (part : Part) (keys : List Key) (found : List TableRow) (rest : List TableRow → Course)
    → demands_of listed value (read_rows part keys found rest)
    ≡ flat_map (asks_key value part) keys ++ demands_of listed value (rest (found ++ found_at value part keys))
rows_read listed value part [] found rest = ap (λ all. demands_of listed value (rest all)) (sym (append-nil found))
rows_read listed value part (key ∷ keys) found rest =
    let here = rows_at value part key (is_there value part.table key) in
    row_read listed value part key found (λ more. read_rows part keys more rest)
    ∙ (ap (λ ds. asks_key value part key ++ ds)
    (rows_read listed value part keys (found ++ here) rest
    ∙ ap (λ all. flat_map (asks_key value part) keys ++ demands_of listed value (rest all)) (append_assoc found here (found_at value part keys)))
    ∙ sym (append_assoc (asks_key value part key) (flat_map (asks_key value part) keys) _))

-- the rows that were found are those of the keys that are there
found_kept : (value : Cell → Value) (part : Part) (keys : List Key)
    → found_at value part keys ≡ map (shown_row value part) (filter (is_there value part.table) keys)
found_kept value part [] = refl
found_kept value part (key ∷ keys) = one_kept value part key keys (is_there value part.table key) (found_kept value part keys)
  where
    one_kept : (value : Cell → Value) (part : Part) (key : Key) (keys : List Key) (there : Bool)
        → found_at value part keys ≡ map (shown_row value part) (filter (is_there value part.table) keys)
        → rows_at value part key there ++ found_at value part keys
        ≡ map (shown_row value part) (if there then key ∷ filter (is_there value part.table) keys else filter (is_there value part.table) keys)
    one_kept value part key keys true e = ap (λ rows. shown_row value part key ∷ rows) e
    one_kept value part key keys false e = e

-- ---- tables

keys_read : (listed : ℕ → List Key) (value : Cell → Value) (table : ℕ) (point : Option Key) (rest : List Key → Course)
    → demands_of listed value (read_keys table point rest)
    ≡ asks_scan table point ++ demands_of listed value (rest (point_or (listed table) point))
keys_read listed value table None rest = refl
keys_read listed value table (Some key) rest = refl

pub part_read : (listed : ℕ → List Key) (value : Cell → Value) (part : Part) (rest : List TableRow → Course)
    → demands_of listed value (read_part part rest) ≡ asks_part listed value part ++ demands_of listed value (rest (shown_rows listed value part))
part_read listed value part rest =
    let keys = keys_of listed part in
    keys_read listed value part.table part.point (λ ks. read_rows part ks [] rest)
    ∙ (ap (λ ds. asks_scan part.table part.point ++ ds)
    (rows_read listed value part keys [] rest
    ∙ ap (λ rows. flat_map (asks_key value part) keys ++ demands_of listed value (rest rows)) (found_kept value part keys))
    ∙ sym (append_assoc (asks_scan part.table part.point) (flat_map (asks_key value part) keys) _))

pub parts_read : (listed : ℕ → List Key) (value : Cell → Value) (parts : List Part) (picture : List TableRows) (rest : List TableRows → Course)
    → demands_of listed value (read_parts parts picture rest)
    ≡ flat_map (asks_part listed value) parts ++ demands_of listed value (rest (picture ++ picture_of listed value parts))
parts_read listed value [] picture rest = ap (λ all. demands_of listed value (rest all)) (sym (append-nil picture))
parts_read listed value (part ∷ parts) picture rest =
    let here : TableRows = record { table = part.table; rows = shown_rows listed value part } in
    part_read listed value part (λ rows. read_parts parts (picture ++ record { table = part.table; rows = rows } ∷ []) rest)
    ∙ (ap (λ ds. asks_part listed value part ++ ds)
    (parts_read listed value parts (picture ++ here ∷ []) rest
    ∙ ap (λ all. flat_map (asks_part listed value) parts ++ demands_of listed value (rest all)) (one_more picture here (picture_of listed value parts)))
    ∙ sym (append_assoc (asks_part listed value part) (flat_map (asks_part listed value) parts) _))
