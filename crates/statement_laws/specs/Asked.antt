-- What a statement demands: what it reads, and what it writes.
use Rattle.std.specs.Prelude.{ℕ, Bool, true, false, not, ◌==◌, if◌then◌else◌, List, [], ◌∷◌, ◌++◌, map, flat_map, length, slice_get, unwrap_or, Option, Some, None, Ok, Err}
use Rattle.std.specs.List.{list_any, filter}
use Rattle.cell_base.specs.declared.cell.Cell.{Cell}
use Rattle.cell_base.specs.declared.cell.Cell.TheVariants.{Presence, Field}
use Rattle.cell_base.specs.declared.key.Key.{Key}
use Rattle.cell_base.specs.declared.sql_state.SqlState.TheVariants.{S23505}
use Rattle.cell_base.specs.declared.value.Value.{Value}
use Rattle.cell_base.specs.declared.value.Value.TheVariants.{Flag, Null}
use Rattle.sql_tree.specs.declared.table.Table.{Table}
use Rattle.sql_tree.specs.declared.typed.TypedChange.{TypedChange}
use Rattle.typing_rules.specs.Mentions.{numbers_from}
use Rattle.typing_rules.specs.Outcome.{Outcome as Result}
use Rattle.row_meaning.specs.Pictures.{TableRow}
use Rattle.row_meaning.specs.Changes as changes
use Rattle.statement_course.specs.declared.demand.Demand.{Demand}
use Rattle.statement_course.specs.declared.demand.Demand.TheVariants.{Scan, Touch, Write, Reply}
use Rattle.statement_course.specs.declared.demand.Outcome.TheVariants.{Inserted, Updated, Deleted, Failed}
use Rattle.statement_course.specs.Reading.{Part}
use Rattle.statement_laws.specs.Shown.{keys_of, is_there}

-- ---- what is read

-- of a key its presence, and where its row is there the columns that are read
abbrev pub asks_key : (Cell → Value) → Part → Key → List Demand
asks_key value part key =
    Touch (Presence part.table key)
    ∷ (if is_there value part.table key then map (λ column. Touch (Field part.table key column)) part.columns else [])

-- a scan, where the table isn't read at one key
abbrev pub asks_scan : ℕ → Option Key → List Demand
asks_scan table None = Scan table ∷ []
asks_scan table (Some key) = []

-- of a table its keys, one after another
abbrev pub asks_part : (ℕ → List Key) → (Cell → Value) → Part → List Demand
asks_part listed value part = asks_scan part.table part.point ++ flat_map (asks_key value part) (keys_of listed part)

-- ---- what an UPDATE or a DELETE writes

-- of a row that is deleted its presence, of one that is updated the columns that change
abbrev pub writes_change : TypedChange → changes.Change → List Demand
writes_change change c =
    if change.delete then Write (Presence change.table c.key) (Flag false) ∷ []
    else map (λ (f : ℕ × Value). Write (Field change.table c.key f.0) f.1) c.fields

-- the changes and their number, or the code
abbrev pub writes_changes : TypedChange → Result (List changes.Change) → List Demand
writes_changes change (Err code) = Reply (Failed code) ∷ []
writes_changes change (Ok made) =
    flat_map (writes_change change) made ++ Reply (if change.delete then Deleted (length made) else Updated (length made)) ∷ []

-- ---- what an INSERT asks and writes

-- the columns of a row but for its key, in order of declaration
abbrev pub other_columns : ℕ → List Value → List ℕ
other_columns key_column values = filter (λ column. not (column == key_column)) (numbers_from 0 (length values))

-- of a row its presence, and then its columns
abbrev pub writes_row : ℕ → ℕ → TableRow → List Demand
writes_row table key_column row =
    Write (Presence table row.0) (Flag true)
    ∷ map (λ column. Write (Field table row.0 column) (unwrap_or (slice_get row.1 column) Null)) (other_columns key_column row.1)

-- the rows and their number, where none of their keys is there
abbrev pub writes_new : ℕ → ℕ → List TableRow → Bool → List Demand
writes_new table key_column rows found =
    if found then Reply (Failed S23505) ∷ [] else flat_map (writes_row table key_column) rows ++ Reply (Inserted (length rows)) ∷ []

-- the presence of each key, and then the rows; or the code
abbrev pub inserts_rows : (Cell → Value) → ℕ → Table → Result (List TableRow) → List Demand
inserts_rows value number table (Err code) = Reply (Failed code) ∷ []
inserts_rows value number table (Ok rows) =
    map (λ (r : TableRow). Touch (Presence number r.0)) rows
    ++ writes_new number table.key rows (list_any (λ (r : TableRow). is_there value number r.0) rows)
