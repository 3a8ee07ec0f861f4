-- The rows that a statement is shown, where each scan of a table lists its keys and each cell has its value.
use Rattle.std.specs.Prelude.{ℕ, Bool, not, ◌==◌, if◌then◌else◌, List, [], ◌∷◌, map, slice_get, Option, Some, None}
use Rattle.std.specs.List.{list_any, filter}
use Rattle.cell_base.specs.declared.cell.Cell.{Cell}
use Rattle.cell_base.specs.declared.cell.Cell.TheVariants.{Presence, Field}
use Rattle.cell_base.specs.declared.key.Key.{Key}
use Rattle.cell_base.specs.declared.value.Value.{Value}
use Rattle.cell_base.specs.declared.value.Value.TheVariants.{Null}
use Rattle.sql_tree.specs.declared.table.Table.{Table}
use Rattle.sql_tree.specs.declared.typed.TypedSelect.{TypedSelect}
use Rattle.typing_rules.specs.Mentions.{numbers_from}
use Rattle.row_meaning.specs.declared.picture.TableRows.{TableRows}
use Rattle.row_meaning.specs.Combinations.{is_true}
use Rattle.row_meaning.specs.Pictures.{TableRow, key_value}
use Rattle.statement_course.specs.Reading.{Part, part_before}

-- ---- which tables a SELECT reads

-- a part for each entry of FROM, in order
abbrev pub entry_parts : List Table → List ℕ → List (List ℕ) → List (Option Key) → List Part
entry_parts tables (number ∷ numbers) (columns ∷ more) (point ∷ points) =
    part_before number (slice_get tables number) columns point (entry_parts tables numbers more points)
entry_parts tables _ _ _ = []

-- of each table the first part alone
abbrev pub first_parts : List Part → List Part
first_parts [] = []
first_parts (part ∷ parts) = part ∷ filter (λ (p : Part). not (part.table == p.table)) (first_parts parts)

-- each table of FROM once, in order of first mention
abbrev pub parts_in_order : List Table → TypedSelect → List Part
parts_in_order tables select = first_parts (entry_parts tables select.tables select.mentioned select.points)

-- ---- the rows of a table

-- the one key, or else those that are listed
abbrev pub point_or : List Key → Option Key → List Key
point_or keys None = keys
point_or keys (Some key) = key ∷ []

-- the keys that are asked for
abbrev pub keys_of : (ℕ → List Key) → Part → List Key
keys_of listed part = point_or (listed part.table) part.point

-- whether the row of a key is there
abbrev pub is_there : (Cell → Value) → ℕ → Key → Bool
is_there value table key = is_true (value (Presence table key))

-- what a row shows at a column: the value of its cell, where the column is read; its key, where the column is the key's; and else null
abbrev pub shown_at : (Cell → Value) → Part → Key → ℕ → Value
shown_at value part key column =
    if list_any (λ c. c == column) part.columns then value (Field part.table key column)
    else (if column == part.key_column then key_value key else Null)

abbrev pub shown_row : (Cell → Value) → Part → Key → TableRow
shown_row value part key = (key, map (shown_at value part key) (numbers_from 0 part.width))

-- the rows that are there, in the order of their keys
abbrev pub shown_rows : (ℕ → List Key) → (Cell → Value) → Part → List TableRow
shown_rows listed value part = map (shown_row value part) (filter (is_there value part.table) (keys_of listed part))

-- the rows of all tables
abbrev pub picture_of : (ℕ → List Key) → (Cell → Value) → List Part → List TableRows
picture_of listed value parts = map (λ (part : Part). record { table = part.table; rows = shown_rows listed value part }) parts
