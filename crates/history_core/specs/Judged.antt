-- What is found in cells that ascend, and what each cell of an initial state has to be.
use Rattle.std.specs.Prelude.{◌≡◌, ◌≢◌, ◌<◌, ◌≤◌, ◌+◌, ◌↔◌, ℕ, Bool, true, false, nat_lt, Option, Some, None, List, Contains, length, slice_get}
use Rattle.cell_base.specs.declared.cell.Cell.{Cell}
use Rattle.cell_base.specs.declared.cell.Cell.TheVariants.{Presence, Field}
use Rattle.cell_base.specs.declared.key.Key.{Key}
use Rattle.cell_base.specs.declared.value.Value.{Value}
use Rattle.cell_base.specs.declared.value.Value.TheVariants.{Flag}
use Rattle.cell_base.specs.contracts.cell.CellOrd.TheImpl as cell_order
use Rattle.std.specs.declared.cmp.Ordering.TheVariants.{Less}
use Rattle.sql_tree.specs.declared.table.Table.{Table}
use Rattle.history_core.specs.Initial.{IsThereInitially, IsStorable}

-- the presence of a row, or its field of a column
abbrev pub cell_at : ℕ → Key → Option ℕ → Cell
cell_at table key None = Presence table key
cell_at table key (Some column) = Field table key column

-- the presence of a row of a table below this one
abbrev pub is_row_below : Cell → ℕ → Bool
is_row_below (Presence table key) bound = nat_lt table bound
is_row_below (Field table key column) bound = false

-- the cells before the place are the rows of tables below this one, and those from the place on are not
pub record IsCut (cells : List (Cell × Value)) (bound place : ℕ) : Type 0 where
  pub within : place ≤ length cells
  pub before : (k : ℕ) (e : Cell × Value) → k < place → slice_get cells k ≡ Some e → is_row_below e.0 bound ≡ true
  pub after : (k : ℕ) (e : Cell × Value) → place ≤ k → slice_get cells k ≡ Some e → is_row_below e.0 bound ≡ false

-- the cell at the place is above the one before it
abbrev pub IsAboveLast : List (Cell × Value) → ℕ → Type 0
IsAboveLast cells place =
    (k : ℕ) (a b : Cell × Value) → k + 1 ≡ place → slice_get cells k ≡ Some a → slice_get cells place ≡ Some b → (cell_order.ghosts).cmp a.0 b.0 ≡ Less

-- the row has the field of the column, or the column is the key's
pub record HasField (cells : List (Cell × Value)) (table : ℕ) (key : Key) (of_key column : ℕ) : Type 0 where
  pub has : column ≢ of_key → (value : Value) × Contains cells (Field table key column, value)

-- the row has each field of its table's columns but the key's
abbrev pub HasFields : List (Cell × Value) → ℕ → Key → Table → Type 0
HasFields cells table key of_table = (column : ℕ) → column < length of_table.columns → HasField cells table key of_table.key column

-- the table is there, and the row is whole
pub record IsWholeRow (tables : List Table) (cells : List (Cell × Value)) (table : ℕ) (key : Key) : Type 0 where
  pub of_table : Table
  pub is : slice_get tables table ≡ Some of_table
  pub whole : HasFields cells table key of_table

-- the table is there, and has the column beside its key
pub record HasColumn (tables : List Table) (table column : ℕ) : Type 0 where
  pub of_table : Table
  pub is : slice_get tables table ≡ Some of_table
  pub within : column < length of_table.columns
  pub apart : column ≢ of_table.key

-- what a cell of an initial state has to be
abbrev pub IsRightCell : List Table → List (Cell × Value) → Cell → Value → Type 0
IsRightCell tables cells (Presence table key) value = (value ≡ Flag true) × IsWholeRow tables cells table key
IsRightCell tables cells (Field table key column) value =
    IsThereInitially cells table key × IsStorable value × HasColumn tables table column

abbrev pub IsRightAt : List Table → List (Cell × Value) → ℕ → Type 0
IsRightAt tables cells place = (e : Cell × Value) → slice_get cells place ≡ Some e → IsRightCell tables cells e.0 e.1
