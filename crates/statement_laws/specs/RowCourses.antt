-- When a course keeps the rows of tables whole.
use Rattle.std.specs.Prelude.{◌≡◌, ◌⊎◌, ◌<◌, ℕ, ◌+◌, ◌==◌, if◌then◌else◌, true, List, [], ◌∷◌, length, drop, slice_get, Option, Some, None, Ok, Contains}
use Rattle.cell_base.specs.declared.cell.Cell.{Cell}
use Rattle.cell_base.specs.declared.cell.Cell.TheVariants.{Presence, Field}
use Rattle.cell_base.specs.declared.key.Key.{Key}
use Rattle.cell_base.specs.declared.value.Value.{Value}
use Rattle.cell_base.specs.declared.value.Value.TheVariants.{Flag}
use Rattle.sql_tree.specs.declared.statement.Statement.{Statement}
use Rattle.sql_tree.specs.declared.table.Column.{Column}
use Rattle.sql_tree.specs.declared.table.Table.{Table}
use Rattle.sql_tree.specs.declared.typed.Typed.{Typed}
use Rattle.typing_rules.specs.Typed.{typed}
use Rattle.row_meaning.specs.Combinations.{is_true}
use Rattle.statement_course.specs.Course.{Course, scan, touch, write, done}
use Rattle.statement_course.specs.Statements.{course_of}
use Rattle.statement_laws.specs.WholeRows.{IsField}

-- the fields of a row but for the key's, in order of declaration, where the columns are numbered from this one on
abbrev pub fields_from : ℕ → Key → ℕ → ℕ → List Column → List Cell
fields_from table key key_column i [] = []
fields_from table key key_column i (c ∷ cs) =
    if i == key_column then fields_from table key key_column (i + 1) cs else Field table key i ∷ fields_from table key key_column (i + 1) cs

abbrev pub fields_in : ℕ → Key → Option Table → List Cell
fields_in table key None = []
fields_in table key (Some t) = fields_from table key t.key 0 t.columns

-- all fields of a row
abbrev pub fields_of_row : List Table → ℕ → Key → List Cell
fields_of_row tables table key = fields_in table key (slice_get tables table)

-- the rows that were shown to be there, by table and key, once the cell has this value
abbrev pub shown_after : List (ℕ × Key) → Cell → Value → List (ℕ × Key)
shown_after shown (Presence table key) value = if is_true value then (table, key) ∷ shown else shown
shown_after shown (Field table key column) value = shown

-- a field is asked for where it is one of its table, and its row was shown to be there
abbrev pub MayAsk : List Table → List (ℕ × Key) → Cell → Type 0
MayAsk tables shown (Presence table key) = Unit {0}
MayAsk tables shown (Field table key column) = IsField tables table column × Contains shown (table, key)

-- no row is half written, or the cell is the next of its fields; a row that is there begins with its presence
abbrev pub MayWrite : List Table → List Cell → Cell → Value → Type 0
MayWrite tables owed (Presence table key) (Flag true) = (owed ≡ []) × (table < length tables)
MayWrite tables owed cell value = (owed ≡ []) ⊎ ((rest : List Cell) × (owed ≡ cell ∷ rest))

-- the fields that a row owes once the cell is written
abbrev pub owed_after : List Table → List Cell → Cell → Value → List Cell
owed_after tables owed (Presence table key) (Flag true) = fields_of_row tables table key
owed_after tables owed cell value = drop 1 owed

-- A course keeps the rows of these tables whole, where these rows were shown to be there and these fields are owed. What is owed is
-- written before anything is asked for, and before it is done.
abbrev pub KeepsWhole : List Table → List (ℕ × Key) → List Cell → Course → Type 0
KeepsWhole tables shown owed (scan table rest) = (owed ≡ []) × ((keys : List Key) → KeepsWhole tables shown owed (rest keys))
KeepsWhole tables shown owed (touch cell rest) =
    (owed ≡ []) × MayAsk tables shown cell × ((value : Value) → KeepsWhole tables (shown_after shown cell value) owed (rest value))
KeepsWhole tables shown owed (write cell value rest) =
    MayWrite tables owed cell value × KeepsWhole tables shown (owed_after tables owed cell value) rest
KeepsWhole tables shown owed (done outcome) = owed ≡ []

-- a statement that has types keeps the rows of its tables whole, whatever was shown before it
abbrev pub StatementKeepsRows : Type 0
StatementKeepsRows =
    (tables : List Table) (statement : Statement) (t : Typed) (shown : List (ℕ × Key)) → typed tables statement ≡ Ok t
    → KeepsWhole tables shown [] (course_of tables t)
