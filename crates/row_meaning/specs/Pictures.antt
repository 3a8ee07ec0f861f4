-- The rows that a statement was shown.
use Rattle.std.specs.Prelude.{ℕ, ◌==◌, if◌then◌else◌, List, [], ◌∷◌, map, replicate, slice_set}
use Rattle.cell_base.specs.declared.key.Key.{Key}
use Rattle.cell_base.specs.declared.key.Key.TheVariants as key
use Rattle.cell_base.specs.declared.value.Value.{Value}
use Rattle.cell_base.specs.declared.value.Value.TheVariants as value
use Rattle.row_meaning.specs.declared.picture.TableRows.{TableRows}

-- a row: its key, and one value for each column of its table
abbrev pub TableRow : Type 0
TableRow = Key × List Value

-- what the key's own column holds
abbrev pub key_value : Key → Value
key_value (key.Int n) = value.Int n
key_value (key.Text text) = value.Text text

-- the values of columns, by number, put into a row
abbrev pub with_values : List Value → List (ℕ × Value) → List Value
with_values row [] = row
with_values row ((column, v) ∷ more) = with_values (slice_set row column v) more

-- the row of a key, of so many columns, of which these were read; the others are null
abbrev pub row_values : ℕ → ℕ → Key → List (ℕ × Value) → List Value
row_values width key_column k read = with_values (slice_set (replicate {A = Value} width value.Null) key_column (key_value k)) read

-- the rows of the table of this number, where the statement was shown it
abbrev pub shown_of : ℕ → List TableRows → List TableRow
shown_of number [] = []
shown_of number (t ∷ ts) = if t.table == number then t.rows else shown_of number ts

-- the same, as lists of values alone
abbrev pub values_shown : List TableRows → ℕ → List (List Value)
values_shown picture number = map (λ (r : TableRow). r.1) (shown_of number picture)
