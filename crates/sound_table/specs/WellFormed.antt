-- What holds of the names, the columns, the key and the CHECKs of each sound table.
-- (PostgreSQL's documentation, "CREATE TABLE" and "Character Types".)
use Rattle.std.specs.Prelude.{◌≡◌, ◌≤◌, ℕ, true, false, ◌||◌, ◌==◌, nat_le, List, length, slice_get, chars, Some}
use Rattle.std.specs.List.{All}
use Rattle.std.specs.Str.{IsUtf8}
use Rattle.cell_base.specs.declared.sql_type.SqlType.{SqlType}
use Rattle.cell_base.specs.declared.sql_type.SqlType.TheVariants.{Varchar}
use Rattle.cell_base.specs.declared.value.Value.{Value}
use Rattle.cell_base.specs.declared.value.Value.TheVariants as value
use Rattle.sql_tree.specs.declared.table.Column.{Column}
use Rattle.sql_tree.specs.declared.table.Table.{Table}
use Rattle.sql_grammar.specs.Limited.{IsPlainName}
use Rattle.typing_rules.specs.Building.{has_length}
use Rattle.typing_rules.specs.Changes.{own_source}
use Rattle.typing_rules.specs.Kinds.{is_boolean, is_null_or_of}
use Rattle.typing_rules.specs.Sound.{IsCondition, column_types}
use Rattle.sound_table.specs.Sound.{IsSound}

-- A text has at most so many characters, where 0 stands for no limit. Characters are counted in UTF-8 alone.
abbrev pub IsWithin : ℕ → List ℕ → Type 0
IsWithin limit text = IsUtf8 text → (limit == 0 || nat_le (length (chars text)) limit) ≡ true

-- a text of a varchar is within its limit
abbrev pub IsWithinLimit : SqlType → Value → Type 0
IsWithinLimit (Varchar limit) (value.Text text) = IsWithin limit text
IsWithinLimit _ _ = Unit {0}

-- a text has at most 65,536 bytes
abbrev pub IsSmall : Value → Type 0
IsSmall (value.Text text) = length text ≤ 65536
IsSmall _ = Unit {0}

-- a default of the type: null, or a value of it
pub record IsDefault (kind : SqlType) (v : Value) : Type 0 where
  pub typed : is_null_or_of kind v ≡ true
  pub within : IsWithinLimit kind v
  pub small : IsSmall v

-- a varchar has a length that a table may have, and the default is one of the type
pub record IsColumn (c : Column) : Type 0 where
  pub width : has_length c.kind ≡ true
  pub default : IsDefault c.kind c.default

-- a name of at most 63 bytes, without a zero byte
abbrev pub HasPlainName : Column → Type 0
HasPlainName c = IsPlainName c.name

-- no two columns have one name
abbrev pub AreApart : List Column → Type 0
AreApart columns = (i j : ℕ) (a b : Column) → slice_get columns i ≡ Some a → slice_get columns j ≡ Some b → a.name ≡ b.name → i ≡ j

-- the key is the number of a column, which is never null and isn't boolean
pub record HasKey (table : Table) : Type 0 where
  pub column : Column
  pub there : slice_get table.columns table.key ≡ Some column
  pub filled : column.not_null ≡ true
  pub ordered : is_boolean column.kind ≡ false

pub record IsWellFormed (table : Table) : Type 0 where
  pub named : IsPlainName table.name
  pub names : All HasPlainName table.columns
  pub some : 1 ≤ length table.columns
  pub few : length table.columns ≤ 32
  pub apart : AreApart table.columns
  pub columns : All IsColumn table.columns
  pub key : HasKey table
  -- each CHECK is a condition over the table's own columns
  pub checks : All (IsCondition (column_types (own_source table))) table.checks

abbrev pub SoundIsWellFormed : Type 0
SoundIsWellFormed = (table : Table) → IsSound table → IsWellFormed table
