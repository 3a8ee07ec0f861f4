-- The tables that are defined, and their names.
use Rattle.std.specs.Prelude.{◌≡◌, ◌≢◌, ℕ, ◌^◌, ◌<◌, List, Some, length, slice_get}
use Rattle.sql_tree.specs.declared.table.Table.{Table}

-- the table of this number, from 0, has the name
pub record IsNamed (tables : List Table) (name : List ℕ) (number : ℕ) : Type 0 where
  pub table : Table
  pub there : slice_get tables number ≡ Some table
  pub named : table.name ≡ name

-- no table has the name
abbrev pub IsNew : List Table → List ℕ → Type 0
IsNew tables name = (number : ℕ) (table : Table) → slice_get tables number ≡ Some table → table.name ≢ name

-- tables have numbers of 32 bits, and no two have one name
pub record IsCatalogue (tables : List Table) : Type 0 where
  pub few : length tables < 2 ^ 32
  pub apart : (i j : ℕ) (a b : Table) → slice_get tables i ≡ Some a → slice_get tables j ≡ Some b → a.name ≡ b.name → i ≡ j
