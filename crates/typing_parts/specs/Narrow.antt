-- The tables over which a statement is typed.
use Rattle.std.specs.Prelude.{ℕ, ◌^◌, ◌<◌, List, length, slice_index_or}
use Rattle.sql_tree.specs.declared.table.Table.{Table}

-- tables and columns have numbers of 32 bits
pub record AreFewAndNarrow (tables : List Table) : Type 0 where
  pub few : length tables < 2 ^ 32
  pub narrow : (i : ℕ) (d : Table) → i < length tables → length (slice_index_or tables i d).columns < 2 ^ 32
