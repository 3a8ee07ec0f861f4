-- The table of the examples.
use Rattle.std.specs.Prelude.{◌≡◌, [], ◌∷◌, codes, true, false}
use Rattle.cell_base.specs.declared.sql_type.SqlType.TheVariants.{Bigint}
use Rattle.cell_base.specs.declared.value.Value.TheVariants.{Null}
use Rattle.sql_tree.specs.declared.table.Table.{Table}
use Rattle.sound_table.specs.Sound.{IsSound}

-- the table of `CREATE TABLE t (k bigint PRIMARY KEY, v bigint)`
abbrev pub two_columns : Table
two_columns = record {
  name = codes "t";
  columns =
      record { name = codes "k"; kind = Bigint; not_null = true; default = Null }
      ∷ record { name = codes "v"; kind = Bigint; not_null = false; default = Null } ∷ [];
  key = 0;
  checks = [];
}

-- it is sound
abbrev pub TwoColumnsAreSound : Type 0
TwoColumnsAreSound = (table : Table) → table ≡ two_columns → IsSound table
