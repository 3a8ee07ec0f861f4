-- Columns of tables.
use Rattle.std.specs.Prelude.{ℕ, Bool, List}
use Rattle.cell_base.specs.declared.sql_type.SqlType.TheVariants.{Bigint}
use Rattle.cell_base.specs.declared.value.Value.TheVariants.{Null}
use Rattle.sql_tree.specs.declared.table.Column.{Column}

-- a column of integers, which has no default
abbrev pub integers : List ℕ → Bool → Column
integers name not_null = record { name = name; kind = Bigint; not_null = not_null; default = Null }
