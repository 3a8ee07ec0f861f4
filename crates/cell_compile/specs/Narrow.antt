-- The tables over which a statement is planned.
use Rattle.std.specs.Prelude.{◌^◌, ◌<◌, List, length}
use Rattle.std.specs.List.{All}
use Rattle.sql_tree.specs.declared.table.Table.{Table}

-- columns have numbers of 32 bits
abbrev pub IsNarrow : Table → Type 0
IsNarrow table = length table.columns < 2 ^ 32

abbrev pub AreNarrow : List Table → Type 0
AreNarrow tables = All IsNarrow tables
