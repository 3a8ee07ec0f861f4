-- Sound tables are narrow.
use Rattle.std.proofs.Common.{◌<◌, List, length, arith, All}
use Rattle.std.specs.Prelude.{slice_index_or}
use Rattle.sql_tree.specs.declared.table.Table.{Table}
use Rattle.sound_table.specs.Sound.{IsSound}
use Rattle.sound_table.proofs.WellFormed.{sound_well}
use Rattle.typing_parts.specs.Narrow.{AreFewAndNarrow}
use Rattle.cell_compile.specs.Narrow.{AreNarrow}

pub narrow_sound : (tables : List Table) → length tables < 4294967296 → All IsSound tables → AreFewAndNarrow tables
narrow_sound tables few sound = record {
  few = few;
  narrow = λ i d within. omega (arith, (sound_well (slice_index_or tables i d) (sound i d within)).few);
}

pub columns_narrow : (tables : List Table) → All IsSound tables → AreNarrow tables
columns_narrow tables sound = λ i d within. omega (arith, (sound_well (slice_index_or tables i d) (sound i d within)).few)
