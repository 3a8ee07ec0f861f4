-- The entries of FROM in which names are looked up.
use Rattle.std.specs.Prelude.{ℕ, ◌^◌, ◌<◌, List, map, length, slice_index_or}
use Rattle.expr_typing.specs.declared.entry.Entry.{Entry}
use Rattle.typing_rules.specs.Names.{Source}

abbrev pub source : Entry → Source
source e = record { name = e.name.now; columns = e.table.now.columns }

abbrev pub sources : List Entry → List Source
sources = map source

-- entries and columns have numbers of 32 bits
pub record IsNarrow (entries : List Entry) : Type 0 where
  pub few : length entries < 2 ^ 32
  pub narrow : (i : ℕ) (d : Entry) → i < length entries → length (slice_index_or entries i d).table.now.columns < 2 ^ 32
