-- What cells feed a hasher: for an integer key one write.
use Rattle.std.specs.Prelude.{◌+◌, ◌*◌, ◌++◌, ℕ}
use Rattle.std.specs.Hash.{HashWrites}
use Rattle.std.specs.Hash as fed
use Rattle.std.specs.Int.{cast_unsigned, w64}
use Rattle.cell_base.specs.declared.cell.Cell.{Cell}
use Rattle.cell_base.specs.declared.cell.Cell.TheVariants.{Presence, Field}
use Rattle.cell_base.specs.declared.key.Key.{Key}
use Rattle.cell_base.specs.declared.key.Key.TheVariants as keys

-- table and column in one number
abbrev pub place : ℕ → ℕ → ℕ
place table column = table * 4294967296 + column

abbrev pub hashed_in : ℕ → Key → HashWrites
hashed_in at (keys.Int number) = fed.u128 (at * 18446744073709551616 + cast_unsigned w64 number)
hashed_in at (keys.Text bytes) = fed.u64 at ++ fed.str bytes

-- a presence cell has the column that no table has
abbrev pub hashed_cell : Cell → HashWrites
hashed_cell (Presence table key) = hashed_in (place table 4294967295) key
hashed_cell (Field table key column) = hashed_in (place table column) key
