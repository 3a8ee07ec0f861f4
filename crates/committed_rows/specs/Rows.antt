-- What is committed at the end of a history: the rows that are there then, with their fields.
use Rattle.std.specs.Prelude.{◌≡◌, ◌≢◌, ◌≤◌, ◌↔◌, ℕ, true, List, Contains}
use Rattle.cell_base.specs.declared.cell.Cell.{Cell}
use Rattle.cell_base.specs.declared.cell.Cell.TheVariants.{Presence, Field}
use Rattle.cell_base.specs.declared.key.Key.{Key}
use Rattle.cell_base.specs.declared.value.Value.{Value}
use Rattle.cell_base.specs.declared.value.Value.TheVariants.{Unset, Flag}
use Rattle.history_core.specs.Chronicle.{Chronicle}
use Rattle.history_core.specs.Initial.{IsAscending}
use Rattle.history_core.specs.Relations.{Writes, WritesValue}

-- of the transactions that wrote the cell, the initial one and the committed ones, the one of the greatest number wrote this value last
pub record IsNewest (history : Chronicle) (cell : Cell) (value : Value) : Type 0 where
  pub number : ℕ
  pub writes : WritesValue history.initial history.events number cell value
  pub newest : (other : ℕ) → Writes history.events other cell → other ≤ number

-- the row of the key is there at the end
abbrev pub IsThereAtEnd : Chronicle → ℕ → Key → Type 0
IsThereAtEnd history table key = IsNewest history (Presence table key) (Flag true)

-- of a row that is there, that it is; of its fields that were ever set, the newest value
abbrev pub StandsAtEnd : Chronicle → Cell → Value → Type 0
StandsAtEnd history (Presence table key) value = (value ≡ Flag true) × IsThereAtEnd history table key
StandsAtEnd history (Field table key column) value =
    IsThereAtEnd history table key × IsNewest history (Field table key column) value × (value ≢ Unset)

-- the rows that are there at the end of the history: the cells that stand then, ascending as cells are ordered
pub record AreCommittedRows (history : Chronicle) (cells : List (Cell × Value)) : Type 0 where
  pub ascending : IsAscending cells
  pub exact : (cell : Cell) (value : Value) → Contains cells (cell, value) ↔ StandsAtEnd history cell value
