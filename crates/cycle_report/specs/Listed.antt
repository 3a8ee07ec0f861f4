-- The committed writers of each cell.
use Rattle.std.specs.Prelude.{◌≡◌, ◌<◌, ◌≤◌, ◌+◌, ℕ, Some, List, Contains, slice_get}
use Rattle.cell_base.specs.declared.cell.Cell.{Cell}
use Rattle.cell_base.specs.declared.value.Value.{Value}
use Rattle.history_core.specs.declared.txn.Txn.{Txn}
use Rattle.history_core.specs.declared.txn.TxnState.TheVariants.{Committed}
use Rattle.cell_writers.specs.declared.writers.CellWriters.{CellWriters}
use Rattle.cell_writers.specs.Writers.{numbers_at, AreAscending}

-- of the first n transactions those that have committed are listed at the cells that they wrote, and no others
pub record ListWriters (txns : List Txn) (n : ℕ) (writers : CellWriters) : Type 0 where
  pub ascending : AreAscending writers
  pub sound : (cell : Cell) (number : ℕ) → Contains (numbers_at writers cell) number → (0 < number) × (number ≤ n)
  pub whole : (place : ℕ) (txn : Txn) (cell : Cell) (value : Value) → place < n → slice_get txns place ≡ Some txn → txn.state ≡ Committed →
      Contains txn.buffer.writes (cell, value) → Contains (numbers_at writers cell) (place + 1)
