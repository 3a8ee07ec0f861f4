-- Which writes a read may still see where all transactions are of one session.
use Rattle.std.specs.Prelude.{◌<◌, ◌≤◌, ℕ, List}
use Rattle.cell_base.specs.declared.level.Level.{Level}
use Rattle.cell_base.specs.declared.level.Level.TheVariants.{Rc, Ra, Cc}
use Rattle.cell_base.specs.declared.cell.Cell.{Cell}
use Rattle.history_core.specs.declared.event.Event.{Event}
use Rattle.history_core.specs.Relations.{Writes, ReadsFrom}

-- the reader has read from a later writer of the cell
pub record IsPassed (events : List Event) (reader : ℕ) (cell : Cell) (source : ℕ) : Type 0 where
  pub later : ℕ
  pub above : source < later
  pub writes : Writes events later cell
  pub read : ReadsFrom events later reader

-- the last writer of the cell, by its number; the initial transaction where there is no other
pub record IsLastWriter (events : List Event) (cell : Cell) (source : ℕ) : Type 0 where
  pub writes : Writes events source cell
  pub last : (other : ℕ) → Writes events other cell → other ≤ source

-- what a read of the reader may see, by the level that the reader runs at
abbrev pub MaySee : Level → List Event → ℕ → Cell → ℕ → Type 0
MaySee Rc events reader cell source = Writes events source cell × (¬ IsPassed events reader cell source)
MaySee Ra events reader cell source = IsLastWriter events cell source
MaySee Cc events reader cell source = IsLastWriter events cell source
