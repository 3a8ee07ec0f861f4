-- What Read Atomic and Causal Consistency promise to a reader, whatever the levels of the other transactions.
use Rattle.std.specs.Prelude.{◌≡◌, ◌⊎◌, ℕ, List}
use Rattle.cell_base.specs.declared.level.Level.TheVariants.{Ra, Cc}
use Rattle.cell_base.specs.declared.cell.Cell.{Cell}
use Rattle.history_core.specs.declared.event.Event.{Event}
use Rattle.history_core.specs.Transactions.{RunsAt}
use Rattle.history_core.specs.Relations.{Writes, Reads, Precedes, PrecedesCausally}

-- the transaction runs at Read Atomic or at Causal Consistency
abbrev pub RunsAtomically : List Event → ℕ → Type 0
RunsAtomically events reader = RunsAt events reader Ra ⊎ RunsAt events reader Cc

-- the transaction takes the cell from the source: by a read, or, from the initial transaction, by a scan of the table that doesn't list the
-- key whose presence the cell is
pub record TakesCell (events : List Event) (reader : ℕ) (cell : Cell) (source : ℕ) : Type 0 where
  pub place : ℕ
  pub reads : Reads events reader place cell source

-- two cells that two transactions both wrote are taken from the same one of them; the two cells may be one cell, read twice
abbrev pub TakesWhole : List Event → ℕ → Type 0
TakesWhole events reader =
    (cell beside : Cell) (first second : ℕ) → TakesCell events reader cell first → TakesCell events reader beside second →
    Writes events first cell → Writes events first beside → Writes events second cell → Writes events second beside → first ≡ second

-- a transaction wrote the cell, and the reader has read from it, or it is an earlier one of the reader's session: the cell isn't taken from
-- one in its causal past
abbrev pub TakesNoneOlder : List Event → ℕ → Type 0
TakesNoneOlder events reader =
    (cell : Cell) (first second : ℕ) → Precedes events second reader → Writes events second cell → TakesCell events reader cell first →
    ¬ PrecedesCausally events first second

-- the same of each transaction in the reader's causal past
abbrev pub LosesNoCause : List Event → ℕ → Type 0
LosesNoCause events reader =
    (cell : Cell) (first second : ℕ) → PrecedesCausally events second reader → Writes events second cell → TakesCell events reader cell first →
    ¬ PrecedesCausally events first second
