-- The axiom at a level of one's choice: what a read sees, which pairs the reads of a transaction demand, and what a further read adds to them.
use Rattle.std.specs.Prelude.{◌≡◌, ◌≢◌, ◌<◌, ◌+◌, ◌⊎◌, ◌↔◌, ℕ, Some, List, Contains, slice_get}
use Rattle.std.specs.List.Sorted.{IsStrictlyIncreasing}
use Rattle.graph_base.specs.declared.Edge.{Edge}
use Rattle.cell_base.specs.declared.level.Level.{Level}
use Rattle.cell_base.specs.declared.cell.Cell.{Cell}
use Rattle.cell_base.specs.declared.value.Value.{Value}
use Rattle.history_core.specs.declared.event.Event.{Event}
use Rattle.history_core.specs.Transactions.{IsPending}
use Rattle.history_core.specs.Relations.{Writes, Reads, IsVisibleAt}
use Rattle.saturation.specs.Laws.{with_read}

-- the transaction is pending in some session
abbrev pub IsUnderway : List Event → ℕ → Type 0
IsUnderway events reader = (session : ℕ) × IsPending events reader session

-- the level lets a read of the reader see the writer, where the read is the event of the number; events are numbered from 1
pub record IsSeenByEvent (level : Level) (events : List Event) (reader number writer : ℕ) : Type 0 where
  pub place : ℕ
  pub number_is : number ≡ place + 1
  pub sees : IsVisibleAt level events reader place writer

-- just the transactions that the read sees, ascending
pub record AreVisibleAt (level : Level) (events : List Event) (reader number : ℕ) (writers : List ℕ) : Type 0 where
  pub ascending : IsStrictlyIncreasing writers
  pub exact : (writer : ℕ) → Contains writers writer ↔ IsSeenByEvent level events reader number writer

-- by the level, a read of the reader from the second sees the first, which writes the cell too
pub record DemandsAt (level : Level) (events : List Event) (reader first second : ℕ) : Type 0 where
  pub place : ℕ
  pub cell : Cell
  pub reads : Reads events reader place cell second
  pub other : first ≢ second
  pub writes : Writes events first cell
  pub sees : IsVisibleAt level events reader place first

-- what a further read of the cell from the source forces by the level: the source before the reader, and the pairs that the reader demands with
-- it, whatever its count, word and value, and didn't demand before
abbrev pub IsTrialAt : Level → List Event → ℕ → ℕ → Cell → ℕ → ℕ → ℕ → Type 0
IsTrialAt level events session reader cell source first second =
    ((first ≡ source) × (second ≡ reader))
    ⊎ (((count word : ℕ) (value : Value) → DemandsAt level (with_read events session cell source count word value) reader first second)
    × (¬ DemandsAt level events reader first second))

-- the one pair stands before the other
abbrev pub IsPairBelow : Edge → Edge → Type 0
IsPairBelow a b = (a.before < b.before) ⊎ ((a.before ≡ b.before) × (a.after < b.after))

-- each pair stands above all before it, and so once
abbrev pub ArePairsAscending : List Edge → Type 0
ArePairsAscending edges = (i j : ℕ) (a b : Edge) → i < j → slice_get edges i ≡ Some a → slice_get edges j ≡ Some b → IsPairBelow a b

-- just the pairs that the further read forces by the level, each once, ascending
pub record AreTrialAt (level : Level) (events : List Event) (reader : ℕ) (cell : Cell) (source : ℕ) (edges : List Edge) : Type 0 where
  pub ascending : ArePairsAscending edges
  pub exact : (session : ℕ) → IsPending events reader session → (edge : Edge) →
      Contains edges edge ↔ IsTrialAt level events session reader cell source edge.before edge.after
