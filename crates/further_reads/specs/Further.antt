-- What a pending transaction sees with a further read, and the pairs that it demands by it.
use Rattle.std.specs.Prelude.{◌≡◌, ◌≢◌, ◌<◌, ◌+◌, ◌⊎◌, ◌↔◌, ℕ, List}
use Rattle.graph_base.specs.declared.Edge.{Edge}
use Rattle.graph_base.specs.Chain.{Chained}
use Rattle.graph_base.specs.Closure.{HasEdge}
use Rattle.graph_base.specs.Walk.{IsInRange, Reaches}
use Rattle.cell_base.specs.declared.level.Level.{Level}
use Rattle.cell_base.specs.declared.level.Level.TheVariants.{Rc, Ra, Cc}
use Rattle.cell_base.specs.declared.cell.Cell.{Cell}
use Rattle.history_core.specs.declared.event.Event.{Event}
use Rattle.history_core.specs.Events.{begun}
use Rattle.history_core.specs.Relations.{Writes, Reads, ReadsFrom, Precedes, PrecedesCausally}
use Rattle.history_core.specs.Forced.{IsForced}

-- what the reads of the transaction so far let it see, at a level
abbrev pub Sees : Level → List Event → ℕ → ℕ → Type 0
Sees Rc events reader writer = ReadsFrom events writer reader
Sees Ra events reader writer = Precedes events writer reader
Sees Cc events reader writer = PrecedesCausally events writer reader

-- the same with a further read from the source; at Read Committed a read sees what was read before it
abbrev pub SeesWith : Level → List Event → ℕ → ℕ → ℕ → Type 0
SeesWith Rc events reader source writer = Sees Rc events reader writer
SeesWith Ra events reader source writer = Sees Ra events reader writer ⊎ (writer ≡ source)
SeesWith Cc events reader source writer = Sees Cc events reader writer ⊎ ((writer ≡ source) ⊎ PrecedesCausally events writer source)

-- the further read lets the transaction see the writer, which it didn't see before; at Read Committed there is none
abbrev pub IsNewlySeen : Level → List Event → ℕ → ℕ → ℕ → Type 0
IsNewlySeen level events reader source writer = SeesWith level events reader source writer × (¬ Sees level events reader writer)

-- the further read sees the first, which writes the cell too
pub record IsDemandOfRead (level : Level) (events : List Event) (reader : ℕ) (cell : Cell) (source first second : ℕ) : Type 0 where
  pub of_source : second ≡ source
  pub other : first ≢ source
  pub writes : Writes events first cell
  pub sees : SeesWith level events reader source first

-- the further read lets an earlier one, from the second, see the first, which writes the cell too
pub record IsDemandOfEarlier (level : Level) (events : List Event) (reader source first second : ℕ) : Type 0 where
  pub place : ℕ
  pub cell : Cell
  pub reads : Reads events reader place cell second
  pub other : first ≢ second
  pub writes : Writes events first cell
  pub seen : IsNewlySeen level events reader source first

-- the pairs that the reader demands with the further read of the cell from the source, by that read or by an earlier one
abbrev pub IsNewDemand : Level → List Event → ℕ → Cell → ℕ → ℕ → ℕ → Type 0
IsNewDemand level events reader cell source first second =
    IsDemandOfRead level events reader cell source first second ⊎ IsDemandOfEarlier level events reader source first second

-- each edge is a new demand, and each new demand of another than the initial transaction is an edge
pub record AreNewDemands (level : Level) (events : List Event) (reader : ℕ) (cell : Cell) (source : ℕ) (edges : List Edge) : Type 0 where
  pub sound : (a b : ℕ) → HasEdge edges a b → IsNewDemand level events reader cell source a b
  pub whole : (a b : ℕ) → 0 < a → IsNewDemand level events reader cell source a b → HasEdge edges a b

-- the source of a further read precedes its reader
abbrev pub IsReadLink : ℕ → ℕ → ℕ → ℕ → Type 0
IsReadLink source reader a b = (a ≡ source) × (b ≡ reader)

-- what the history forces, an edge, or the pair of the further read
abbrev pub IsForcedOrNew : List Event → List Edge → ℕ → ℕ → ℕ → ℕ → Type 0
IsForcedOrNew events edges source reader a b = IsForced events a b ⊎ (HasEdge edges a b ⊎ IsReadLink source reader a b)

abbrev pub PrecedesOrNew : List Event → ℕ → ℕ → ℕ → ℕ → Type 0
PrecedesOrNew events source reader a b = Precedes events a b ⊎ IsReadLink source reader a b

-- the pairs are of transactions of the history, and their closure is that of the pairs which the history forces
pub record HaveForcedClosure (events : List Event) (pairs : List Edge) : Type 0 where
  pub in_range : IsInRange (begun events + 1) pairs
  pub closure : (a b : ℕ) → Reaches pairs a b ↔ Chained (IsForced events) a b
