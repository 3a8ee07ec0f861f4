-- What a further read demands, as stars.
use Rattle.std.specs.Prelude.{◌≡◌, ◌<◌, ◌+◌, ℕ, Some, List, All, Contains, length, slice_get}
use Rattle.graph_base.specs.Closure.{HasEdge}
use Rattle.reach_rows.specs.declared.Star.{Star}
use Rattle.reach_rows.specs.Stars.{edges_of, IsStarInRange}
use Rattle.cell_base.specs.declared.cell.Cell.{Cell}
use Rattle.cell_base.specs.declared.level.Level.{Level}
use Rattle.cell_base.specs.declared.value.Value.{Value}
use Rattle.history_core.specs.declared.event.Event.{Event}
use Rattle.history_core.specs.Events.{begun}
use Rattle.history_core.specs.Transactions.{IsPending, RunsAt}
use Rattle.history_core.specs.Legal.{IsFormed, IsPermitted}
use Rattle.history_core.specs.declared.txn.Seen.{Seen}
use Rattle.history_core.specs.Records.{Saw}
use Rattle.saturation.specs.Views.{source_of}
use Rattle.saturation.specs.Pairs.{AddsPairs}
use Rattle.saturation.specs.Laws.{with_read}
use Rattle.further_reads.specs.Further.{AreNewDemands}
use Rattle.forced_rows.specs.declared.rows.ForcedRows.{ForcedRows}
use Rattle.forced_rows.specs.declared.stars.ReadStars.{ReadStars}
use Rattle.forced_rows.specs.declared.reader.Reader.{Reader}
use Rattle.forced_rows.specs.Rows.{AreRowsOf}
use Rattle.forced_rows.specs.Sights.{IsSeenLate}

-- the edges of the stars are what the transaction demands with a further read of the cell from the source, but that the initial transaction comes
-- first
pub record AreStarsFor (level : Level) (events : List Event) (reader : ℕ) (cell : Cell) (source : ℕ) (stars : List Star) : Type 0 where
  pub demands : AreNewDemands level events reader cell source (edges_of stars)
  pub later : (a b : ℕ) → HasEdge (edges_of stars) a b → 0 < a
  pub in_range : All (IsStarInRange (begun events + 1)) stars

-- these are the stars of a further read of the session's pending transaction
pub record AreStarsOf (events : List Event) (session : ℕ) (cell : Cell) (source : ℕ) (read : ReadStars) : Type 0 where
  pub reader : ℕ
  pub level : Level
  pub pending : IsPending events reader session
  pub runs : RunsAt events reader level
  pub stars : AreStarsFor level events reader cell source read.stars.items

-- the events are those of a history, whose rows these are, and a further read of the session from the source, which is permitted and has these
-- stars
pub record AddsRead (initial : List (Cell × Value)) (events : List Event) (session source : ℕ) (stars : ReadStars) (rows : ForcedRows) : Type 0 where
  pub before : List Event
  pub cell : Cell
  pub count : ℕ
  pub word : ℕ
  pub value : Value
  pub is : events ≡ with_read before session cell source count word value
  pub formed : IsFormed initial before
  pub permitted : IsPermitted before session cell source
  pub kept : AreRowsOf before rows
  pub new : AreStarsOf before session cell source stars

-- ---- how the stars come together

abbrev pub HasMembers : Star → Type 0
HasMembers star = 0 < length star.members.items

-- the stars have the edges that they had and one for each pair of the relation, and no other; none is without members
pub record GainsEdges (Is : ℕ → ℕ → Type 0) (old new : List Star) : Type 0 where
  pub edges : AddsPairs Is (edges_of old) (edges_of new)
  pub members : All HasMembers old → All HasMembers new

-- an earlier read or scan demands the pair, since it sees the first late
abbrev pub IsLateDemand : List Event → Reader → ℕ → Seen → ℕ → ℕ → Type 0
IsLateDemand events reader source seen a b = IsSeenLate events reader source seen a × (b ≡ source_of seen)

-- one of so many of these reads and scans, from the first on, demands the pair
pub record IsDemandOfFirst (events : List Event) (reader : Reader) (source : ℕ) (all : List Seen) (count a b : ℕ) : Type 0 where
  pub place : ℕ
  pub below : place < count
  pub seen : Seen
  pub is : slice_get all place ≡ Some seen
  pub demands : IsLateDemand events reader source seen a b

-- one of these reads and scans demands the pair
pub record IsDemandOfSome (events : List Event) (reader : Reader) (source : ℕ) (all : List Seen) (a b : ℕ) : Type 0 where
  pub seen : Seen
  pub one : Contains all seen
  pub demands : IsLateDemand events reader source seen a b

-- one of the reads and scans of the reader demands the pair
pub record IsLaterDemand (events : List Event) (reader : Reader) (source a b : ℕ) : Type 0 where
  pub seen : Seen
  pub saw : Saw events reader.number seen
  pub demands : IsLateDemand events reader source seen a b
