-- What a pending transaction sees, and which writers of a cell that makes.
use Rattle.std.specs.Prelude.{◌≡◌, ◌≢◌, ◌<◌, ◌≤◌, ◌⊎◌, ◌↔◌, ℕ, Some, IfSome, Option, List, Any, Contains, slice_get}
use Rattle.std.specs.List.Sorted.{IsStrictlyIncreasing}
use Rattle.graph_base.specs.declared.Edge.{Edge}
use Rattle.graph_base.specs.Walk.{Reaches}
use Rattle.cell_base.specs.declared.cell.Cell.{Cell}
use Rattle.cell_base.specs.declared.level.Level.{Level}
use Rattle.cell_base.specs.declared.level.Level.TheVariants.{Rc, Ra, Cc}
use Rattle.history_core.specs.declared.event.Event.{Event}
use Rattle.history_core.specs.declared.txn.Seen.{Seen}
use Rattle.history_core.specs.Transactions.{IsPending, RunsAt, IsCommitted}
use Rattle.history_core.specs.Relations.{Writes, PrecedesCausally}
use Rattle.history_core.specs.Legal.{IsPermitted}
use Rattle.saturation.specs.Views.{IsRival}
use Rattle.further_reads.specs.Further.{Sees, SeesWith, IsNewlySeen}
use Rattle.forced_rows.specs.declared.reader.Reader.{Reader}
use Rattle.forced_rows.specs.declared.offering.Overtaken.{Overtaken}
use Rattle.forced_rows.specs.declared.sight.Sight.{Sight}
use Rattle.forced_rows.specs.declared.sight.Sight.TheVariants.{SoFar, With, Newly}

-- the reader is a pending transaction
pub record IsReader (events : List Event) (reader : Reader) : Type 0 where
  pub pending : IsPending events reader.number reader.session
  pub runs : RunsAt events reader.number reader.level

-- at a level, what a further read from the source lets a transaction see by the source itself
abbrev pub Brings : Level → List Event → ℕ → ℕ → Type 0
Brings Rc events source writer = ⊥
Brings Ra events source writer = writer ≡ source
Brings Cc events source writer = (writer ≡ source) ⊎ PrecedesCausally events writer source

-- the writer is in the reader's sight
abbrev pub IsInSight : Sight → List Event → Reader → ℕ → Type 0
IsInSight SoFar events reader writer = Sees reader.level events reader.number writer
IsInSight (With source) events reader writer = SeesWith reader.level events reader.number source writer
IsInSight (Newly source) events reader writer = IsNewlySeen reader.level events reader.number source writer

-- the number of the sight's source is that of a transaction
abbrev pub IsOfBegun : ℕ → Sight → Type 0
IsOfBegun begun SoFar = Unit {0}
IsOfBegun begun (With source) = source ≤ begun
IsOfBegun begun (Newly source) = source ≤ begun

-- transactions that have begun, but not the initial one
abbrev pub AreBegun : ℕ → List ℕ → Type 0
AreBegun begun numbers = (n : ℕ) → Contains numbers n → (0 < n) × (n ≤ begun)

-- another transaction than this one that has committed and is in sight
pub record Counts (sight : Sight) (events : List Event) (reader : Reader) (except n : ℕ) : Type 0 where
  pub other : n ≢ except
  pub sees : IsInSight sight events reader n
  pub committed : IsCommitted events n

-- exactly the writers of the cell, but the initial transaction and this one, that are in sight
abbrev pub AreRivals : Sight → List Event → Reader → Cell → ℕ → List ℕ → Type 0
AreRivals sight events reader cell except numbers =
    (n : ℕ) → Contains numbers n ↔ ((0 < n) × Writes events n cell × (n ≢ except) × IsInSight sight events reader n)

-- a transaction, but the initial one, that writes a cell which was seen, isn't the one from which it was seen, and is seen newly with a further
-- read from the source
pub record IsSeenLate (events : List Event) (reader : Reader) (source : ℕ) (seen : Seen) (n : ℕ) : Type 0 where
  pub later : 0 < n
  pub rival : IsRival events seen n
  pub new : IsNewlySeen reader.level events reader.number source n

-- the row, where there is one, has what is before one of these writers
abbrev pub AreBeforeSome : List Edge → List ℕ → Option (List ℕ) → Type 0
AreBeforeSome pairs writers before = IfSome before (λ row. (n : ℕ) → Contains row n ↔ Any (λ writer. Reaches pairs n writer) writers)

-- the writers of the cell that the reader sees, and what is before them
pub record AreOvertaken (events : List Event) (pairs : List Edge) (reader : Reader) (cell : Cell) (overtaken : Overtaken) : Type 0 where
  pub are : AreRivals SoFar events reader cell 0 overtaken.seen.items
  pub before : AreBeforeSome pairs overtaken.seen.items overtaken.before

-- it is the initial transaction, or one of so many of the writers from the first on
abbrev pub IsAmong : List ℕ → ℕ → ℕ → Type 0
IsAmong writers count n = (n ≡ 0) ⊎ ((k : ℕ) × ((k < count) × (slice_get writers k ≡ Some n)))

-- those of these that may be read next, ascending
pub record IsOfferAmong (events : List Event) (session : ℕ) (cell : Cell) (writers : List ℕ) (count : ℕ) (offer : List ℕ) : Type 0 where
  pub ascending : IsStrictlyIncreasing offer
  pub exact : (n : ℕ) → Contains offer n ↔ (IsAmong writers count n × IsPermitted events session cell n)

-- exactly those of so many of the writers, from the first on, that count
abbrev pub AreCounted : Sight → List Event → Reader → ℕ → List ℕ → ℕ → List ℕ → Type 0
AreCounted sight events reader except writers count numbers =
    (n : ℕ) → Contains numbers n ↔ (((k : ℕ) × ((k < count) × (slice_get writers k ≡ Some n))) × Counts sight events reader except n)
