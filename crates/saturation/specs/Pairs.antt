-- Lists of pairs that grow, and the pairs that the reads of one transaction demand.
use Rattle.std.specs.Prelude.{◌≡◌, ◌<◌, ◌⊎◌, ◌+◌, ℕ, Some, Bool, List, Contains, length, slice_get}
use Rattle.graph_base.specs.declared.Edge.{Edge}
use Rattle.cell_base.specs.declared.level.Level.{Level}
use Rattle.cell_base.specs.declared.cell.Cell.{Cell}
use Rattle.history_core.specs.declared.event.Event.{Event}
use Rattle.history_core.specs.declared.txn.Seen.{Seen}
use Rattle.history_core.specs.declared.txn.Seen.TheVariants.{Read as SeenRead}
use Rattle.history_core.specs.Relations.{Precedes}
use Rattle.history_core.specs.Forced.{IsDemandOf}
use Rattle.saturation.specs.Views.{source_of, number_of, Sees, IsRival}

-- the new list has the old edges and one for each pair of the relation, and no other
pub record AddsPairs (Is : ℕ → ℕ → Type 0) (old new : List Edge) : Type 0 where
  pub kept : (e : Edge) → Contains old e → Contains new e
  pub sound : (e : Edge) → Contains new e → Contains old e ⊎ Is e.before e.after
  pub whole : (a b : ℕ) → Is a b → (e : Edge) × (Contains new e × (e.before ≡ a) × (e.after ≡ b))

-- the pair stands before the number
abbrev pub IsFirstBelow : (ℕ → ℕ → Type 0) → ℕ → ℕ → ℕ → Type 0
IsFirstBelow Is n a b = (a < n) × Is a b

-- the read takes the first into account, which writes a cell that the read took from the second
pub record IsSeenDemand (events : List Event) (level : Level) (all : List Seen) (marks : List Bool) (seen : Seen) (first second : ℕ) : Type 0 where
  pub later : 0 < first
  pub second_is : second ≡ source_of seen
  pub sees : Sees level all marks (number_of seen) first
  pub rival : IsRival events seen first

-- one of the first reads demands the pair
pub record IsDemandBelow (events : List Event) (level : Level) (all : List Seen) (marks : List Bool) (n first second : ℕ) : Type 0 where
  pub place : ℕ
  pub below : place < n
  pub seen : Seen
  pub is : slice_get all place ≡ Some seen
  pub demands : IsSeenDemand events level all marks seen first second

-- one of the reads demands the pair
pub record IsDemandIn (events : List Event) (level : Level) (all : List Seen) (marks : List Bool) (first second : ℕ) : Type 0 where
  pub seen : Seen
  pub is : Contains all seen
  pub demands : IsSeenDemand events level all marks seen first second

-- What a further read of the cell adds: the reader, the cell, the source, and of the reader the level, the reads so far and the
-- marks. The source stands before the reader, and the reads so far and this one demand pairs.
abbrev pub IsAddedByRead : List Event → ℕ → Cell → ℕ → Level → List Seen → List Bool → ℕ → ℕ → Type 0
IsAddedByRead events reader cell source level all marks first second =
    ((first ≡ source) × (second ≡ reader))
    ⊎ (IsDemandIn events level all marks first second ⊎ IsSeenDemand events level all marks (SeenRead (length events + 1) cell source) first second)

-- what comes before the reader, and what the reader demands of another than the initial transaction
abbrev pub IsForcedAt : List Event → ℕ → ℕ → ℕ → Type 0
IsForcedAt events reader first second = ((second ≡ reader) × Precedes events first second) ⊎ ((0 < first) × IsDemandOf events reader first second)

-- the same of the readers below a number
abbrev pub IsForcedBelow : List Event → ℕ → ℕ → ℕ → Type 0
IsForcedBelow events n first second = (reader : ℕ) × (reader < n) × IsForcedAt events reader first second
