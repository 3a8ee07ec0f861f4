-- The latest committed writer of a cell, and which reads are weak.
use Rattle.std.specs.Prelude.{◌≡◌, ◌≢◌, ◌<◌, ◌≤◌, ◌⊎◌, ◌↔◌, ℕ, Some, List, Contains, length, slice_get}
use Rattle.std.specs.List.Sorted.{IsStrictlyIncreasing}
use Rattle.cell_base.specs.declared.cell.Cell.{Cell}
use Rattle.cell_base.specs.declared.value.Value.{Value}
use Rattle.history_core.specs.declared.event.Event.{Event}
use Rattle.history_core.specs.declared.event.Event.TheVariants.{Read, Commit}
use Rattle.history_core.specs.Transactions.{IsOf}
use Rattle.history_core.specs.Relations.{HasWritten}

-- the transaction writes the cell, and commits at the place
pub record CommitsWrite (events : List Event) (number : ℕ) (cell : Cell) (place : ℕ) : Type 0 where
  pub session : ℕ
  pub commit : IsOf events number place (Commit session)
  pub written : HasWritten events number cell

-- of the writers of the cell that commit before the place, the transaction is the one that commits last
pub record CommitsLast (events : List Event) (place : ℕ) (cell : Cell) (number : ℕ) : Type 0 where
  pub commit_place : ℕ
  pub before : commit_place < place
  pub commits : CommitsWrite events number cell commit_place
  pub last : (other other_place : ℕ) → other_place < place → CommitsWrite events other cell other_place → other_place ≤ commit_place

-- no writer of the cell commits before the place
abbrev pub NoneCommits : List Event → ℕ → Cell → Type 0
NoneCommits events place cell = (number commit_place : ℕ) → commit_place < place → ¬ CommitsWrite events number cell commit_place

-- the committed writer of the cell with the latest Commit before the place, or 0 where there is none
abbrev pub IsLatest : List Event → ℕ → Cell → ℕ → Type 0
IsLatest events place cell writer = CommitsLast events place cell writer ⊎ ((writer ≡ 0) × NoneCommits events place cell)

-- the event at the place is an external read whose source isn't the latest writer of its cell
pub record IsWeakAt (events : List Event) (place : ℕ) : Type 0 where
  pub session : ℕ
  pub cell : Cell
  pub source : ℕ
  pub count : ℕ
  pub word : ℕ
  pub value : Value
  pub is : slice_get events place ≡ Some (Read session cell source count word value)
  pub latest : ℕ
  pub is_latest : IsLatest events place cell latest
  pub other : source ≢ latest

-- so many of the first events are weak reads
pub record HasWeakBelow (events : List Event) (bound number : ℕ) : Type 0 where
  pub places : List ℕ
  pub ascending : IsStrictlyIncreasing places
  pub exact : (place : ℕ) → Contains places place ↔ ((place < bound) × IsWeakAt events place)
  pub counts : number ≡ length places

-- so many of the events are weak reads
abbrev pub HasWeak : List Event → ℕ → Type 0
HasWeak events number = HasWeakBelow events (length events) number
