-- What stands for a history that is judged, and the pairs that are listed of it.
use Rattle.std.specs.Prelude.{◌≡◌, ◌<◌, ◌⊎◌, ℕ, List, length}
use Rattle.cell_base.specs.declared.level.Level.{Level}
use Rattle.cell_base.specs.declared.cell.Cell.{Cell}
use Rattle.history_core.specs.declared.event.Event.{Event}
use Rattle.history_core.specs.Events.{begun}
use Rattle.history_core.specs.Kept.{StandsForTxns}
use Rattle.history_core.specs.Relations.{PrecedesCausally}
use Rattle.order_test.specs.Settled.{IsOrderly}
use Rattle.order_test.specs.Glance.{AreOwners}
use Rattle.cycle_report.specs.declared.view.View.{View}
use Rattle.cycle_report.specs.Pasts.{ArePasts}
use Rattle.cycle_report.specs.Listed.{ListWriters}
use Rattle.cycle_report.specs.Reasons.{IsNext, IsReadFromAt, IsDemandedAt}

-- an orderly history of few events, and what was made of it
pub record IsView (view : View) : Type 0 where
  pub few : length view.events.now < 4294967295
  pub few_txns : begun view.events.now < 4294967295
  pub orderly : IsOrderly view.events.now
  pub owners_are : AreOwners view.events.now view.owners.now
  pub txns_are : StandsForTxns view.events.now view.txns.now
  pub pasts_are : ArePasts view.events.now view.pasts.now
  pub writers_are : ListWriters view.txns.now (length view.txns.now) view.writers.now

-- the event at the place demands the pair by some cell
abbrev pub DemandsAt : Level → List Event → ℕ → ℕ → ℕ → Type 0
DemandsAt level events place first second = (cell : Cell) × IsDemandedAt level events place cell first second

-- the event at the place demands the pair, whose first isn't the initial transaction and isn't in the causal past of the second anyway
pub record IsNews (level : Level) (events : List Event) (place first second : ℕ) : Type 0 where
  pub positive : 0 < first
  pub apart : ¬ PrecedesCausally events first second
  pub demands : DemandsAt level events place first second

-- what is listed of the event at the place: its source before its reader, and what it demands that is news
abbrev pub IsListedAt : Level → List Event → ℕ → ℕ → ℕ → Type 0
IsListedAt level events place first second = IsReadFromAt events place first second ⊎ IsNews level events place first second

-- of the events below the place
pub record IsListedBelow (level : Level) (events : List Event) (n first second : ℕ) : Type 0 where
  pub place : ℕ
  pub below : place < n
  pub listed : IsListedAt level events place first second

-- the neighbours in a session whose second one begins at the place
pub record IsNextAt (events : List Event) (place first second : ℕ) : Type 0 where
  pub next : IsNext events first second
  pub at : next.place ≡ place

-- or below it
pub record IsNextBelow (events : List Event) (n first second : ℕ) : Type 0 where
  pub next : IsNext events first second
  pub below : next.place < n

-- the pairs that are listed: neighbours in sessions, and those of each event
abbrev pub IsListed : Level → List Event → ℕ → ℕ → Type 0
IsListed level events first second = IsNext events first second ⊎ IsListedBelow level events (length events) first second
