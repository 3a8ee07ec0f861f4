-- The first of the reasons that a pair has.
use Rattle.std.specs.Prelude.{◌≡◌, ◌≢◌, ◌<◌, ◌+◌, ℕ, List}
use Rattle.std.specs.declared.cmp.Ordering.TheVariants.{Greater}
use Rattle.cell_base.specs.declared.level.Level.{Level}
use Rattle.cell_base.specs.declared.cell.Cell.{Cell}
use Rattle.cell_base.specs.contracts.cell.CellOrd.TheImpl as cell_order
use Rattle.history_core.specs.declared.event.Event.{Event}
use Rattle.cycle_report.specs.Reasons.{IsReadFromAt, IsDemandedAt}
use Rattle.cycle_report.specs.Views.{DemandsAt}

-- the event at the place demands the pair by the cell, and by no lesser one
pub record IsFirstDemand (level : Level) (events : List Event) (place : ℕ) (cell : Cell) (first second : ℕ) : Type 0 where
  pub is : IsDemandedAt level events place cell first second
  pub least : (other : Cell) → IsDemandedAt level events place other first second → (cell_order.ghosts).cmp cell other ≢ Greater

-- the event of the number is the first by which the reader reads from the source
pub record IsFirstRead (events : List Event) (source reader number : ℕ) : Type 0 where
  pub place : ℕ
  pub number_is : number ≡ place + 1
  pub is : IsReadFromAt events place source reader
  pub none_before : (earlier : ℕ) → earlier < place → ¬ IsReadFromAt events earlier source reader

-- the event at the place is the first that demands the pair, and this is the least cell by which it does
pub record IsFirstDemanding (level : Level) (events : List Event) (first second place : ℕ) (cell : Cell) : Type 0 where
  pub is : IsFirstDemand level events place cell first second
  pub none_before : (earlier : ℕ) → earlier < place → ¬ DemandsAt level events earlier first second
