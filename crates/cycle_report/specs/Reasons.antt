-- What a history asks of each commit order where all its transactions run at one level, whatever levels their begins say, and why.
use Rattle.std.specs.Prelude.{◌≡◌, ◌≢◌, ◌<◌, ◌≤◌, ◌+◌, ◌⊎◌, ℕ, List, take}
use Rattle.std.specs.declared.cmp.Ordering.TheVariants.{Greater}
use Rattle.cell_base.specs.declared.level.Level.{Level}
use Rattle.cell_base.specs.declared.cell.Cell.{Cell}
use Rattle.cell_base.specs.contracts.cell.CellOrd.TheImpl as cell_order
use Rattle.history_core.specs.declared.event.Event.{Event}
use Rattle.history_core.specs.Transactions.{IsStart, IsOf}
use Rattle.history_core.specs.Relations.{Writes, Reads, IsVisibleAt}
use Rattle.further_reads.specs.Begun.{IsLastBegun}
use Rattle.order_test.specs.Sights.{IsReading, origin_of}
use Rattle.cycle_report.specs.declared.judgement.Reason.{Reason}
use Rattle.cycle_report.specs.declared.judgement.Reason.TheVariants.{SessionOrder, Read, Axiom}

-- the first is the last transaction that the session of the second began before it, or the initial one where it began none
pub record IsNext (events : List Event) (first second : ℕ) : Type 0 where
  pub place : ℕ
  pub session : ℕ
  pub started : IsStart events second session place
  pub last : IsLastBegun (take place events) session first

-- by the event at the place, a read or a scan, the reader reads from the source; a scan reads from the initial transaction
pub record IsReadFromAt (events : List Event) (place source reader : ℕ) : Type 0 where
  pub event : Event
  pub of_reader : IsOf events reader place event
  pub reading : IsReading event
  pub source_is : source ≡ origin_of event

-- the event at the place reads the cell from the second, and where its reader runs at the level it sees the first, which writes the cell too
pub record IsDemandedAt (level : Level) (events : List Event) (place : ℕ) (cell : Cell) (first second : ℕ) : Type 0 where
  pub reader : ℕ
  pub reads : Reads events reader place cell second
  pub other : first ≢ second
  pub writes : Writes events first cell
  pub visible : IsVisibleAt level events reader place first

-- why the first has to stand before the second where all transactions run at the level
abbrev pub HasReason : Level → List Event → ℕ → ℕ → Reason → Type 0
HasReason level events first second SessionOrder = IsNext events first second
HasReason level events first second (Read event) = (place : ℕ) × (event ≡ place + 1) × IsReadFromAt events place first second
HasReason level events first second (Axiom event cell) = (place : ℕ) × (event ≡ place + 1) × IsDemandedAt level events place cell first second

-- the pairs that each commit order must have where all transactions run at the level
abbrev pub IsAsked : Level → List Event → ℕ → ℕ → Type 0
IsAsked level events first second = (reason : Reason) × HasReason level events first second reason

-- the reason is told rather than the other: session order before reads, and these before axioms; of two of one kind the one of the earlier event,
-- and at one event the one of the lesser cell
abbrev pub IsToldFirst : Reason → Reason → Type 0
IsToldFirst SessionOrder other = Unit {0}
IsToldFirst (Read event) SessionOrder = ⊥
IsToldFirst (Read event) (Read other) = event ≤ other
IsToldFirst (Read event) (Axiom other of) = Unit {0}
IsToldFirst (Axiom event cell) SessionOrder = ⊥
IsToldFirst (Axiom event cell) (Read other) = ⊥
IsToldFirst (Axiom event cell) (Axiom other of) = (event < other) ⊎ ((event ≡ other) × ((cell_order.ghosts).cmp cell of ≢ Greater))

-- the reason of a pair: the first that it has
pub record IsReasonOf (level : Level) (events : List Event) (first second : ℕ) (reason : Reason) : Type 0 where
  pub has : HasReason level events first second reason
  pub is_first : (other : Reason) → HasReason level events first second other → IsToldFirst reason other
