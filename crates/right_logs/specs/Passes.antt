-- What one pass over the events of a history without initial rows notes of them, and what it shows.
use Rattle.std.specs.Prelude.{◌≡◌, ◌+◌, ℕ, Some, IsTrue, List, [], ◌∷◌, ◌++◌, length, slice_get}
use Rattle.cell_base.specs.declared.cell.Cell.{Cell}
use Rattle.cell_base.specs.declared.value.Value.{Value}
use Rattle.history_core.specs.declared.event.Event.{Event}
use Rattle.history_core.specs.declared.event.Event.TheVariants.{Write}
use Rattle.history_core.specs.Events.{opened, names, defined}
use Rattle.cell_writers.specs.Numbered.{AreNumberedSo}
use Rattle.order_test.specs.Settled.{IsSettled}
use Rattle.order_test.specs.Unkept.{KeepsSessions}
use Rattle.order_test.specs.Places.{ArePlaces}
use Rattle.order_test.specs.Glance.{HoldsLast, IsScan}
use Rattle.history_check.specs.Breaches.{AreRight}
use Rattle.history_check.specs.Notes.{AreOfSessions, StandsForSessionNotes, StandsForPendingWrites, StandsForCommits, AreCellNotes}
use Rattle.right_logs.specs.declared.pass.Pass.{Pass}
use Rattle.right_logs.specs.Clocks.{AreTxnNotes}
use Rattle.right_logs.specs.OpenReads.{HoldReads}
use Rattle.right_logs.specs.Standing.{AreHighest}

-- the value of each write stands at its place
pub record HaveValues (events : List Event) (values : List Value) : Type 0 where
  pub count : length values ≡ length events
  pub each : (k s : ℕ) (cell : Cell) (value : Value) → slice_get events k ≡ Some (Write s cell value) → slice_get values k ≡ Some value

-- none of the events is a scan
abbrev pub HaveNoScan : List Event → Type 0
HaveNoScan events = (k : ℕ) (event : Event) → slice_get events k ≡ Some event → IsScan event → ⊥

-- each transaction has its note, and each session its reads; while all is met each read has its note, or no later event can break it
pub record StandsForSights (places : List ℕ) (events : List Event) (pass : Pass) : Type 0 where
  pub txns : AreTxnNotes events pass.clocked pass.txns.items
  pub highest : AreHighest places pass.highest.items
  pub lists : length pass.reads.items ≡ opened events
  pub reads : IsTrue pass.met → HoldReads places events pass.cells.numbers.cells.keys pass.reads.items

-- the events are right, the order keeps the order of each session so far, and what the pass has noted stands for them
pub record StandsFor (order places : List ℕ) (events : List Event) (pass : Pass) : Type 0 where
  pub placed : ArePlaces (length places) order places
  pub right : AreRight [] events
  pub settled : IsSettled events
  pub sessions : AreOfSessions events
  pub session_notes : StandsForSessionNotes events pass.session_notes.items
  pub pending : StandsForPendingWrites events pass.pending.items
  pub commits : StandsForCommits events pass.committed.items
  pub names_are : pass.names.items ≡ names events
  pub tables : length pass.names.items ≡ defined events
  pub numbered : AreNumberedSo events pass.cells.numbers
  pub cells : AreCellNotes events pass.cells
  pub values : HaveValues events pass.values
  pub room : length pass.last.items ≡ opened events + 1
  pub last : HoldsLast events pass.last.items
  pub keeps : KeepsSessions events order
  pub no_scan : HaveNoScan events
  pub sights : StandsForSights places events pass

-- whatever events the pass stood for, it stands for them with this one after them
abbrev pub Goes : List ℕ → Event → Pass → Pass → Type 0
Goes places event old new = (order : List ℕ) (events : List Event) → StandsFor order places events old → StandsFor order places (events ++ event ∷ []) new

-- it stands for some events, under some order
abbrev pub Stands : List ℕ → Pass → Type 0
Stands places pass = (order : List ℕ) × ((events : List Event) × StandsFor order places events pass)
