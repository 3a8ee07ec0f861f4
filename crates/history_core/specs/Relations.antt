-- What transactions write and read, what comes before what, and the commit orders that a level allows.
use Rattle.std.specs.Prelude.{◌≡◌, ◌≢◌, ◌<◌, ◌≤◌, ◌+◌, ◌⊎◌, ℕ, Some, List, [], ◌∷◌, Contains, slice_get}
use Rattle.graph_base.specs.Order.{HoldsEachOnce, place_of}
use Rattle.graph_base.specs.Chain.{Chained}
use Rattle.cell_base.specs.declared.level.Level.{Level}
use Rattle.cell_base.specs.declared.level.Level.TheVariants.{Rc, Ra, Cc}
use Rattle.cell_base.specs.declared.cell.Cell.{Cell}
use Rattle.cell_base.specs.declared.cell.Cell.TheVariants.{Presence}
use Rattle.cell_base.specs.declared.value.Value.{Value}
use Rattle.history_core.specs.declared.event.Event.{Event}
use Rattle.history_core.specs.declared.event.Event.TheVariants.{Scan, Read, Write}
use Rattle.history_core.specs.Events.{begun}
use Rattle.history_core.specs.Initial.{WritesInitially}
use Rattle.history_core.specs.Transactions.{IsStart, IsOf, IsCommitted, RunsAt}

-- the transaction has a write of the cell, committed or not
pub record HasWritten (events : List Event) (number : ℕ) (cell : Cell) : Type 0 where
  pub place : ℕ
  pub session : ℕ
  pub value : Value
  pub write : IsOf events number place (Write session cell value)

-- the value is the last that the transaction wrote to the cell, committed or not
pub record LastWrites (events : List Event) (number : ℕ) (cell : Cell) (value : Value) : Type 0 where
  pub place : ℕ
  pub session : ℕ
  pub write : IsOf events number place (Write session cell value)
  pub last : (q s : ℕ) (v : Value) → IsOf events number q (Write s cell v) → q ≤ place

-- the initial transaction and the committed ones
abbrev pub Writes : List Event → ℕ → Cell → Type 0
Writes events number cell = (number ≡ 0) ⊎ (IsCommitted events number × HasWritten events number cell)

abbrev pub WritesValue : List (Cell × Value) → List Event → ℕ → Cell → Value → Type 0
WritesValue initial events number cell value =
    ((number ≡ 0) × WritesInitially initial cell value) ⊎ (IsCommitted events number × LastWrites events number cell value)

-- a scan reads the presence of each key that it doesn't list, from the initial transaction
abbrev pub Gives : Event → Cell → ℕ → Type 0
Gives (Read s seen_cell from count word value) cell source = (seen_cell ≡ cell) × (from ≡ source)
Gives (Scan s table keys) (Presence of_table key) source = (of_table ≡ table) × (¬ Contains keys key) × (source ≡ 0)
Gives _ cell source = ⊥

-- the event at the place is an external read
pub record Reads (events : List Event) (reader place : ℕ) (cell : Cell) (source : ℕ) : Type 0 where
  pub event : Event
  pub of_reader : IsOf events reader place event
  pub gives : Gives event cell source

-- session order
pub record IsSessionOrdered (events : List Event) (first second : ℕ) : Type 0 where
  pub earlier : first < second
  pub place : ℕ
  pub session : ℕ
  pub started : IsStart events second session place
  pub same : (first ≡ 0) ⊎ ((other : ℕ) × IsStart events first session other)

-- the write-read relation
pub record ReadsFrom (events : List Event) (source reader : ℕ) : Type 0 where
  pub place : ℕ
  pub cell : Cell
  pub reads : Reads events reader place cell source

abbrev pub Precedes : List Event → ℕ → ℕ → Type 0
Precedes events first second = IsSessionOrdered events first second ⊎ ReadsFrom events first second

-- the causal past: a chain of transactions of which each precedes the next
abbrev pub PrecedesCausally : List Event → ℕ → ℕ → Type 0
PrecedesCausally events first second = Chained (Precedes events) first second

pub record ReadsBefore (events : List Event) (reader place source : ℕ) : Type 0 where
  pub earlier : ℕ
  pub cell : Cell
  pub below : earlier < place
  pub reads : Reads events reader earlier cell source

-- what a level lets a read at the place see
abbrev pub IsVisibleAt : Level → List Event → ℕ → ℕ → ℕ → Type 0
IsVisibleAt Rc events reader place writer = ReadsBefore events reader place writer
IsVisibleAt Ra events reader place writer = Precedes events writer reader
IsVisibleAt Cc events reader place writer = PrecedesCausally events writer reader

-- what the level of its transaction lets a read at the place see
pub record IsVisible (events : List Event) (reader place writer : ℕ) : Type 0 where
  pub level : Level
  pub runs : RunsAt events reader level
  pub sees : IsVisibleAt level events reader place writer

-- a read from the second sees the first, which writes the cell too
pub record Demands (events : List Event) (first second : ℕ) : Type 0 where
  pub reader : ℕ
  pub place : ℕ
  pub cell : Cell
  pub reads : Reads events reader place cell second
  pub other : first ≢ second
  pub writes : Writes events first cell
  pub visible : IsVisible events reader place first

-- the commit order holds each transaction once, the initial one first, and keeps what comes before what
pub record Meets (events : List Event) (order : List ℕ) : Type 0 where
  pub holds : HoldsEachOnce (begun events + 1) order
  pub first : slice_get order 0 ≡ Some 0
  pub precedes : (a b : ℕ) → Precedes events a b → place_of order a < place_of order b
  pub demands : (a b : ℕ) → Demands events a b → place_of order a < place_of order b

abbrev pub IsConsistent : List Event → Type 0
IsConsistent events = (order : List ℕ) × Meets events order
