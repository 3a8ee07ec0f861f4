-- The text of a history with an order, in its versions.
use Rattle.std.specs.Prelude.{◌≡◌, ◌≢◌, ◌==◌, if◌then◌else◌, length, ℕ, List, []}
use Rattle.std.specs.List.{AllByRecursion}
use Rattle.cell_base.specs.declared.cell.Cell.{Cell}
use Rattle.cell_base.specs.declared.level.Level.{Level}
use Rattle.cell_base.specs.declared.value.Value.{Value}
use Rattle.cell_base.specs.declared.value.Value.TheVariants as values
use Rattle.history_core.specs.declared.event.Event.{Event}
use Rattle.history_core.specs.declared.event.Event.TheVariants.{Read, Own, Write}
use Rattle.history_core.specs.Initial.{IsInitialState}
use Rattle.history_log.specs.declared.trace.Trace.{Trace}
use Rattle.history_log.specs.declared.version.Version.{Version}
use Rattle.history_log.specs.declared.version.Version.TheVariants.{One, Two, Three}
use Rattle.history_log.specs.Spelling.{lines, whole_lines}
use Rattle.history_log.specs.Reading.{IsU32, FitsCell, FitsValue, FitsEvent, IsEventIn}

-- the cell and the value have words
abbrev pub IsInitialCell : Cell × Value → Type 0
IsInitialCell x = FitsCell x.0 × FitsValue x.1

-- an initial state: cells that ascend, rows that are there, and fields of such rows
abbrev pub AreInitialCells : List (Cell × Value) → Type 0
AreInitialCells initial = IsInitialState initial × AllByRecursion IsInitialCell initial

-- what a text of this version can say was there from the start
abbrev pub IsInitialIn : Version → List (Cell × Value) → Type 0
IsInitialIn One initial = initial ≡ []
IsInitialIn Two initial = initial ≡ []
IsInitialIn Three initial = (initial ≢ []) × AreInitialCells initial

abbrev pub AreEventsIn : Version → Level → List Event → Type 0
AreEventsIn v head events = AllByRecursion (λ event. FitsEvent event × IsEventIn v head event) events

-- a text of this version can say the history
pub record CanSay (v : Version) (t : Trace) : Type 0 where
  pub initial : IsInitialIn v t.initial
  pub events : AreEventsIn v t.level t.events
  pub order : AllByRecursion IsU32 t.order

-- the bytes are the history's text of this version
pub record IsLog (v : Version) (t : Trace) (bytes : List ℕ) : Type 0 where
  pub says : CanSay v t
  pub text : bytes ≡ whole_lines (lines v t)

-- the version that is printed: 2, or 3 where rows were there from the start
abbrev pub newest : List (Cell × Value) → Version
newest initial = if length initial == 0 then Two else Three

abbrev pub IsNotWide : Value → Type 0
IsNotWide (values.Wide n) = ⊥
IsNotWide _ = Unit {0}

-- no wide value stands in the event
abbrev pub HasNoWide : Event → Type 0
HasNoWide (Read s cell source count word value) = IsNotWide value
HasNoWide (Own s cell value) = IsNotWide value
HasNoWide (Write s cell value) = IsNotWide value
HasNoWide _ = Unit {0}
