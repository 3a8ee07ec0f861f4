-- The parts of a text.
use Rattle.std.specs.Prelude.{◌≡◌, ℕ, List, ◌∷◌, ◌++◌, [], codes, map}
use Rattle.std.specs.List.{AllByRecursion}
use Rattle.cell_base.specs.declared.level.Level.{Level}
use Rattle.cell_writers.specs.declared.cell_note.CellNotes.{CellNotes}
use Rattle.cell_writers.specs.Numbered.{AreNumbered}
use Rattle.history_core.specs.declared.event.Event.{Event}
use Rattle.history_core.specs.Relations.{Meets}
use Rattle.history_log.specs.declared.version.Version.{Version}
use Rattle.history_log.specs.Spelling.{event_line, order_line, whole_lines}
use Rattle.history_log.specs.Reading.{IsU32, FitsEvent, IsEventIn}
use Rattle.history_log.specs.Log.{AreEventsIn}
use Rattle.history_check.specs.Breaches.{AreRight}
use Rattle.history_check.specs.Notes.{AreCellNotes}
use Rattle.right_logs.specs.declared.pass.Pass.{Pass}
use Rattle.right_logs.specs.Passes.{StandsFor, Goes}

-- the text is the body, a line, and the line of the end
abbrev pub IsEnded : List ℕ → List ℕ → List ℕ → Type 0
IsEnded text body last = text ≡ body ++ (last ++ codes "\nend\n")

-- the text is the line of the event, its line feed, and the rest
abbrev pub IsFirstEvent : Version → Level → List ℕ → Event → List ℕ → Type 0
IsFirstEvent v head text event rest = FitsEvent event × (IsEventIn v head event × (text ≡ event_line v event ++ 10 ∷ rest))

-- the text begins with the line of an event, with which the pass goes on, and the rest stands after its line feed
pub record IsTaken (v : Version) (head : Level) (places text rest : List ℕ) (old new : Pass) : Type 0 where
  pub event : Event
  pub first : IsFirstEvent v head text event rest
  pub goes : Goes places event old new

-- the text begins with the lines of events that the pass stands for, and the rest stands after them
pub record AreTaken (v : Version) (head : Level) (order places text rest : List ℕ) (pass : Pass) : Type 0 where
  pub events : List Event
  pub fit : AreEventsIn v head events
  pub spelled : text ≡ whole_lines (map (event_line v) events) ++ rest
  pub stands : StandsFor order places events pass

-- the text is that of right events that the order meets
pub record AreRightEvents (v : Version) (head : Level) (text order : List ℕ) : Type 0 where
  pub events : List Event
  pub fit : AreEventsIn v head events
  pub spelled : text ≡ whole_lines (map (event_line v) events)
  pub right : AreRight [] events
  pub meets : Meets events order

-- the text is that of right events, whose cells have these numbers and notes
pub record AreJudgedEvents (v : Version) (head : Level) (text : List ℕ) (cells : CellNotes) : Type 0 where
  pub events : List Event
  pub fit : AreEventsIn v head events
  pub spelled : text ≡ whole_lines (map (event_line v) events)
  pub right : AreRight [] events
  pub notes : AreCellNotes events cells
  pub numbered : AreNumbered events cells.numbers

-- the text, after a head of the version and the level, is that of right events and of an order that meets them
pub record AreRightLines (v : Version) (head : Level) (text : List ℕ) : Type 0 where
  pub events : List Event
  pub order : List ℕ
  pub fit : AreEventsIn v head events
  pub numbers : AllByRecursion IsU32 order
  pub spelled : text ≡ whole_lines (map (event_line v) events) ++ (order_line order ++ codes "\nend\n")
  pub right : AreRight [] events
  pub meets : Meets events order

-- the same, whatever the order meets; the cells of the events have these numbers and notes
pub record AreJudgedLines (v : Version) (head : Level) (text : List ℕ) (cells : CellNotes) : Type 0 where
  pub events : List Event
  pub order : List ℕ
  pub fit : AreEventsIn v head events
  pub numbers : AllByRecursion IsU32 order
  pub spelled : text ≡ whole_lines (map (event_line v) events) ++ (order_line order ++ codes "\nend\n")
  pub right : AreRight [] events
  pub notes : AreCellNotes events cells
  pub numbered : AreNumbered events cells.numbers
