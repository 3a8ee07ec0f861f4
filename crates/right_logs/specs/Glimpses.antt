-- What a glimpse says of a text.
use Rattle.std.specs.Prelude.{ℕ, List}
use Rattle.cell_base.specs.declared.level.Level.{Level}
use Rattle.cell_writers.specs.declared.cell_note.CellNotes.{CellNotes}
use Rattle.cell_writers.specs.Numbered.{AreNumbered}
use Rattle.history_log.specs.declared.trace.Trace.{Trace}
use Rattle.history_log.specs.declared.version.Version.{Version}
use Rattle.history_log.specs.Log.{IsLog}
use Rattle.history_log.specs.Faults.{HasFewBytes}
use Rattle.history_check.specs.Breaches.{AreRight}
use Rattle.history_check.specs.Notes.{AreCellNotes}
use Rattle.history_check.specs.Orders.{IsRightTrace}
use Rattle.right_logs.specs.declared.glimpse.Glimpse.{Glimpse}
use Rattle.right_logs.specs.declared.glimpse.Glimpse.TheVariants as glimpses
use Rattle.right_logs.specs.declared.glimpse.Seen.{Seen}
use Rattle.right_logs.specs.declared.glimpse.Seen.TheVariants as sights
use Rattle.right_logs.specs.Endings.{AreRightEvents, AreJudgedEvents, AreRightLines, AreJudgedLines}

-- the bytes are few, and the log of a history whose events are right and whose order meets them
pub record IsClearlyRight (bytes : List ℕ) : Type 0 where
  pub few : HasFewBytes bytes
  pub version : Version
  pub trace : Trace
  pub log : IsLog version trace bytes
  pub right : IsRightTrace trace

-- the bytes are few, and the log of a history whose events are right; these are the numbers and the notes of their cells
pub record IsJudgedLog (bytes : List ℕ) (cells : CellNotes) : Type 0 where
  pub few : HasFewBytes bytes
  pub version : Version
  pub trace : Trace
  pub log : IsLog version trace bytes
  pub right : AreRight trace.initial trace.events
  pub notes : AreCellNotes trace.events cells
  pub numbered : AreNumbered trace.events cells.numbers

abbrev pub IsGlimpseOf : List ℕ → Glimpse → Type 0
IsGlimpseOf bytes glimpses.Right = IsClearlyRight bytes
IsGlimpseOf bytes (glimpses.Judged cells) = IsJudgedLog bytes cells
IsGlimpseOf bytes glimpses.Unclear = Unit {0}

-- the same of the lines of events, beside an order
abbrev pub IsGlimpseOfEvents : Version → Level → List ℕ → List ℕ → Glimpse → Type 0
IsGlimpseOfEvents v head text order glimpses.Right = AreRightEvents v head text order
IsGlimpseOfEvents v head text order (glimpses.Judged cells) = AreJudgedEvents v head text cells
IsGlimpseOfEvents v head text order glimpses.Unclear = Unit {0}

-- the same of the lines after the head
abbrev pub IsGlimpseOfLines : Version → Level → List ℕ → Glimpse → Type 0
IsGlimpseOfLines v head text glimpses.Right = AreRightLines v head text
IsGlimpseOfLines v head text (glimpses.Judged cells) = AreJudgedLines v head text cells
IsGlimpseOfLines v head text glimpses.Unclear = Unit {0}

-- what was seen, with the notes of the cells
abbrev pub glimpse_with : CellNotes → Seen → Glimpse
glimpse_with cells sights.Right = glimpses.Right
glimpse_with cells sights.Judged = glimpses.Judged cells
glimpse_with cells sights.Unclear = glimpses.Unclear
