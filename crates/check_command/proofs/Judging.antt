-- What one pass over a text showed of it, said of the history that was read from the text.
use Rattle.std.proofs.Common.{◌≡◌, ℕ, List, sym, subst}
use Rattle.cell_writers.specs.declared.cell_note.CellNotes.{CellNotes}
use Rattle.cell_writers.specs.Numbered.{AreNumbered}
use Rattle.history_log.specs.declared.trace.Trace.{Trace}
use Rattle.history_check.specs.Breaches.{AreRight}
use Rattle.history_check.specs.Notes.{AreCellNotes}
use Rattle.right_logs.specs.Glimpses.{IsClearlyRight, IsJudgedLog}
use Rattle.check_command.specs.Verdict.{IsRightLog}

pub right_log : (bytes : List ℕ) → IsClearlyRight bytes → IsRightLog bytes
right_log bytes is = record { few = is.few; version = is.version; trace = is.trace; log = is.log; right = is.right }

module _ (bytes : List ℕ) (cells : CellNotes) (trace : Trace) (judged : IsJudgedLog bytes cells) (same : trace ≡ judged.trace) where
  pub right_of : AreRight trace.initial trace.events
  right_of = subst (λ (t : Trace). AreRight t.initial t.events) (sym same) judged.right

  pub notes_of : AreCellNotes trace.events cells
  notes_of = subst (λ (t : Trace). AreCellNotes t.events cells) (sym same) judged.notes

  pub numbered_of : AreNumbered trace.events cells.numbers
  numbered_of = subst (λ (t : Trace). AreNumbered t.events cells.numbers) (sym same) judged.numbered
