use Rattle.std.proofs.Common.{◌≡◌, take}
use Rattle.history_check.specs.Notes.{AreNotes, AreCellNotes}
use Rattle.history_check.specs.Breaches.{AreRightBelow}
use Rattle.history_check.proofs.events.note_all.Given as goal

abbrev pub invariant-loop-at : goal.invariant-loop-at
invariant-loop-at l =
    AreNotes (take l.at l.events) l.notes × AreCellNotes (take l.at l.events) l.cells × (l.cells.numbers ≡ l.fn.cells.numbers) × AreRightBelow l.initial' l.events l.at
