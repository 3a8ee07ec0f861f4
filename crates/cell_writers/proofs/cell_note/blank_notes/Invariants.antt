use Rattle.std.proofs.Common.{◌≡◌, length}
use Rattle.cell_writers.specs.Numbered.{AreBlank}
use Rattle.cell_writers.proofs.cell_note.blank_notes.Given as goal

abbrev pub invariant-loop-at : goal.invariant-loop-at
invariant-loop-at l = (length l.notes.items ≡ l._at) × AreBlank l.notes.items
