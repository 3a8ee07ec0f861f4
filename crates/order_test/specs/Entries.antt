-- What is noted of each cell at its number.
use Rattle.std.specs.Prelude.{◌≡◌, ℕ, Some, List, slice_get}
use Rattle.std.specs.List.Sorted.{IsStrictlyIncreasing}
use Rattle.cell_base.specs.declared.cell.Cell.{Cell}
use Rattle.cell_writers.specs.declared.cell_note.CellNote.{CellNote}
use Rattle.cell_writers.specs.declared.cell_note.CellNotes.{CellNotes}

-- the cell has the number, and these transactions have committed and write it
pub record IsEntryAt (cells : CellNotes) (number : ℕ) (entry : Cell × List ℕ) : Type 0 where
  pub cell_is : slice_get cells.numbers.cells.keys number ≡ Some entry.0
  pub note : CellNote
  pub note_is : slice_get cells.notes.items number ≡ Some note
  pub committed : note.committed ≡ entry.1

-- the committed transactions ascend at each number
abbrev pub AreAscending : CellNotes → Type 0
AreAscending cells = (i : ℕ) (note : CellNote) → slice_get cells.notes.items i ≡ Some note → IsStrictlyIncreasing note.committed
