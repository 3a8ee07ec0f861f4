-- The numbers of the cells of events, and what is noted at each number.
use Rattle.std.specs.Prelude.{◌≡◌, ◌<◌, ◌≤◌, ◌⊎◌, ◌↔◌, ◌++◌, ◌∷◌, [], ℕ, Option, Some, None, List, Contains, length, slice_get, slice_index}
use Rattle.std.specs.List.Sorted.{IsStrictlyIncreasing}
use Rattle.cell_base.specs.declared.cell.Cell.{Cell}
use Rattle.history_core.specs.declared.event.Event.{Event}
use Rattle.history_core.specs.declared.event.Event.TheVariants.{Read, Own, Write}
use Rattle.history_core.specs.Relations.{Writes}
use Rattle.cell_writers.specs.declared.cell_note.CellNote.{CellNote}
use Rattle.cell_writers.specs.declared.cell_note.CellNotes.{CellNotes}
use Rattle.cell_writers.specs.declared.cell_numbers.CellNumbers.{CellNumbers}

-- the cell that the event reads or writes
abbrev pub cell_in : Event → Option Cell
cell_in (Read session cell source count word value) = Some cell
cell_in (Own session cell value) = Some cell
cell_in (Write session cell value) = Some cell
cell_in _ = None

-- no cell has two numbers
abbrev pub AreUnique : List Cell → Type 0
AreUnique cells = (i j : ℕ) (cell : Cell) → slice_get cells i ≡ Some cell → slice_get cells j ≡ Some cell → i ≡ j

-- the cells with this one, which is the last where it wasn't among them
abbrev pub AddsCell : List Cell → Cell → List Cell → Type 0
AddsCell old cell new = (new ≡ old) ⊎ ((new ≡ old ++ cell ∷ []) × (¬ Contains old cell))

-- the number is that of the event's cell, where it has one, after one cell more or none
pub record NumbersNext (event : Event) (old : List Cell) (number : ℕ) (new : List Cell) : Type 0 where
  pub adds : (new ≡ old) ⊎ ((cell : Cell) × AddsCell old cell new)
  pub is : (cell : Cell) → cell_in event ≡ Some cell → slice_get new number ≡ Some cell

-- each cell stands once, and the number of an event's cell at the event; there may be more cells and numbers than that
pub record AreNumbered (events : List Event) (numbers : CellNumbers) : Type 0 where
  pub long : length events ≤ length numbers.of_events.items
  pub unique : AreUnique numbers.cells.keys
  pub each : (k : ℕ) (event : Event) (cell : Cell) → slice_get events k ≡ Some event → cell_in event ≡ Some cell →
      slice_get numbers.cells.keys (slice_index numbers.of_events.items k) ≡ Some cell

-- so it is with the events so far, and there are no more numbers than events
pub record AreNumberedSo (events : List Event) (numbers : CellNumbers) : Type 0 where
  pub are : AreNumbered events numbers
  pub count : length numbers.of_events.items ≡ length events
  pub few : length numbers.cells.keys ≤ length events

-- none of the notes says anything
abbrev pub AreBlank : List CellNote → Type 0
AreBlank notes = (i : ℕ) (note : CellNote) → slice_get notes i ≡ Some note → (note.places ≡ []) × (note.committed ≡ [])

-- at the number of each cell stand, ascending, the transactions after the initial one that have committed and write it
pub record AreWriters (events : List Event) (cells : CellNotes) : Type 0 where
  pub numbered : AreNumbered events cells.numbers
  pub count : length cells.notes.items ≡ length cells.numbers.cells.keys
  pub ascending : (i : ℕ) (note : CellNote) → slice_get cells.notes.items i ≡ Some note → IsStrictlyIncreasing note.committed
  pub exact : (i : ℕ) (cell : Cell) (note : CellNote) (number : ℕ) → slice_get cells.numbers.cells.keys i ≡ Some cell → slice_get cells.notes.items i ≡ Some note →
      Contains note.committed number ↔ ((0 < number) × Writes events number cell)

-- where there are more cells than notes a note is put after the others that says nothing
abbrev pub AddsNote : ℕ → List CellNote → List CellNote → Type 0
AddsNote cells old new =
    ((cells ≤ length old) × (new ≡ old)) ⊎ ((length old < cells) × ((blank : CellNote) × ((blank.places ≡ []) × ((blank.committed ≡ []) × (new ≡ old ++ blank ∷ [])))))

-- the cell was there with its note, or is the last with a note that says nothing; its number stands at the next event
pub record TakesCell (old : CellNotes) (cell : Cell) (number : ℕ) (new : CellNotes) : Type 0 where
  pub is : slice_get new.numbers.cells.keys number ≡ Some cell
  pub pushed : new.numbers.of_events.items ≡ old.numbers.of_events.items ++ number ∷ []
  pub adds : ((new.numbers.cells.keys ≡ old.numbers.cells.keys) × (new.notes.items ≡ old.notes.items))
      ⊎ ((new.numbers.cells.keys ≡ old.numbers.cells.keys ++ cell ∷ []) × ((¬ Contains old.numbers.cells.keys cell)
      × ((blank : CellNote) × ((blank.places ≡ []) × ((blank.committed ≡ []) × (new.notes.items ≡ old.notes.items ++ blank ∷ []))))))
