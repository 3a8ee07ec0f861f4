-- What the notes say of a read by themselves.
use Rattle.std.specs.Prelude.{◌≡◌, ◌<◌, ◌≤◌, ◌+◌, ◌-◌, ◌⊎◌, ℕ, Bool, true, Some, None, List, length, slice_get}
use Rattle.cell_base.specs.declared.cell.Cell.{Cell}
use Rattle.cell_base.specs.declared.value.Value.{Value}
use Rattle.cell_writers.specs.declared.cell_note.CellNote.{CellNote}
use Rattle.cell_writers.specs.Pairs.{get}
use Rattle.history_core.specs.Initial.{absent_value}
use Rattle.history_core.specs.Events.{table_of}
use Rattle.right_logs.specs.declared.pass.Pass.{Pass}
use Rattle.right_logs.specs.Seats.{IsPendingIn}

-- the write that stands last for the transaction has the value
pub record GivesLast (note : CellNote) (values : List Value) (txn : ℕ) (value : Value) : Type 0 where
  pub place : ℕ
  pub last : get note.places txn ≡ Some place
  pub written : slice_get values place ≡ Some value

-- the source is the initial transaction, which wrote nothing there, or has committed and gives the value
abbrev pub GivesValue : CellNote → List Value → List Bool → Cell → ℕ → Value → Type 0
GivesValue note values committed cell source value =
    ((source ≡ 0) × (value ≡ absent_value cell)) ⊎ ((0 < source) × ((slice_get committed (source - 1) ≡ Some true) × GivesLast note values source value))

-- the reader hasn't written the cell, the source gives the value, and so many sources may have been offered
pub record IsClearRead (note : CellNote) (values : List Value) (committed : List Bool) (cell : Cell) (reader source count : ℕ) (value : Value) : Type 0 where
  pub external : get note.places reader ≡ None
  pub gives : GivesValue note values committed cell source value
  pub some : 0 < count
  pub upto : count ≤ length note.committed + 1

-- the note at the number of the cell says that the transaction has written the value last
abbrev pub ShowsLast : Pass → ℕ → ℕ → Value → Type 0
ShowsLast pass at txn value = (note : CellNote) × ((slice_get pass.cells.notes.items at ≡ Some note) × GivesLast note pass.values txn value)

-- the note at the number of the cell says that the read is right
abbrev pub ShowsRead : Pass → ℕ → Cell → ℕ → ℕ → ℕ → Value → Type 0
ShowsRead pass at cell reader source count value =
    (note : CellNote) × ((slice_get pass.cells.notes.items at ≡ Some note) × IsClearRead note pass.values pass.committed.items cell reader source count value)

-- the transaction is pending in the session, and the table of the cell is there
pub record MayTouch (pass : Pass) (session : ℕ) (cell : Cell) (txn : ℕ) : Type 0 where
  pub pending : IsPendingIn pass.session_notes.items session txn
  pub table : table_of cell < length pass.names.items
