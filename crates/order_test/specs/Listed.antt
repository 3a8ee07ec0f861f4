-- How the committed writers of each cell are listed session by session, and what the lists show of a read at once.
use Rattle.std.specs.Prelude.{◌≡◌, ◌<◌, ◌≤◌, ◌+◌, ◌⊎◌, [], ℕ, Option, Some, None, List, Contains, slice_get, slice_index}
use Rattle.cell_base.specs.declared.cell.Cell.{Cell}
use Rattle.cell_base.specs.declared.value.Value.{Value}
use Rattle.cell_writers.specs.declared.writers.CellWriters.{CellWriters}
use Rattle.cell_writers.specs.Writers.{numbers_at, AreAscending, GainsWrites, IsLastUpTo}
use Rattle.history_core.specs.declared.event.Event.{Event}
use Rattle.history_core.specs.declared.txn.Txn.{Txn}
use Rattle.history_core.specs.declared.txn.TxnState.TheVariants.{Committed}
use Rattle.order_test.specs.Sights.{IsRival, origin_of}

-- each session's lists ascend
abbrev pub AreAllAscending : List CellWriters → Type 0
AreAllAscending lists = (session : ℕ) (writers : CellWriters) → slice_get lists session ≡ Some writers → AreAscending writers

-- no number is listed
abbrev pub AreEmpty : List CellWriters → Type 0
AreEmpty lists = (session : ℕ) (writers : CellWriters) (cell : Cell) → slice_get lists session ≡ Some writers → numbers_at writers cell ≡ []

-- the numbers that are listed in the session at the cell
abbrev pub numbers_in : Option CellWriters → Cell → List ℕ
numbers_in None cell = []
numbers_in (Some writers) cell = numbers_at writers cell

abbrev pub listed_at : List CellWriters → ℕ → Cell → List ℕ
listed_at lists session cell = numbers_in (slice_get lists session) cell

-- the number is that of one of the first n transactions, which is of the session
pub record IsTxnOf (txns : List Txn) (n session number : ℕ) : Type 0 where
  pub place : ℕ
  pub txn : Txn
  pub number_is : place + 1 ≡ number
  pub below : place < n
  pub is : slice_get txns place ≡ Some txn
  pub session_is : txn.session ≡ session

-- of the first n transactions those that have committed are listed in their sessions at the cells that they wrote
pub record ListsCommitted (txns : List Txn) (n : ℕ) (lists : List CellWriters) : Type 0 where
  pub ascending : AreAllAscending lists
  pub sound : (session : ℕ) (writers : CellWriters) (cell : Cell) (number : ℕ) → slice_get lists session ≡ Some writers → Contains (numbers_at writers cell) number →
      IsTxnOf txns n session number
  pub whole : (place : ℕ) (txn : Txn) (writers : CellWriters) (cell : Cell) (value : Value) → place < n → slice_get txns place ≡ Some txn → txn.state ≡ Committed →
      Contains txn.buffer.writes (cell, value) → slice_get lists txn.session ≡ Some writers → Contains (numbers_at writers cell) (place + 1)

-- the transaction is noted at the cells that it wrote
pub record NotesWrites (writes : List (Cell × Value)) (number : ℕ) (before after : CellWriters) : Type 0 where
  pub ascending : AreAscending after
  pub gains : GainsWrites before writes number after

-- each transaction is of a session below the width
abbrev pub AreTxnsWithin : ℕ → List Txn → Type 0
AreTxnsWithin width txns = (place : ℕ) (txn : Txn) → slice_get txns place ≡ Some txn → txn.session < width

-- of the numbers up to the limit the last one, if there is one, is that of the source or stands before it
abbrev pub HasNoLate : List ℕ → List ℕ → ℕ → ℕ → Type 0
HasNoLate places numbers limit from =
    ((other : ℕ) → Contains numbers other → other ≤ limit → ⊥)
    ⊎ ((last : ℕ) × IsLastUpTo numbers limit last × ((last ≡ from) ⊎ (slice_index places last < slice_index places from)))

-- no transaction is a rival of the read
abbrev pub HasNoRival : List Event → List ℕ → ℕ → Event → ℕ → Type 0
HasNoRival events order place event reader = (other : ℕ) → ¬ IsRival events order place (origin_of event) reader other
