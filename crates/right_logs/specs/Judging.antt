-- What the notes of a pass show of what a read asks of the order.
use Rattle.std.specs.Prelude.{◌≡◌, ◌≢◌, ◌<◌, ◌≤◌, ◌⊎◌, ℕ, Some, IsTrue, List, [], Contains, slice_get, slice_index}
use Rattle.cell_base.specs.declared.level.Level.{Level}
use Rattle.cell_base.specs.declared.level.Level.TheVariants.{Rc, Ra, Cc}
use Rattle.cell_writers.specs.declared.cell_note.CellNote.{CellNote}
use Rattle.order_test.specs.Places.{StandsAt}
use Rattle.right_logs.specs.declared.open_reads.ReadNote.{ReadNote}
use Rattle.right_logs.specs.declared.txn_notes.TxnNote.{TxnNote}
use Rattle.right_logs.specs.declared.pass.Pass.{Pass}
use Rattle.right_logs.specs.OpenReads.{AreReadsOf}
use Rattle.right_logs.specs.Seats.{IsPendingIn}

-- none of the writers stands after the place
abbrev pub HasNoLateWriter : List ℕ → List ℕ → ℕ → Type 0
HasNoLateWriter places writers from = (writer : ℕ) → Contains writers writer → slice_index places writer ≤ from

-- at the level of the reader: at Read Atomic the writer is of another session, at Causal Consistency it is beyond the reader's clock, and at
-- Read Committed neither counts
abbrev pub IsUnseenAt : Level → TxnNote → TxnNote → ℕ → Type 0
IsUnseenAt Rc own writer number = Unit {0}
IsUnseenAt Ra own writer number = writer.session ≢ own.session
IsUnseenAt Cc own writer number = slice_index own.clock.items writer.session < number

abbrev pub IsUnseen : TxnNote → TxnNote → ℕ → Type 0
IsUnseen own writer number = IsUnseenAt own.level own writer number

-- the transaction of the number has a note, and is unseen by it
abbrev pub KnowsUnseen : Pass → TxnNote → ℕ → Type 0
KnowsUnseen pass own number = (writer : TxnNote) × ((slice_get pass.txns.items number ≡ Some writer) × IsUnseen own writer number)

-- the writer doesn't stand after the place, or is unseen
abbrev pub IsClearOf : List ℕ → Pass → TxnNote → ℕ → ℕ → Type 0
IsClearOf places pass own number from = (slice_index places number ≤ from) ⊎ KnowsUnseen pass own number

-- so it is with each of the writers
abbrev pub HasNoUnseenRival : List ℕ → Pass → TxnNote → List ℕ → ℕ → Type 0
HasNoUnseenRival places pass own writers from = (writer : ℕ) → Contains writers writer → IsClearOf places pass own writer from

-- the transaction doesn't stand after the place, or is none of the writers
abbrev pub IsNoRival : List ℕ → List ℕ → ℕ → ℕ → Type 0
IsNoRival places writers number from = (slice_index places number ≤ from) ⊎ (Contains writers number → ⊥)

-- none of the reads before the place among the events is from a rival
abbrev pub HasNoEarlierRival : List ℕ → List ℕ → List ReadNote → ℕ → ℕ → Type 0
HasNoEarlierRival places writers reads before from = (k : ℕ) (read : ReadNote) → slice_get reads k ≡ Some read → read.place < before → IsNoRival places writers read.source from

-- none of the reads is from a rival
abbrev pub HasNoSourceRival : List ℕ → List ℕ → List ReadNote → ℕ → Type 0
HasNoSourceRival places writers reads from = (k : ℕ) (read : ReadNote) → slice_get reads k ≡ Some read → IsNoRival places writers read.source from

-- what shows at each level that the reader sees no writer of the cell after the place
abbrev pub IsUnrivalledAt : Level → List ℕ → Pass → List ReadNote → TxnNote → CellNote → ℕ → ℕ → Type 0
IsUnrivalledAt Rc places pass reads own note before from = HasNoEarlierRival places note.committed reads before from
IsUnrivalledAt Ra places pass reads own note before from = HasNoSourceRival places note.committed reads from × HasNoUnseenRival places pass own note.committed from
IsUnrivalledAt Cc places pass reads own note before from = IsTrue pass.clocked × HasNoUnseenRival places pass own note.committed from

abbrev pub IsUnrivalled : List ℕ → Pass → List ReadNote → TxnNote → CellNote → ℕ → ℕ → Type 0
IsUnrivalled places pass reads own note before from =
    HasNoLateWriter places note.committed from ⊎ IsUnrivalledAt own.level places pass reads own note before from

-- the order has the source before the reader, and the reader sees no writer of the cell after the source
pub record IsKeptNow (places : List ℕ) (pass : Pass) (reads : List ReadNote) (read : ReadNote) : Type 0 where
  pub before : StandsAt places read.source read.reader
  pub own : TxnNote
  pub own_is : slice_get pass.txns.items read.reader ≡ Some own
  pub note : CellNote
  pub note_is : slice_get pass.cells.notes.items read.cell ≡ Some note
  pub unrivalled : IsUnrivalled places pass reads own note read.place (slice_index places read.source)

-- the reads are all of the reader, and so it is with each
abbrev pub AreKept : List ℕ → Pass → List ReadNote → ℕ → Type 0
AreKept places pass reads reader = (k : ℕ) (read : ReadNote) → slice_get reads k ≡ Some read → (read.reader ≡ reader) × IsKeptNow places pass reads read

abbrev pub AreKeptOf : List ℕ → Pass → ℕ → ℕ → Type 0
AreKeptOf places pass session reader = (reads : List ReadNote) → AreReadsOf pass.reads.items session reads → AreKept places pass reads reader

-- the session has no reads, or they are those of its pending transaction, and so it is with each
abbrev pub IsKeptSession : List ℕ → Pass → ℕ → Type 0
IsKeptSession places pass session = (reads : List ReadNote) → AreReadsOf pass.reads.items session reads →
    (reads ≡ []) ⊎ ((reader : ℕ) × (IsPendingIn pass.session_notes.items session reader × AreKept places pass reads reader))
