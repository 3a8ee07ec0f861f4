-- The reads that are noted of each session, and those that no later event can break.
use Rattle.std.specs.Prelude.{◌≡◌, ◌<◌, ◌≤◌, ◌+◌, ◌⊎◌, ℕ, Some, List, slice_get, slice_index}
use Rattle.cell_base.specs.declared.cell.Cell.{Cell}
use Rattle.cell_base.specs.declared.value.Value.{Value}
use Rattle.history_core.specs.declared.event.Event.{Event}
use Rattle.history_core.specs.declared.event.Event.TheVariants.{Read}
use Rattle.history_core.specs.Events.{begun}
use Rattle.history_core.specs.Transactions.{IsPending}
use Rattle.history_core.specs.Relations.{IsVisible, Writes}
use Rattle.history_core.specs.Kept.{ChangesOne}
use Rattle.order_test.specs.Places.{StandsAt}
use Rattle.order_test.specs.Sights.{IsReadAt}
use Rattle.right_logs.specs.declared.open_reads.ReadNote.{ReadNote}
use Rattle.right_logs.specs.declared.open_reads.SessionReads.{SessionReads}

-- session s has its reads at place s - 1
pub record AreReadsOf (lists : List SessionReads) (session : ℕ) (reads : List ReadNote) : Type 0 where
  pub place : ℕ
  pub number : place + 1 ≡ session
  pub list : SessionReads
  pub is : slice_get lists place ≡ Some list
  pub reads_are : reads ≡ list.notes.items

-- the reads of the session are changed, as the relation says, and no others
pub record ChangesReads (old : List SessionReads) (session : ℕ) (Changes : List ReadNote → List ReadNote → Type 0) (new : List SessionReads) : Type 0 where
  pub place : ℕ
  pub number : place + 1 ≡ session
  pub changes : ChangesOne old new place (λ before after. Changes before.notes.items after.notes.items)

-- the note has the number of the cell that the read at the place is of, its source, its reader and its place
pub record IsReadNoteOf (events : List Event) (cells : List Cell) (place s : ℕ) (cell : Cell) (source count word : ℕ) (value : Value) (note : ReadNote) : Type 0 where
  pub numbered : slice_get cells note.cell ≡ Some cell
  pub from : note.source ≡ source
  pub at : note.place ≡ place
  pub read : IsReadAt events place (Read s cell source count word value) note.reader

-- some note of the session is that of the read at the place
pub record HasReadNote (events : List Event) (cells : List Cell) (lists : List SessionReads) (place s : ℕ) (cell : Cell) (source count word : ℕ) (value : Value) : Type 0 where
  pub reads : List ReadNote
  pub are : AreReadsOf lists s reads
  pub k : ℕ
  pub note : ReadNote
  pub noted : slice_get reads k ≡ Some note
  pub of : IsReadNoteOf events cells place s cell source count word value note

-- the transaction has begun, and isn't pending any more
pub record HasEnded (events : List Event) (number : ℕ) : Type 0 where
  pub some : 0 < number
  pub within : number ≤ begun events
  pub over : (session : ℕ) → IsPending events number session → ⊥

-- the order has the source of the read before the reader, and no writer of the cell that the reader sees after the source
pub record IsKeptRead (places : List ℕ) (events : List Event) (place s : ℕ) (cell : Cell) (source count word : ℕ) (value : Value) (reader : ℕ) : Type 0 where
  pub read : IsReadAt events place (Read s cell source count word value) reader
  pub before : StandsAt places source reader
  pub clear : (writer : ℕ) → 0 < writer → IsVisible events reader place writer → Writes events writer cell → slice_index places writer ≤ slice_index places source

-- so it is, and the reader has ended
pub record IsSettledRead (places : List ℕ) (events : List Event) (place s : ℕ) (cell : Cell) (source count word : ℕ) (value : Value) : Type 0 where
  pub reader : ℕ
  pub kept : IsKeptRead places events place s cell source count word value reader
  pub ended : HasEnded events reader

-- each read has its note, or no later event can break it
abbrev pub HoldReads : List ℕ → List Event → List Cell → List SessionReads → Type 0
HoldReads places events cells lists = (place s : ℕ) (cell : Cell) (source count word : ℕ) (value : Value) → slice_get events place ≡ Some (Read s cell source count word value) →
    HasReadNote events cells lists place s cell source count word value ⊎ IsSettledRead places events place s cell source count word value
