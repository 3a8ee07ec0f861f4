-- Scripts: what a session says and asks, given the record of what became of it so far.
use Rattle.std.specs.Prelude.{ℕ, ◌==◌, List, [], ◌∷◌, ◌++◌, length, if◌then◌else◌, Bool, true, false, ◌||◌}
use Rattle.cell_base.specs.declared.key.Key.{Key}
use Rattle.cell_base.specs.declared.value.Value.{Value}
use Rattle.history_core.specs.declared.event.Event.{Event}
use Rattle.history_core.specs.declared.fault.BookFault.{BookFault}
use Rattle.history_core.specs.declared.fault.BookFault.TheVariants as faults
use Rattle.history_core.specs.declared.fault.DefineAnswer.TheVariants as defines
use Rattle.sql_tree.specs.declared.table.Table.{Table}
use Rattle.block_machine.specs.Calls.{Call}
use Rattle.block_machine.specs.declared.call.Answer.{Answer}
use Rattle.block_machine.specs.declared.call.Answer.TheVariants as answers
use Rattle.block_machine.specs.declared.end.End.{End}
use Rattle.block_machine.specs.declared.end.Stop.{Stop}

-- An entry of a session's record. Where the session itself is out of memory, the entry says whether that ends the session, and how many
-- bytes had been told, so that it is known where it stands; a failed write says how many had been told before those that it was to send.
pub data Entry : Type 0 where
  -- the answer to a call, and the event that it made
  did : Answer → Event → Entry
  -- a call that was refused
  refused : BookFault → Entry
  -- the session itself is out of memory
  short : Bool → ℕ → Entry
  -- a write that failed
  unsent : ℕ → Entry
  -- why no more bytes come
  stop : Stop → Entry

-- out of memory: the session itself, or its book
abbrev pub is_short : Entry → Bool
is_short (did a e) = false
is_short (refused faults.Memory) = true
is_short (refused (faults.Full limit)) = false
is_short (short final n) = true
is_short (unsent n) = false
is_short (stop cause) = false

-- whether any of these is one
abbrev pub has_short : List Entry → Bool
has_short [] = false
has_short (e ∷ es) = is_short e || has_short es

-- what comes next: bytes are wanted, a call is asked, the session has ended; or the record has an entry that does not belong there
pub data Next : Type 0 where
  more : Next
  call : Call → Next
  ended : End → Next
  astray : Next

-- the bytes told so far, and the calls that were asked and answered
pub record Said : Type 0 where
  pub bytes : List ℕ
  pub calls : List Call

abbrev pub with_bytes : Said → List ℕ → Said
with_bytes said bytes = record { bytes = said.bytes ++ bytes; calls = said.calls }

abbrev pub with_call : Said → Call → Said
with_call said c = record { bytes = said.bytes; calls = said.calls ++ c ∷ [] }

-- A script takes what was said so far and the rest of the record, and gives all that is said and what comes next.
abbrev pub Script : Type 0
Script = Said → List Entry → Said × Next

-- nothing more is said: the record has an entry that doesn't belong here
abbrev pub lost : Script
lost said entries = (said, astray)

-- each call takes one entry
abbrev pub ask : Call → (Answer → Script) → Script
ask c rest said [] = (said, call c)
ask c rest said (did a e ∷ entries) = rest a (with_call said c) entries
ask c rest said (refused fault ∷ entries) = rest (answers.Refused fault) (with_call said c) entries
ask c rest said (short final n ∷ entries) = (said, astray)
ask c rest said (unsent n ∷ entries) = (said, astray)
ask c rest said (stop cause ∷ entries) = (said, astray)

-- the answer that a call gets: the one of its name, or a refusal

abbrev pub on_opened : Answer → (ℕ → Script) → (BookFault → Script) → Script
on_opened (answers.Opened session) good bad = good session
on_opened (answers.Refused fault) good bad = bad fault
on_opened _ good bad = lost

abbrev pub on_looked : Answer → (List Table → Script) → (BookFault → Script) → Script
on_looked (answers.Looked tables) good bad = good tables
on_looked (answers.Refused fault) good bad = bad fault
on_looked _ good bad = lost

abbrev pub on_defined : Answer → Script → Script → (BookFault → Script) → Script
on_defined (answers.Defined (defines.Defined n)) good taken bad = good
on_defined (answers.Defined (defines.Taken n)) good taken bad = taken
on_defined (answers.Refused fault) good taken bad = bad fault
on_defined _ good taken bad = lost

abbrev pub on_begun : Answer → Script → (BookFault → Script) → Script
on_begun (answers.Begun n) good bad = good
on_begun (answers.Refused fault) good bad = bad fault
on_begun _ good bad = lost

abbrev pub on_listed : Answer → (List Key → Script) → (BookFault → Script) → Script
on_listed (answers.Listed keys) good bad = good keys
on_listed (answers.Refused fault) good bad = bad fault
on_listed _ good bad = lost

abbrev pub on_found : Answer → (Value → Script) → (BookFault → Script) → Script
on_found (answers.Found value) good bad = good value
on_found (answers.Refused fault) good bad = bad fault
on_found _ good bad = lost

abbrev pub on_written : Answer → Script → (BookFault → Script) → Script
on_written answers.Written good bad = good
on_written (answers.Refused fault) good bad = bad fault
on_written _ good bad = lost

abbrev pub on_shown : Answer → (ℕ → Script) → (BookFault → Script) → Script
on_shown (answers.Shown n) good bad = good n
on_shown (answers.Refused fault) good bad = bad fault
on_shown _ good bad = lost

-- A failed write stands where as many bytes had been told as its entry says, before those that it was to send.
abbrev pub unless_unsent : ℕ → Script → Script → Script
unless_unsent before fault rest said [] = rest said []
unless_unsent before fault rest said (did a e ∷ entries) = rest said (did a e ∷ entries)
unless_unsent before fault rest said (refused why ∷ entries) = rest said (refused why ∷ entries)
unless_unsent before fault rest said (short final n ∷ entries) = rest said (short final n ∷ entries)
unless_unsent before fault rest said (unsent n ∷ entries) = if n == before then fault said entries else rest said (unsent n ∷ entries)
unless_unsent before fault rest said (stop cause ∷ entries) = rest said (stop cause ∷ entries)

-- bytes are told; what follows where their write fails, and what follows else
abbrev pub tell : List ℕ → Script → Script → Script
tell bytes fault rest said entries = unless_unsent (length said.bytes) fault rest (with_bytes said bytes) entries

-- The session itself is out of memory where as many bytes were told as the entry says. Before a message, and after the call that opens
-- the session, that ends the session; in the reading of a query, or in a statement, it doesn't.
abbrev pub unless_short : Bool → Script → Script → Script
unless_short final short_of rest said [] = rest said []
unless_short final short_of rest said (did a e ∷ entries) = rest said (did a e ∷ entries)
unless_short final short_of rest said (refused why ∷ entries) = rest said (refused why ∷ entries)
unless_short true short_of rest said (short true n ∷ entries) =
    if n == length said.bytes then short_of said entries else rest said (short true n ∷ entries)
unless_short false short_of rest said (short false n ∷ entries) =
    if n == length said.bytes then short_of said entries else rest said (short false n ∷ entries)
unless_short true short_of rest said (short false n ∷ entries) = rest said (short false n ∷ entries)
unless_short false short_of rest said (short true n ∷ entries) = rest said (short true n ∷ entries)
unless_short final short_of rest said (unsent n ∷ entries) = rest said (unsent n ∷ entries)
unless_short final short_of rest said (stop cause ∷ entries) = rest said (stop cause ∷ entries)
