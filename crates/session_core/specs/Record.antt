-- When a session's record is valid: its calls were made of the book one after another, and each entry is what came of its call.
use Rattle.std.specs.Prelude.{◌≡◌, ◌≢◌, ◌⊎◌, ℕ, List, [], ◌∷◌, ◌++◌, length, Contains, Option, Some}
use Rattle.cell_base.specs.declared.cell.Cell.{Cell}
use Rattle.cell_base.specs.declared.value.Value.{Value}
use Rattle.history_core.specs.declared.event.Event.{Event}
use Rattle.history_core.specs.declared.event.Event.TheVariants.{Open, Close, Define, Look, Begin, Scan, Read, Own, Write, Commit, Rollback, Show}
use Rattle.history_core.specs.declared.fault.Limit.{Limit}
use Rattle.history_core.specs.declared.fault.Limit.TheVariants as limits
use Rattle.history_core.specs.declared.fault.BookFault.{BookFault}
use Rattle.history_core.specs.declared.fault.BookFault.TheVariants as faults
use Rattle.history_core.specs.declared.fault.DefineAnswer.TheVariants as defines
use Rattle.history_core.specs.Events.{begun, names}
use Rattle.history_core.specs.Legal.{full_for, full_load}
use Rattle.history_book.specs.Book.{Past, SessionState, no_session, in_session, pending, IsUnwritten, HasWrite, LastWrite, session_of, writes_of, Adds, GoesOn, AnswersTables, AnswersDefine}
use Rattle.block_machine.specs.Calls.{Call}
use Rattle.block_machine.specs.Calls as calls
use Rattle.block_machine.specs.declared.call.Answer.{Answer}
use Rattle.block_machine.specs.declared.call.Answer.TheVariants as answers
use Rattle.block_machine.specs.Script.{Entry, did, refused, short, unsent, stop}

-- the limit that keeps a call out
abbrev pub limit_for : Past → Call → Option Limit
limit_for past calls.Open = full_for past.seen.initial past.seen.events (Open 0)
limit_for past (calls.Define table) = full_for past.seen.initial past.seen.events (Define 0 table.name)
limit_for past (calls.Begin level) = full_for past.seen.initial past.seen.events (Begin 0 level)
limit_for past _ = full_load past.seen.initial past.seen.events

abbrev pub may_be_refused : Call → Type 0
may_be_refused calls.Close = ⊥
may_be_refused calls.Commit = ⊥
may_be_refused calls.Rollback = ⊥
may_be_refused _ = Unit {0}

-- a definition that is refused for another limit than the load has a new name
abbrev pub HasNewName : Past → Call → Limit → Type 0
HasNewName past (calls.Define table) limit = limit ≢ limits.Load → ¬ (Contains (names past.seen.events) table.name)
HasNewName past _ limit = Unit {0}

-- A call is refused: no event is made, and where the answer is Full the history is full for it.
abbrev pub Declines : Past → Call → BookFault → Past → Type 0
Declines old c (faults.Full limit) new = may_be_refused c × GoesOn old new × (limit_for new c ≡ Some limit) × HasNewName new c limit
Declines old c faults.Memory new = may_be_refused c × GoesOn old new

-- the cell is read back: the pending transaction wrote the value last
pub record ReadsBack (old : Past) (cell : Cell) (value : Value) (e : Event) : Type 0 where
  pub written : HasWrite cell old.state
  pub last : LastWrite cell value old.state
  pub event_is : e ≡ Own (session_of old.state) cell value

-- the cell is read from the history, which the pending transaction didn't write
pub record ReadsFrom (old : Past) (cell : Cell) (value : Value) (e : Event) : Type 0 where
  pub unwritten : IsUnwritten cell old.state
  pub source : ℕ
  pub count : ℕ
  pub word : ℕ
  pub event_is : e ≡ Read (session_of old.state) cell source count word value

-- A call is answered: its one event is made, and holds the answer.
abbrev pub Happens : Past → Call → Answer → Event → Past → Type 0
Happens old calls.Open (answers.Opened session) e new = (e ≡ Open session) × Adds old e new
Happens old calls.Close answers.Closed e new = (e ≡ Close (session_of old.state)) × Adds old e new
Happens old (calls.Look known) (answers.Looked tables) e new = (e ≡ Look (session_of old.state) (length new.seen.tables)) ×
    AnswersTables old known tables new
Happens old (calls.Define table) (answers.Defined (defines.Defined n)) e new = (e ≡ Define (session_of old.state) table.name) ×
    AnswersDefine old table (defines.Defined n) new
Happens old (calls.Define table) (answers.Defined (defines.Taken n)) e new = (e ≡ Look (session_of old.state) n) ×
    AnswersDefine old table (defines.Taken n) new
Happens old (calls.Begin level) (answers.Begun n) e new = (e ≡ Begin (session_of old.state) level) × Adds old e new × (n ≡ begun new.seen.events)
Happens old (calls.Scan table) (answers.Listed keys) e new = (e ≡ Scan (session_of old.state) table keys) × Adds old e new
Happens old (calls.Touch cell) (answers.Found value) e new = (ReadsBack old cell value e ⊎ ReadsFrom old cell value e) × Adds old e new
Happens old (calls.Write cell value) answers.Written e new = (e ≡ Write (session_of old.state) cell value) × Adds old e new
Happens old calls.Commit answers.Committed e new = (e ≡ Commit (session_of old.state)) × Adds old e new
Happens old calls.Rollback answers.RolledBack e new = (e ≡ Rollback (session_of old.state)) × Adds old e new
Happens old calls.Show (answers.Shown n) e new = (e ≡ Show (session_of old.state) n) × Adds old e new × (n ≡ length new.seen.events)
Happens old _ _ e new = ⊥

-- the event of the entry, where it has one, is a read that holds the word
abbrev pub HoldsWord : Entry → ℕ → Type 0
HoldsWord (did a (Read session cell source count held value)) word = held ≡ word
HoldsWord (refused why) word = Unit {0}
HoldsWord _ word = ⊥

-- One word is drawn for each read of the history, refused or not, and the event holds it. None is drawn where a cell is read back.
abbrev pub Draws : {W : Type 0} → (W → ℕ → W → Type 0) → Past → W → Call → Entry → W → Type 0
Draws gives old before (calls.Touch cell) entry after =
    (HasWrite cell old.state × (after ≡ before))
    ⊎ (IsUnwritten cell old.state × ((word : ℕ) × gives before word after × HoldsWord entry word))
Draws gives old before _ entry after = after ≡ before

-- where an answer leaves the session of a book
abbrev pub StateAfter : Call → Answer → SessionState → SessionState → Type 0
StateAfter calls.Open (answers.Opened s) old new = new ≡ in_session s
StateAfter calls.Close answers.Closed old new = new ≡ no_session
StateAfter (calls.Begin level) (answers.Begun n) old new = new ≡ pending (session_of old) []
StateAfter (calls.Write cell value) answers.Written old new = new ≡ pending (session_of old) (writes_of old ++ (cell, value) ∷ [])
StateAfter calls.Commit answers.Committed old new = new ≡ in_session (session_of old)
StateAfter calls.Rollback answers.RolledBack old new = new ≡ in_session (session_of old)
StateAfter _ _ old new = new ≡ old

-- The calls were answered by the entries in order, from one past and one value of the words on to others. After an answer the book's
-- session is where the answer leaves it, and after a refusal where it was.
abbrev pub IsValidRecord : {W : Type 0} → (W → ℕ → W → Type 0) → Past → W → List Call → List Entry → Past → W → Type 0
IsValidRecord gives p v [] [] q w = (q ≡ p) × (w ≡ v)
IsValidRecord gives p v (c ∷ cs) [] q w = ⊥
IsValidRecord gives p v [] (did a e ∷ es) q w = ⊥
IsValidRecord {W} gives p v (c ∷ cs) (did a e ∷ es) q w = (m : Past) × (u : W) × Happens p c a e m × Draws gives p v c (did a e) u ×
    IsValidRecord gives m u cs es q w × StateAfter c a p.state m.state
IsValidRecord gives p v [] (refused why ∷ es) q w = ⊥
IsValidRecord {W} gives p v (c ∷ cs) (refused why ∷ es) q w = (m : Past) × (u : W) × Declines p c why m × Draws gives p v c (refused why) u ×
    IsValidRecord gives m u cs es q w
IsValidRecord gives p v cs (short final n ∷ es) q w = IsValidRecord gives p v cs es q w
IsValidRecord gives p v cs (unsent n ∷ es) q w = IsValidRecord gives p v cs es q w
IsValidRecord gives p v cs (stop cause ∷ es) q w = IsValidRecord gives p v cs es q w

-- the events of a record, in order
abbrev pub events_of : List Entry → List Event
events_of [] = []
events_of (did a e ∷ es) = e ∷ events_of es
events_of (refused why ∷ es) = events_of es
events_of (short final n ∷ es) = events_of es
events_of (unsent n ∷ es) = events_of es
events_of (stop cause ∷ es) = events_of es
