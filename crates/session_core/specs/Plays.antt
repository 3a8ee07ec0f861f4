-- The calls of a book: when one may be asked, and what it comes to.
use Rattle.std.specs.Prelude.{◌≡◌, ℕ, ◌≤◌, length}
use Rattle.sound_table.specs.Sound.{IsSound}
use Rattle.history_core.specs.declared.event.Event.{Event}
use Rattle.history_core.specs.Events.{table_of}
use Rattle.history_core.specs.Initial.{IsStorable}
use Rattle.history_book.specs.Book.{SessionState, no_session, in_session, pending, Past, HasSession, IsIdle, IsInTransaction, HasTable}
use Rattle.block_machine.specs.Calls.{Call}
use Rattle.block_machine.specs.Calls as calls
use Rattle.block_machine.specs.Script.{did, refused}
use Rattle.block_machine.specs.declared.block.Owed.{Owed}
use Rattle.block_machine.specs.declared.block.Owed.TheVariants as owes
use Rattle.block_machine.specs.declared.call.Answer.{Answer}
use Rattle.block_machine.specs.declared.call.Answer.TheVariants as answers
use Rattle.session_core.specs.Record.{Happens, Declines, Draws}

-- A call may be asked of a book.
abbrev pub MayAsk : Call → Past → Type 0
MayAsk calls.Open past = past.state ≡ no_session
MayAsk calls.Close past = IsIdle past.state
MayAsk (calls.Look known) past = HasSession past.state × (known ≤ length past.seen.tables)
MayAsk (calls.Define table) past = HasSession past.state × IsSound table
MayAsk (calls.Begin level) past = IsIdle past.state
MayAsk (calls.Scan table) past = IsInTransaction past.state × HasTable past table
MayAsk (calls.Touch cell) past = IsInTransaction past.state × HasTable past (table_of cell)
MayAsk (calls.Write cell value) past = IsInTransaction past.state × IsStorable value × HasTable past (table_of cell)
MayAsk calls.Commit past = IsInTransaction past.state
MayAsk calls.Rollback past = IsInTransaction past.state
MayAsk calls.Show past = HasSession past.state

-- A call was made of a book and got this answer. The event is the one that it made, if it made one.
abbrev pub Plays : {W : Type 0} → (W → ℕ → W → Type 0) → Past → W → Call → Answer → Event → Past → W → Type 0
Plays gives p v c (answers.Refused why) e q w = Declines p c why q × Draws gives p v c (refused why) w
Plays gives p v c a e q w = Happens p c a e q × Draws gives p v c (did a e) w

abbrev pub owed_of : SessionState → Owed
owed_of no_session = owes.Nothing
owed_of (in_session s) = owes.Close
owed_of (pending s writes) = owes.Rollback
