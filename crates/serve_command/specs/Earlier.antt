-- What the book of a worker saw before its last call.
use Rattle.std.specs.Prelude.{◌≡◌, List, ◌++◌}
use Rattle.cell_base.specs.declared.level.Level.{Level}
use Rattle.rand_chacha.specs.ChaCha.{ChaCha}
use Rattle.choice_stream.specs.Seeds.{Draws}
use Rattle.sql_tree.specs.declared.table.Table.{Table}
use Rattle.history_core.specs.declared.event.Event.{Event}
use Rattle.history_core.specs.Chronicle.{Chronicle}
use Rattle.history_book.specs.Book.{Past}
use Rattle.block_machine.specs.Calls.{Call}
use Rattle.block_machine.specs.Script.{Entry}
use Rattle.session_core.specs.Record.{IsValidRecord}
use Rattle.door_workers.specs.Visits.{Visit, AreVisits}

-- the history begins as it was seen: at the same level, with the same initial state, and with the events and the tables that were seen
pub record BeginsAs (seen history : Chronicle) : Type 0 where
  pub level : seen.level ≡ history.level
  pub initial : seen.initial ≡ history.initial
  pub later : List Event
  pub events : history.events ≡ seen.events ++ later
  pub more : List Table
  pub tables : history.tables ≡ seen.tables ++ more

-- The history begins as the book saw it when these calls were made, if it begins as the book saw it after them. Each past within a valid record
-- begins the rest of it, so this holds of each call's past.
abbrev pub CallsBeginAs : Type 0
CallsBeginAs =
    (history : Chronicle) (past left : Past) (words left_words : ChaCha) (calls : List Call) (entries : List Entry) →
    IsValidRecord Draws past words calls entries left left_words → BeginsAs left.seen history → BeginsAs past.seen history

-- the same of the links that were served one after another
abbrev pub VisitsBeginAs : Type 0
VisitsBeginAs =
    (history : Chronicle) (level : Level) (past left : Past) (words left_words : ChaCha) (visits : List Visit) →
    AreVisits Draws level past words visits left left_words → BeginsAs left.seen history → BeginsAs past.seen history
