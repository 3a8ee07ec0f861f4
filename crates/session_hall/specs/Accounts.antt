-- What went to and fro with one client of a hall, and how that grows.
use Rattle.std.specs.Prelude.{◌≡◌, ◌≤◌, ◌<◌, ℕ, List, [], ◌++◌, length, All, Option, Some, None, IfSome}
use Rattle.sql_tree.specs.declared.table.Table.{Table}
use Rattle.history_core.specs.declared.event.Event.{Event}
use Rattle.history_core.specs.Events.{session_in, opened}
use Rattle.history_core.specs.Chronicle.{Chronicle}
use Rattle.block_machine.specs.Calls.{Call}
use Rattle.block_machine.specs.Script.{Entry}
use Rattle.session_core.specs.Told.{opened_in}
use Rattle.session_core.specs.Record.{events_of}
use Rattle.session_core.specs.Serve.{Account}

-- the account of a client of which nothing was heard yet
abbrev pub nothing : Account
nothing = record { taken = []; calls = []; entries = []; sent = []; lost = [] }

-- These events came to a history, and with them tables; all else stays.
pub record Comes (old : Chronicle) (events : List Event) (new : Chronicle) : Type 0 where
  pub level : new.level ≡ old.level
  pub initial : new.initial ≡ old.initial
  pub seen : new.events ≡ old.events ++ events
  pub more : List Table
  pub tables : new.tables ≡ old.tables ++ more

-- The session that was opened stays the client's, and one that is opened has a number that was nobody's.
abbrev pub KeepsNumber : Option ℕ → Chronicle → Option ℕ → Type 0
KeepsNumber (Some s) history after = after ≡ Some s
KeepsNumber None history after = IfSome after (λ s. opened history.events < s)

-- A client's account grew by so many calls, and the history by the events that they made: all of the client's own session, and at most one
-- for each call.
pub record Grew (before : Account) (old : Chronicle) (many : ℕ) (after : Account) (new : Chronicle) : Type 0 where
  pub heard : List ℕ
  pub asked : List Call
  pub added : List Entry
  pub said : List ℕ
  pub taken : after.taken ≡ before.taken ++ heard
  pub calls : after.calls ≡ before.calls ++ asked
  pub count : length asked ≡ many
  pub entries : after.entries ≡ before.entries ++ added
  pub sent : after.sent ≡ before.sent ++ said
  pub comes : Comes old (events_of added) new
  pub few : length (events_of added) ≤ many
  pub own : All (λ e. opened_in after.entries ≡ Some (session_in e)) (events_of added)
  pub number : KeepsNumber (opened_in before.entries) old (opened_in after.entries)
