-- What became of one client of a hall.
use Rattle.std.specs.Prelude.{◌≡◌, ◌≢◌, ◌⊎◌, ℕ, List, [], ◌++◌, All, Option, Some, None, false}
use Rattle.cell_base.specs.declared.level.Level.{Level}
use Rattle.choice_stream.specs.Choices.{DrawsFirst}
use Rattle.history_core.specs.Chronicle.{Chronicle}
use Rattle.history_book.specs.Book.{Past, GoesOn, no_session}
use Rattle.valid_writes.specs.Desk.{given_events}
use Rattle.valid_writes.specs.Beginnings.{no_past}
use Rattle.block_machine.specs.Calls.{Call}
use Rattle.block_machine.specs.Script.{Entry, did, refused, short, unsent, stop, Next, more, call, ended}
use Rattle.block_machine.specs.declared.end.End.{End}
use Rattle.block_machine.specs.declared.end.End.TheVariants as ends
use Rattle.block_machine.specs.declared.end.Stop.TheVariants as stops
use Rattle.session_core.specs.Told.{told, opened_in}
use Rattle.session_core.specs.Requests.{Requests, AreRequests}
use Rattle.session_core.specs.Record.{IsValidRecord, events_of}
use Rattle.session_core.specs.Serve.{Account, IsOfLast}
use Rattle.session_hall.specs.declared.client.Client.{Client}

-- what a book of this past sees once the history has come so far, by others' events alone
abbrev pub come_to : Past → Chronicle → Past
come_to past history = record { seen = history; own = past.own; state = past.state }

-- an end is shown
abbrev pub HasEnd : Option End → Type 0
HasEnd None = ⊥
HasEnd (Some end) = Unit {0}

-- The end that a hall shows, by what the session's record comes to. A session whose reply found no room was stopped as by a failed write, and
-- its end is a lack of memory.
abbrev pub IsShown : Option End → Next → Type 0
IsShown None next = (next ≡ more) ⊎ ((c : Call) × (next ≡ call c))
IsShown (Some end) next = ((next ≡ ended end) × (end ≢ ends.WriteFault)) ⊎ ((end ≡ ends.Memory) × (next ≡ ended ends.WriteFault))

-- Why an entry that no call made stands in a record: a stop is the end of a stream that was taken whole, and a reply was left unsent only
-- where its room wasn't there.
abbrev pub HasCause : List ℕ → List ℕ → Option End → Entry → Type 0
HasCause stream taken end (stop cause) = (cause ≡ stops.EndOfInput) × (taken ≡ stream)
HasCause stream taken end (unsent n) = end ≡ Some ends.Memory
HasCause stream taken end (did a e) = Unit {0}
HasCause stream taken end (refused why) = Unit {0}
HasCause stream taken end (short final n) = Unit {0}

-- A client was served so far at a level, on a history that others may add to as well. The bytes taken are a front of its stream, and say
-- these requests. What it was to be sent, the calls that were asked and what comes next are told of the requests and of its record. The
-- calls were made of the client's own book in order, and their reads drew the client's words in order and then 0; the events of the record
-- are exactly those of the session in the history. What is lost is nothing but what found no room.
pub record IsServed (level : Level) (history : Chronicle) (client : Client) (end : Option End) (account : Account) : Type 0 where
  pub rest : List ℕ
  pub stream_is : client.stream.items ≡ account.taken ++ rest
  pub requests : Requests
  pub requests_are : AreRequests false account.taken requests
  pub next : Next
  pub told_is : told level requests account.entries ≡ (record { bytes = account.sent; calls = account.calls }, next)
  pub shown : IsShown end next
  pub past : Past
  pub words : List ℕ
  pub valid : IsValidRecord DrawsFirst (no_past level) client.words.items account.calls account.entries past words
  pub goes_on : GoesOn past (come_to past history)
  pub left_book : HasEnd end → past.state ≡ no_session
  pub own : given_events (opened_in account.entries) history.events ≡ events_of account.entries
  pub causes : All (HasCause client.stream.items account.taken end) account.entries
  pub lost_is : (account.lost ≡ []) ⊎ (end ≡ Some ends.Memory)
  pub last : IsOfLast account
