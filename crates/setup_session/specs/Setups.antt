-- What the setup of a server comes to.
use Rattle.std.specs.Prelude.{◌≡◌, ◌≢◌, ◌≤◌, ◌<◌, ℕ, List, [], length, None, Some, true, false}
use Rattle.cell_base.specs.declared.level.Level.TheVariants as levels
use Rattle.link_traits.specs.Traffic.{Traffic, Sight}
use Rattle.history_core.specs.Chronicle.{Chronicle, IsLegalChronicle}
use Rattle.history_book.specs.Book.{Past, no_session}
use Rattle.block_machine.specs.declared.end.End.TheVariants as ends
use Rattle.session_core.specs.declared.served.Served.{Served}
use Rattle.session_core.specs.Record.{events_of}
use Rattle.session_core.specs.Serve.{scene_of, Account, Serves}
use Rattle.choice_stream.specs.Choices.{DrawsFirst}
use Rattle.setup_client.specs.Client.{most_text, link_of}
use Rattle.setup_client.specs.Errors.{first_error}
use Rattle.setup_client.specs.Blocks.{tells_block}
use Rattle.setup_session.specs.declared.fault.SetupFault.{SetupFault}
use Rattle.setup_session.specs.declared.fault.SetupFault.TheVariants as faults

-- the past of the book of a new store at Causal Consistency, which has no row at first, no event and no session
abbrev pub no_past : Past
no_past = record { seen = record { level = levels.Cc; initial = []; events = []; tables = [] }; own = []; state = no_session }

-- The session of the client of this text was served alone over a new store at Causal Consistency, with no choice words. It was told these bytes,
-- and it left this history, which is legal, has no row at first, and has the session's events alone.
pub record Ran (text : List ℕ) (outcome : Served) (told : List ℕ) (history : Chronicle) : Type 0 where
  pub past : Past
  pub rest : List ℕ
  pub after : Sight
  pub traffic : Traffic
  pub account : Account
  pub serves : Serves DrawsFirst levels.Cc (scene_of no_past [] (link_of text)) outcome (scene_of past rest after) account
  pub traffic_is : after.traffic ≡ Some traffic
  pub told_is : told ≡ traffic.written
  pub history_is : history ≡ past.seen
  pub level_is : history.level ≡ levels.Cc
  pub initial : history.initial ≡ []
  pub legal : IsLegalChronicle history
  pub events : history.events ≡ events_of account.entries
  pub closed : past.state ≡ no_session

-- the session ended as its client said, memory didn't run out, no error was told, and the text doesn't end inside a block
pub record WentWell (outcome : Served) (told : List ℕ) : Type 0 where
  pub end : outcome.end ≡ ends.Terminated
  pub memory : outcome.short ≡ false
  pub no_error : first_error told ≡ None
  pub no_block : tells_block told ≡ false

-- The text was run by a session of its own, which ended as its client said, without an error, outside of a block and without a lack of memory, and
-- left this history.
pub record SetsUp (text : List ℕ) (history : Chronicle) : Type 0 where
  pub few : length text ≤ most_text
  pub outcome : Served
  pub told : List ℕ
  pub ran : Ran text outcome told history
  pub well : WentWell outcome told

-- Why a session that was told these bytes is no setup: memory ran out; or it was told this error, which is its first; or it was told none, but
-- that it stands inside a block; or neither, and it ended in another way than its client said.
abbrev pub IsCause : Served → List ℕ → SetupFault → Type 0
IsCause outcome told faults.TooLong = ⊥
IsCause outcome told (faults.Statement fault) = (outcome.short ≡ false) × (first_error told ≡ Some fault)
IsCause outcome told faults.Unfinished = (outcome.short ≡ false) × (first_error told ≡ None) × (tells_block told ≡ true)
IsCause outcome told (faults.Ended end) =
    (outcome.short ≡ false) × (first_error told ≡ None) × (tells_block told ≡ false) × (outcome.end ≡ end) × (end ≢ ends.Terminated)
IsCause outcome told faults.Memory = Unit {0}

-- the text was run, and the session's outcome has this cause
pub record RanAmiss (text : List ℕ) (fault : SetupFault) : Type 0 where
  pub few : length text ≤ most_text
  pub outcome : Served
  pub told : List ℕ
  pub history : Chronicle
  pub ran : Ran text outcome told history
  pub cause : IsCause outcome told fault

-- The setup of this text failed: it is too long; or it was run, and failed for this cause; or memory ran out.
abbrev pub FailsSetup : List ℕ → SetupFault → Type 0
FailsSetup text faults.TooLong = most_text < length text
FailsSetup text (faults.Statement fault) = RanAmiss text (faults.Statement fault)
FailsSetup text faults.Unfinished = RanAmiss text faults.Unfinished
FailsSetup text (faults.Ended end) = RanAmiss text (faults.Ended end)
FailsSetup text faults.Memory = length text ≤ most_text
