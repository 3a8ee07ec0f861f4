-- Bytes and words have one history: what two sessions share that took the same bytes and were given the same choice words.
use Rattle.std.specs.Prelude.{◌≡◌, ◌≢◌, ◌⊎◌, ℕ, ◌<◌, List, [], ◌∷◌, ◌++◌, Some, false}
use Rattle.cell_base.specs.declared.cell.Cell.{Cell}
use Rattle.cell_base.specs.declared.level.Level.{Level}
use Rattle.cell_base.specs.declared.sql_state.SqlState.TheVariants as states
use Rattle.cell_base.specs.declared.value.Value.{Value}
use Rattle.history_core.specs.Chronicle.{Chronicle, IsLegalChronicle}
use Rattle.history_book.specs.Book.{Past, no_session}
use Rattle.block_machine.specs.Calls.{Call}
use Rattle.block_machine.specs.Script.{Entry, ended, has_short}
use Rattle.block_machine.specs.declared.end.End.{End}
use Rattle.block_machine.specs.declared.end.End.TheVariants as ends
use Rattle.session_core.specs.declared.served.Served.{Served as Outcome}
use Rattle.session_core.specs.Replies.{fatal_reply}
use Rattle.session_core.specs.Requests.{Requests, AreRequests}
use Rattle.session_core.specs.Told.{told}
use Rattle.session_core.specs.Record.{IsValidRecord, events_of}
use Rattle.choice_stream.specs.Choices.{DrawsFirst}
use Rattle.link_traits.specs.Traffic.{Traffic, Sight}
use Rattle.link_traits.specs.Host.{Hosted, link_returned}
use Rattle.doors.specs.Network.{Networked}
use Rattle.command_line.specs.Commands.{IsPipe}
use Rattle.monkey_server.specs.Program.{ServesAlone, Does}

-- what a session is told last, by the way it ends
abbrev pub farewell : End → List ℕ
farewell (ends.Protocol fault) = fatal_reply states.S08P01
farewell (ends.Refused state) = fatal_reply state
farewell ends.Spent = fatal_reply states.S54000
farewell ends.Terminated = []
farewell ends.Closed = []
farewell ends.Cut = []
farewell ends.Cancelled = []
farewell ends.ReadFault = []
farewell ends.WriteFault = []
farewell ends.Memory = []

-- the past of a book of that level and that initial state that has no event
abbrev pub no_past : Level → List (Cell × Value) → Past
no_past level initial =
    record { seen = record { level = level; initial = initial; events = []; tables = [] }; own = []; state = no_session }

-- A session at that level took these bytes and was given these words. It was served to this end, alone with its book from that initial
-- state and no event on; memory didn't run out, and no write failed. It left this history and these words, and was told these bytes.
pub record Served (level : Level) (initial : List (Cell × Value)) (taken words : List ℕ) (history : Chronicle) (left sent : List ℕ) (end : End) : Type 0 where
  pub requests : Requests
  pub es : List Entry
  pub asked : List Call
  pub past : Past
  pub requests_are : AreRequests false taken requests
  pub told_is : told level requests es ≡ (record { bytes = sent; calls = asked }, ended end)
  pub valid : IsValidRecord DrawsFirst (no_past level initial) words asked es past left
  pub history_is : past.seen ≡ history
  pub legal : IsLegalChronicle history
  pub alone : history.events ≡ events_of es
  pub at_rest : has_short es ≡ false
  pub written : end ≢ ends.WriteFault

-- the same bytes were told, and then what each end tells
pub record SameBytes (first : List ℕ) (one : End) (second : List ℕ) (other : End) : Type 0 where
  pub common : List ℕ
  pub first_is : first ≡ common ++ farewell one
  pub second_is : second ≡ common ++ farewell other

-- the session ended since no more bytes came
abbrev pub WantsMore : End → Type 0
WantsMore ends.Closed = Unit {0}
WantsMore ends.Cut = Unit {0}
WantsMore ends.ReadFault = Unit {0}
WantsMore ends.Spent = Unit {0}
WantsMore _ = ⊥

-- a failed read or the limit of bytes made this end; the bytes that were taken don't say so
abbrev pub ReadsPart : End → Type 0
ReadsPart end = (end ≡ ends.ReadFault) ⊎ (end ≡ ends.Spent)

-- Two sessions ended for lack of bytes, and not alike: a failed read or the limit of bytes ended one of them.
pub record EndsApart (one other : End) : Type 0 where
  pub apart : one ≢ other
  pub first : WantsMore one
  pub second : WantsMore other
  pub cause : ReadsPart one ⊎ ReadsPart other

-- Two sessions ended alike and were told the same bytes; or they ended apart, as above, and were told the same bytes but for what the two
-- ends tell.
abbrev pub EndsAlike : List ℕ → End → List ℕ → End → Type 0
EndsAlike sent one told other = ((one ≡ other) × (sent ≡ told)) ⊎ (EndsApart one other × SameBytes sent one told other)

-- Two sessions at one level, from one initial state, that took the same bytes and were given the same words have the same history: the same events in the same order, with
-- source, count, word and value of each read, and the same tables. They leave the same words. They end alike and were told the same bytes,
-- but where both ended for lack of bytes and a failed read or the limit of bytes ended one of them: there the ends may differ, and what
-- was told differs by what the two ends tell alone. The same holds where the second took more bytes and the first didn't end for lack of
-- them; such two always end alike.
abbrev pub OneHistory : Type 0
OneHistory =
    (level : Level) (initial : List (Cell × Value)) (taken more words : List ℕ) (first second : Chronicle) (left right sent told : List ℕ) (one other : End) →
    Served level initial taken words first left sent one → Served level initial (taken ++ more) words second right told other →
    (more ≡ []) ⊎ (¬ (WantsMore one)) →
    (first ≡ second) × (left ≡ right) × EndsAlike sent one told other

-- Two runs of `pipe LEVEL WORDS` over links that tell their bytes and hold the same input, however they cut it into pieces. Where in neither
-- memory ran out, or a read or a write failed, the two have the same history, leave the same words, end alike, and were told the same
-- bytes.
abbrev pub PipeHasOneHistory : Type 0
PipeHasOneHistory =
    (level : Level) (words : List ℕ) (f g h k : Sight) (t u : Traffic) (one other : Outcome) →
    (a : ServesAlone level words f one g) (b : ServesAlone level words h other k) → one.short ≡ false → other.short ≡ false →
    f.traffic ≡ Some t → h.traffic ≡ Some u → t.left ≡ u.left →
    one.end ≢ ends.WriteFault → other.end ≢ ends.WriteFault → one.end ≢ ends.ReadFault → other.end ≢ ends.ReadFault →
    (a.past.seen ≡ b.past.seen) × (a.rest ≡ b.rest) × (one.end ≡ other.end) × (a.account.sent ≡ b.account.sent)

-- The link that a host hands out next is told beforehand, and tells these bytes: those left to be read, and those written.
pub record Offers (host : Hosted) (input output : List ℕ) : Type 0 where
  pub next : Sight
  pub traffic : Traffic
  pub next_is : host.next_link ≡ Some next
  pub traffic_is : next.traffic ≡ Some traffic
  pub left_is : traffic.left ≡ input
  pub written_is : traffic.written ≡ output

-- one link came back, and these bytes were written on it
pub record CameBack (before after : Hosted) (written : List ℕ) : Type 0 where
  pub link : Sight
  pub traffic : Traffic
  pub back : after.back ≡ before.back ++ link_returned link ∷ []
  pub traffic_is : link.traffic ≡ Some traffic
  pub written_is : traffic.written ≡ written

-- Two runs of the program with the same words `pipe LEVEL WORDS`, at any two networks, in any two hosts that tell beforehand links with the same input. Where the
-- status of each is 0 or 1, the two have the same status, and the same bytes stand on the links that came back.
abbrev pub ProgramRunsAreAlike : Type 0
ProgramRunsAreAlike =
    (args : List (List ℕ)) (level : Level) (words : List ℕ) (network left other right : Networked) (before after then later : Hosted) (code status : ℕ)
    (input output : List ℕ) →
    IsPipe args level words → Does args network before code left after → Does args other then status right later → Offers before input output → Offers then input output →
    code < 2 → status < 2 →
    (code ≡ status) × ((written : List ℕ) × CameBack before after written × CameBack then later written)
