-- What serving a session over a link comes to.
use Rattle.std.specs.Prelude.{◌≡◌, ◌⊎◌, Contains, ℕ, ◌+◌, ◌<◌, ◌≤◌, List, ◌∷◌, [], ◌++◌, length, Option, Some, None, false}
use Rattle.cell_base.specs.declared.level.Level.{Level}
use Rattle.link_traits.specs.Faults.{Rose}
use Rattle.link_traits.specs.Traffic.{Traffic, Both, Sight}
use Rattle.history_book.specs.Book.{Past}
use Rattle.block_machine.specs.Calls.{Call}
use Rattle.block_machine.specs.Script.{Entry, unsent, more, ended, has_short}
use Rattle.block_machine.specs.declared.end.End.{End}
use Rattle.block_machine.specs.declared.end.End.TheVariants as ends
use Rattle.session_core.specs.declared.served.Served.{Served}
use Rattle.session_core.specs.Requests.{Requests, AreRequests}
use Rattle.session_core.specs.Told.{told, opened_in}
use Rattle.session_core.specs.Record.{IsValidRecord, events_of}
use Rattle.session_core.specs.Ends.{LacksBy, outer_end}

-- the greatest number of bytes that are read from a link
abbrev pub most_read : ℕ
most_read = 1073741824

-- the greatest number of bytes that one read takes
abbrev pub most_at_once : ℕ
most_at_once = 8192

-- What stands round a session at a moment: the past of its book, the choice words that are left, and what its link tells.
pub record Scene (W : Type 0) : Type 0 where
  pub past : Past
  pub words : W
  pub link : Sight

abbrev pub scene_of : {W : Type 0} → Past → W → Sight → Scene W
scene_of past words link = record { past = past; words = words; link = link }

-- What went to and fro while a session was served.
pub record Account : Type 0 where
  -- the bytes that were taken from the client
  pub taken : List ℕ
  -- the calls that were asked of the book, in order
  pub calls : List Call
  -- the record: what became of each call, and each lack of memory, failed write and end of input
  pub entries : List Entry
  -- the bytes that were to be sent to the client
  pub sent : List ℕ
  -- the last of these, where a failed write left them unsent
  pub lost : List ℕ

-- A mark of the link, counted from where the link was: what had been sent before the read is told of what had been taken and of a prefix
-- of the record, and more was wanted.
pub record IsMark (level : Level) (account : Account) (t : Traffic) (mark : ℕ × ℕ) : Type 0 where
  pub front : List ℕ
  pub rest : List ℕ
  pub early : List Entry
  pub late : List Entry
  pub asked : List Call
  pub said : List ℕ
  pub unsaid : List ℕ
  pub requests : Requests
  pub taken_is : account.taken ≡ front ++ rest
  pub entries_are : account.entries ≡ early ++ late
  pub sent_is : account.sent ≡ said ++ unsaid
  pub mark_is : mark ≡ (length t.read + length front, length t.written + length said)
  pub requests_are : AreRequests false front requests
  pub told_is : told level requests early ≡ (record { bytes = said; calls = asked }, more)

abbrev pub AreMarks : Level → Account → Traffic → List (ℕ × ℕ) → Type 0
AreMarks level account t [] = Unit {0}
AreMarks level account t (m ∷ ms) = IsMark level account t m × AreMarks level account t ms

-- how many bytes had been read before the first of these reads; with none of them, how many were read in all
abbrev pub read_before : List (ℕ × ℕ) → ℕ → ℕ
read_before [] all = all
read_before (m ∷ ms) all = m.0

-- each of these reads took at most so many bytes: no more had been read before the next one, or after the last one, given how many bytes
-- were read in all
abbrev pub TakeAtMost : ℕ → List (ℕ × ℕ) → ℕ → Type 0
TakeAtMost most [] all = Unit {0}
TakeAtMost most (m ∷ ms) all = (read_before ms all ≤ m.0 + most) × TakeAtMost most ms all

-- what went over the link
pub record Carries (level : Level) (account : Account) (before after : Traffic) : Type 0 where
  pub left : before.left ≡ account.taken ++ after.left
  pub read_is : after.read ≡ before.read ++ account.taken
  pub written_is : after.written ++ account.lost ≡ before.written ++ account.sent
  pub marks : (ms : List (ℕ × ℕ)) × (after.marks ≡ before.marks ++ ms) × AreMarks level account before ms ×
      TakeAtMost most_at_once ms (length after.read)

abbrev pub IsAtEnd : Option Traffic → Type 0
IsAtEnd None = Unit {0}
IsAtEnd (Some t) = t.left ≡ []

-- An end whose cause is the link has that cause. It comes where more might have been read, but for Spent, which comes where no more may be.
abbrev pub Blames : Option End → Sight → Sight → List ℕ → Type 0
Blames (Some ends.Closed) before after taken = (length taken < most_read) × IsAtEnd after.traffic
Blames (Some ends.Cut) before after taken = (length taken < most_read) × IsAtEnd after.traffic
Blames (Some ends.ReadFault) before after taken = (length taken < most_read) × Rose before.read_faults after.read_faults
Blames (Some ends.WriteFault) before after taken = Rose before.write_faults after.write_faults
Blames (Some ends.Spent) before after taken = length taken ≡ most_read
Blames _ before after taken = Unit {0}

-- What a failed write left unsent is a part of the reply that was told last: after as many bytes as had been told before that reply.
abbrev pub IsOfLast : Account → Type 0
IsOfLast account =
    (account.lost ≡ []) ⊎ ((n : ℕ) × Contains account.entries (unsent n) × (n + length account.lost ≤ length account.sent))

-- A session was served at a level. No more bytes were taken from its client than the most that is read. They say these requests. What was
-- to be sent, the calls that were asked and the end are told of the requests and of the record. The calls were made of the book in order,
-- their events are those that the book made its own, and its reads drew the words. Over the link went what was taken and what was sent.
-- No reply was held back over a read, and no read took more than one takes at most. Where a write failed, what is lost stands at the end of
-- what was to be sent, and is a part of the last reply. An end that is laid to the link has its cause there. The outcome names the session
-- that the record opened, and says whether memory ran out.
pub record Serves {W : Type 0} (gives : W → ℕ → W → Type 0) (level : Level) (before : Scene W) (outcome : Served) (after : Scene W)
    (account : Account) : Type 0 where
  pub within : length account.taken ≤ most_read
  pub requests : Requests
  pub requests_are : AreRequests false account.taken requests
  pub told_is : told level requests account.entries ≡ (record { bytes = account.sent; calls = account.calls }, ended outcome.end)
  pub valid : IsValidRecord gives before.past before.words account.calls account.entries after.past after.words
  pub own : after.past.own ≡ before.past.own ++ events_of account.entries
  pub carries : Both (Carries level account) before.link.traffic after.link.traffic
  pub lacks : LacksBy outcome.end account.lost
  pub last : IsOfLast account
  pub blames : Blames (outer_end outcome.end) before.link after.link account.taken
  pub opened : outcome.session ≡ opened_in account.entries
  pub short : outcome.short ≡ has_short account.entries
