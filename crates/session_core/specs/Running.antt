-- How a session that is served goes on: where it sits by its book, the call that it makes, and what it came to so far.
use Rattle.std.specs.Prelude.{◌≡◌, ℕ, ◌≤◌, List, [], ◌∷◌, ◌++◌, length}
use Rattle.cell_base.specs.declared.level.Level.{Level}
use Rattle.link_traits.specs.Traffic.{Both}
use Rattle.history_core.specs.declared.event.Event.{Event}
use Rattle.history_book.specs.Book.{Past, GoesOn}
use Rattle.block_machine.specs.Calls.{Call}
use Rattle.block_machine.specs.Script.{Entry}
use Rattle.block_machine.specs.Stages.{Fits}
use Rattle.block_machine.specs.Runners.{tables_of}
use Rattle.block_machine.specs.declared.call.Answer.{Answer}
use Rattle.session_core.specs.declared.session.Session.{Session}
use Rattle.session_core.specs.Record.{IsValidRecord, StateAfter}
use Rattle.session_core.specs.Plays.{Plays, owed_of}
use Rattle.session_core.specs.Wants as wishes
use Rattle.session_core.specs.Stands.{served_of, IsFit, Lacks, outer, owed_at}
use Rattle.session_core.specs.Sessions.{Stands, StandsShort, wanted}
use Rattle.session_core.specs.Serve.{Scene, Account, Carries, Blames, IsOfLast}

-- The book is where the session's stage has it, and has defined the tables that the session knows.
pub record Sits (s : Session) (past : Past) : Type 0 where
  pub owed : owed_of past.state ≡ owed_at s.stage s.runner
  pub known_tables : length (tables_of s.runner) ≤ length past.seen.tables
  pub fit : IsFit s.runner

-- A session sits by its book also after others have added to the history.
abbrev pub SitsWhileOthersGoOn : Type 0
SitsWhileOthersGoOn = (s : Session) (old new : Past) → Sits s old → GoesOn old new → Sits s new

-- the call that the session wants was made of the book and got this answer
pub record IsAnswered {W : Type 0} (gives : W → ℕ → W → Type 0) (s : Session) (p : Past) (v : W) (answer : Answer) (q : Past) (w : W) :
    Type 0 where
  pub call : Call
  pub event : Event
  pub wanted_is : wanted s ≡ wishes.Book call
  pub fits : Fits call answer
  pub plays : Plays gives p v call answer event q w
  pub state : StateAfter call answer p.state q.state

-- The one call that the session wanted was made of the book, and one entry is its valid record. Whatever lists the session stood for, it
-- stands for these with just this call and its entry added, and perhaps with the session's own lack of memory after it.
pub record MakesCall {W : Type 0} (gives : W → ℕ → W → Type 0) (s : Session) (p : Past) (v : W) (r : Session) (q : Past) (w : W) :
    Type 0 where
  pub call : Call
  pub entry : Entry
  pub wanted_is : wanted s ≡ wishes.Book call
  pub valid : IsValidRecord gives p v (call ∷ []) (entry ∷ []) q w
  pub grown : (taken : List ℕ) (entries : List Entry) (asked : List Call) (sent : List ℕ) → Stands s taken entries asked sent →
      StandsShort r taken (entries ++ entry ∷ []) (asked ++ call ∷ []) sent

-- A session came from its beginning in one scene to this state in another.
pub record Runs {W : Type 0} (gives : W → ℕ → W → Type 0) (level : Level) (before : Scene W) (s : Session) (after : Scene W)
    (account : Account) : Type 0 where
  pub stands : Stands s account.taken account.entries account.calls account.sent
  pub served_level : served_of s.runner ≡ level
  pub valid : IsValidRecord gives before.past before.words account.calls account.entries after.past after.words
  pub carries : Both (Carries level account) before.link.traffic after.link.traffic
  pub lacks : Lacks s.stage account.lost
  pub last : IsOfLast account
  pub blames : Blames (outer s.stage) before.link after.link account.taken
  pub reads : before.link.read_faults ≤ after.link.read_faults
  pub writes : before.link.write_faults ≤ after.link.write_faults

-- the same, with so many bytes taken
abbrev pub Ran : {W : Type 0} → (W → ℕ → W → Type 0) → Level → Scene W → Session → Scene W → ℕ → Type 0
Ran gives level before s after many = (account : Account) × (length account.taken ≡ many) × Runs gives level before s after account
