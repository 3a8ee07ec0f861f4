-- When the state of a session stands for the bytes that it was fed, the record of what it was answered, the calls that it asked, and
-- the bytes taken from it.
use Rattle.std.specs.Prelude.{◌≡◌, ℕ, ◌+◌, ◌*◌, List, ◌++◌, length}
use Rattle.block_machine.specs.Calls.{Call}
use Rattle.block_machine.specs.Script.{Entry, has_short}
use Rattle.session_core.specs.declared.session.Session.{Session}
use Rattle.session_core.specs.Told.{opened_in}
use Rattle.session_core.specs.Wants.{Want}
use Rattle.session_core.specs.Stands as stands
use Rattle.session_core.specs.Stands.{StandsFor, work_at}
use Rattle.session_core.specs.Steps.{IsShort}

pub record Stands (s : Session) (taken : List ℕ) (es : List Entry) (asked : List Call) (sent : List ℕ) : Type 0 where
  pub stage : StandsFor s.stage s.runner s.startup.items s.frames taken es asked sent
  pub short : s.short ≡ has_short es
  pub number : s.number ≡ opened_in es

-- the state stands for these lists, with a lack of memory added where the call met one
abbrev pub StandsShort : Session → List ℕ → List Entry → List Call → List ℕ → Type 0
StandsShort s taken es asked sent = (added : List Entry) × IsShort sent added × Stands s taken (es ++ added) asked sent

abbrev pub wanted : Session → Want
wanted s = stands.wants s.stage s.runner

-- how much work the state leaves until bytes are wanted or the end is there, but for the statements of a message that runs
abbrev pub work_of : Session → ℕ
work_of s = work_at s.stage + 16 * length s.frames.rest
