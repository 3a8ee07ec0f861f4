-- Which end a session comes to.
use Rattle.std.specs.Prelude.{◌≡◌, ◌⊎◌, ℕ, Bool, true, false, List, length, Option, None, Some}
use Rattle.cell_base.specs.declared.level.Level.{Level}
use Rattle.cell_base.specs.declared.sql_state.SqlState.TheVariants as states
use Rattle.link_traits.specs.Faults.{Rose}
use Rattle.block_machine.specs.Script.{Entry, Said, ended}
use Rattle.block_machine.specs.declared.end.End.{End}
use Rattle.block_machine.specs.declared.end.End.TheVariants as ends
use Rattle.block_machine.specs.declared.end.Stop.{Stop}
use Rattle.session_core.specs.declared.served.Served.{Served}
use Rattle.session_core.specs.Requests.{encryption, cancel, start, userless, version, terminate, Requests, asks, partial, faulty, unread}
use Rattle.session_core.specs.Told.{told, stop_end}
use Rattle.session_core.specs.Serve.{Scene, Account, Serves}
use Rattle.session_laws.specs.Causes.{Has, Stops, IsUnsent, LacksMemory, IsFull}

-- The end that a client says first, before its startup (false) or after it (true), where it says one: a cancel request, a startup without a user
-- or of another version, Terminate, or bytes that are no message.
abbrev pub end_said : Bool → Requests → Option End
end_said false (asks encryption requests) = end_said false requests
end_said false (asks cancel requests) = Some ends.Cancelled
end_said false (asks start requests) = end_said true requests
end_said false (asks userless requests) = Some (ends.Refused states.S28000)
end_said false (asks version requests) = Some (ends.Refused states.S0A000)
end_said false (asks _ requests) = None
end_said true (asks terminate requests) = Some ends.Terminated
end_said true (asks _ requests) = end_said true requests
end_said _ (partial rest) = None
end_said _ (faulty fault) = Some (ends.Protocol fault)
end_said _ unread = None

-- how many bytes there are of a message that isn't whole
abbrev pub held_in : Requests → ℕ
held_in (asks asked requests) = held_in requests
held_in (partial rest) = length rest
held_in (faulty fault) = 0
held_in unread = 0

-- The client said no end, and no more bytes came, for this cause, which with the number of bytes of a message that isn't whole tells the end.
pub record IsStopped (said : Option End) (held : ℕ) (end : End) (entries : List Entry) : Type 0 where
  pub cause : Stop
  pub stops : Has (Stops cause) entries
  pub none_said : said ≡ None
  pub end_is : end ≡ stop_end cause held

-- a write failed, memory ran out, or the history had no room for a session
abbrev pub IsHindered : End → List Entry → Type 0
IsHindered end entries =
    ((end ≡ ends.WriteFault) × Has IsUnsent entries)
    ⊎ (((end ≡ ends.Memory) × Has LacksMemory entries) ⊎ ((end ≡ ends.Refused states.S54000) × Has IsFull entries))

-- the end is the one that the client says first; or it says none, and its bytes stopped; or the session was hindered
abbrev pub IsItsEnd : Bool → Requests → End → List Entry → Type 0
IsItsEnd started requests end entries =
    (end_said started requests ≡ Some end) ⊎ (IsStopped (end_said started requests) (held_in requests) end entries ⊎ IsHindered end entries)

-- each session that has ended came to such an end
abbrev pub EndsAreExact : Type 0
EndsAreExact =
    (level : Level) (requests : Requests) (entries : List Entry) (said : Said) (end : End)
    → told level requests entries ≡ (said, ended end) → IsItsEnd false requests end entries

-- so did each that was served over a link
abbrev pub ServedEndsAreExact : {W : Type 0} → (W → ℕ → W → Type 0) → Type 0
ServedEndsAreExact {W} gives =
    (level : Level) (before : Scene W) (outcome : Served) (after : Scene W) (account : Account)
    → (s : Serves gives level before outcome after account) → IsItsEnd false s.requests outcome.end account.entries

-- Where its client says an end, the session comes to this one; or a write failed, which the link counted; or memory ran out; or the history had
-- no room for a session.
abbrev pub SayingEnds : {W : Type 0} → (W → ℕ → W → Type 0) → Type 0
SayingEnds {W} gives =
    (level : Level) (before : Scene W) (outcome : Served) (after : Scene W) (account : Account) (end : End)
    → (s : Serves gives level before outcome after account) → end_said false s.requests ≡ Some end
    → (outcome.end ≡ end)
    ⊎ (((outcome.end ≡ ends.WriteFault) × Rose before.link.write_faults after.link.write_faults)
    ⊎ (((outcome.end ≡ ends.Memory) × Has LacksMemory account.entries)
    ⊎ ((outcome.end ≡ ends.Refused states.S54000) × Has IsFull account.entries)))
