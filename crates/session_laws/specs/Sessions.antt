-- What becomes of the session of a client that says all that it has to say, over a link that tells its bytes and has no fault.
use Rattle.std.specs.Prelude.{◌≡◌, ◌⊎◌, ℕ, ◌<◌, List, [], ◌∷◌, ◌++◌, length, Some}
use Rattle.cell_base.specs.declared.level.Level.{Level}
use Rattle.cell_base.specs.declared.sql_state.SqlState.TheVariants as states
use Rattle.link_traits.specs.Faults.{Rose}
use Rattle.link_traits.specs.Traffic.{Traffic, Both, Sight}
use Rattle.client_framing.specs.declared.frontend_message.FrontendMessage.{FrontendMessage}
use Rattle.client_framing.specs.declared.frontend_message.FrontendMessage.TheVariants.{Startup}
use Rattle.history_core.specs.declared.fault.BookFault.TheVariants as faults
use Rattle.history_core.specs.declared.fault.Limit.{Limit}
use Rattle.history_book.specs.Book.{Past}
use Rattle.block_machine.specs.Calls as calls
use Rattle.block_machine.specs.Script.{refused}
use Rattle.block_machine.specs.declared.end.End.{End}
use Rattle.block_machine.specs.declared.end.End.TheVariants as ends
use Rattle.session_core.specs.declared.served.Served.{Served}
use Rattle.session_core.specs.Requests.{Requests, asks, Says}
use Rattle.session_core.specs.Record.{limit_for}
use Rattle.session_core.specs.Serve.{most_read, Scene, Account, Serves}
use Rattle.session_laws.specs.Causes.{Has, LacksMemory}
use Rattle.session_laws.specs.Streams.{IsWholeStream}

-- Before a call the link told these bytes as those that are left to be read, fewer than the most that is read; in the call it counted no fault.
pub record IsUndisturbed (bytes : List ℕ) (before after : Sight) : Type 0 where
  pub traffic : Traffic
  pub told : before.traffic ≡ Some traffic
  pub left : traffic.left ≡ bytes
  pub few : length bytes < most_read
  pub reads : ¬ (Rose before.read_faults after.read_faults)
  pub writes : ¬ (Rose before.write_faults after.write_faults)

-- all that was to be sent was written, after what had been written before
pub record IsSentWhole (account : Account) (before after : Sight) : Type 0 where
  pub lost : account.lost ≡ []
  pub written : Both (λ old new. new.written ≡ old.written ++ account.sent) before.traffic after.traffic

-- what was heard begins with what these messages ask for, one after another
abbrev pub Hears : List FrontendMessage → Requests → Type 0
Hears [] requests = Unit {0}
Hears (front ∷ fronts) (asks asked requests) = Says front asked × Hears fronts requests
Hears (front ∷ fronts) _ = ⊥

-- The session wasn't opened: that was the one call that was made, and it was refused, since the history had no room for a session.
pub record IsTurnedAway (past : Past) (account : Account) : Type 0 where
  pub limit : Limit
  pub full : limit_for past calls.Open ≡ Some limit
  pub calls : account.calls ≡ calls.Open ∷ []
  pub entries : account.entries ≡ refused (faults.Full limit) ∷ []

-- The session ended as it was to, and heard all these messages; or memory ran out; or it was turned away.
abbrev pub EndsAsSaid : End → List FrontendMessage → End → Requests → Past → Account → Type 0
EndsAsSaid said messages end requests past account =
    ((end ≡ said) × Hears messages requests)
    ⊎ (((end ≡ ends.Memory) × Has LacksMemory account.entries)
    ⊎ ((end ≡ ends.Refused states.S54000) × IsTurnedAway past account))

-- What is said of a session that was served: where its link told its bytes and counted no fault, and these bytes are all that its client has to
-- say, all that it was told was written. It is Terminated where its client says Terminate and Closed where it doesn't, and heard all its
-- messages; or memory ran out; or the history had no room for a session.
abbrev pub IsComplete : {W : Type 0} → (gives : W → ℕ → W → Type 0) (level : Level) (before : Scene W) (outcome : Served) (after : Scene W)
    (account : Account) → Serves gives level before outcome after account → Type 0
IsComplete gives level before outcome after account s =
    (end : End) (bytes : List ℕ) → (w : IsWholeStream end bytes) → IsUndisturbed bytes before.link after.link
    → IsSentWhole account before.link after.link
    × EndsAsSaid end (w.encryption ++ Startup w.pairs ∷ w.messages) outcome.end s.requests after.past account

-- each session that was served is so
abbrev pub SessionsAreComplete : {W : Type 0} → (W → ℕ → W → Type 0) → Type 0
SessionsAreComplete {W} gives =
    (level : Level) (before : Scene W) (outcome : Served) (after : Scene W) (account : Account)
    → (s : Serves gives level before outcome after account) → IsComplete gives level before outcome after account s
