-- What a step of a session from one stage to the next comes to.
use Rattle.std.specs.Prelude.{◌≡◌, ℕ, ◌<◌, ◌⊎◌, List, [], ◌∷◌, ◌++◌, length, Option, Some, None, Bool, true, false}
use Rattle.history_core.specs.declared.event.Event.{Event}
use Rattle.client_framing.specs.declared.frontend_message.FrontendMessage.{FrontendMessage}
use Rattle.client_framing.specs.declared.frontend_message.FrontendMessage.TheVariants.{Ssl, Gss, Cancel, Startup, Version, Query, FunctionCall}
use Rattle.cell_base.specs.Texts.{HasNoZero}
use Rattle.client_framing.specs.Fronts.{Held, TakesFront, IsPartial}
use Rattle.block_machine.specs.Calls.{Call}
use Rattle.block_machine.specs.Script.{Entry, did, refused, short, unsent, stop, Said, Script, with_call}
use Rattle.block_machine.specs.Knowledge.{Knowledge}
use Rattle.block_machine.specs.Stages.{IsFrom, IsSameButLevel, entry_for}
use Rattle.block_machine.specs.Runners.{knowledge_of}
use Rattle.block_machine.specs.declared.block.Owed.{Owed}
use Rattle.block_machine.specs.declared.call.Answer.{Answer}
use Rattle.block_machine.specs.declared.call.Answer.TheVariants as answers
use Rattle.block_machine.specs.declared.end.End.TheVariants as ends
use Rattle.block_machine.specs.declared.message_runner.MessageRunner.{MessageRunner}
use Rattle.session_core.specs.declared.phase.Phase.{Phase}
use Rattle.session_core.specs.declared.stage.SessionStage.{SessionStage}
use Rattle.session_core.specs.declared.stage.SessionStage.TheVariants as stages
use Rattle.session_core.specs.declared.turns.Shortage.{Shortage}
use Rattle.session_core.specs.declared.turns.Shortage.TheVariants as shortages
use Rattle.session_core.specs.Wants as wishes
use Rattle.session_core.specs.Requests.{Request, Says, Requests, AreRequests}
use Rattle.session_core.specs.Told.{owed_by, ending, handled}
use Rattle.session_core.specs.Stands.{on, goes_on, wants, owed_at, after_reply, HasReply, IsLast, IsBusy, has_started, IsUnder, IsFit, IsFed, least, outer, Lacks}

-- ---- steps

-- the session goes on after a lack of memory, where there was one
abbrev pub IsPassing : Option Shortage → Type 0
IsPassing None = Unit {0}
IsPassing (Some shortages.Passing) = Unit {0}
IsPassing (Some shortages.Ending) = ⊥

-- whether a lack of memory ends the session
abbrev pub is_final : Shortage → Bool
is_final shortages.Passing = false
is_final shortages.Ending = true

-- the entries with a lack of memory before them, where there was one
abbrev pub with_out_of_memory : Option Shortage → List ℕ → List Entry → List Entry
with_out_of_memory None sent es = es
with_out_of_memory (Some shortage) sent es = short (is_final shortage) (length sent) ∷ es

-- the entries that a call adds by the session's own lack of memory, where so many bytes were told
abbrev pub IsShort : List ℕ → List Entry → Type 0
IsShort sent [] = Unit {0}
IsShort sent (short final n ∷ []) = n ≡ length sent
IsShort sent (short final n ∷ e ∷ es) = ⊥
IsShort sent (did a x ∷ es) = ⊥
IsShort sent (refused why ∷ es) = ⊥
IsShort sent (unsent n ∷ es) = ⊥
IsShort sent (stop cause ∷ es) = ⊥

-- an end leads to a stage
abbrev pub LeadsTo : SessionStage → Script → Type 0
LeadsTo stage script = IsLast stage × ((r : MessageRunner) (startup : List ℕ) (requests : Requests) (said : Said) (es : List Entry) →
    script said es ≡ goes_on stage r startup requests said es)

-- the message stands after the startup
abbrev pub is_main : FrontendMessage → Bool
is_main Ssl = false
is_main Gss = false
is_main (Cancel pid secret) = false
is_main (Startup pairs) = false
is_main (Version code) = false
is_main _ = true

-- a message that runs no statement
abbrev pub IsPlainFront : FrontendMessage → Type 0
IsPlainFront (Query text) = ⊥
IsPlainFront FunctionCall = ⊥
IsPlainFront _ = Unit {0}

-- the text of a query is one that can be read
abbrev pub IsReadable : FrontendMessage → Type 0
IsReadable (Query text) = (length text < 4294967296) × HasNoZero text
IsReadable _ = Unit {0}

-- the message was taken off a stream in this phase
abbrev pub IsHeard : Phase → FrontendMessage → Type 0
IsHeard phase front = (bytes : List ℕ) × (more : List ℕ) × TakesFront (has_started phase) bytes front more

-- A message of a client leads to a stage, with a lack of memory in its reading where there was one.
pub record Enters (front : FrontendMessage) (phase : Phase) (r : MessageRunner) (stage : SessionStage) (next : MessageRunner) (out_of_memory : Option Shortage) : Type 0 where
  pub asked : Request
  pub says : Says front asked
  pub busy : IsBusy stage
  pub passing : IsPassing out_of_memory
  pub goes : (startup : List ℕ) (requests : Requests) (said : Said) (es : List Entry) → IsFrom 1 (length said.bytes) es →
      handled asked phase (knowledge_of r) (on requests) said (with_out_of_memory out_of_memory said.bytes es) ≡
      goes_on stage next startup requests said es

-- A message of a client tells nothing and changes nothing.
pub record Skips (front : FrontendMessage) (phase : Phase) : Type 0 where
  pub asked : Request
  pub says : Says front asked
  pub goes : (known : Knowledge) (rest : Phase → Knowledge → Script) →
      handled asked phase known rest ≡ rest phase known

-- What a message leads to, given what was owed: the end isn't there yet, and no more of what is known has changed than the level.
pub record Leads (owed : Owed) (r : MessageRunner) (stage : SessionStage) (next : MessageRunner) : Type 0 where
  pub owed_is : owed_at stage next ≡ owed
  pub known : IsSameButLevel (knowledge_of r) (knowledge_of next)
  pub fit : IsFit next
  pub under : IsUnder stage next
  pub inner : outer stage ≡ None
  pub lacks : Lacks stage []
  pub some : (startup : List ℕ) → HasReply stage next startup

-- A message leads to a stage, or is passed over.
abbrev pub Meets : FrontendMessage → Phase → MessageRunner → SessionStage → MessageRunner → Option Shortage → Type 0
Meets front phase r stage next out_of_memory =
    Enters front phase r stage next out_of_memory
    ⊎ (Skips front phase × (stage ≡ stages.Taking phase) × (next ≡ r) × (out_of_memory ≡ None))

-- Where a message is wanted, the next one, a fault or a lack of memory is looked at, or bytes are wanted.
pub record Steps (phase : Phase) (r : MessageRunner) (before : Held) (stage : SessionStage) (next : MessageRunner) (out_of_memory : Option Shortage)
    (after : Held) : Type 0 where
  pub turns : Requests → Requests
  pub heard : (bytes : List ℕ) (requests : Requests) → IsFed stage bytes → AreRequests after.started (after.rest ++ bytes) requests →
      AreRequests before.started (before.rest ++ bytes) (turns requests)
  pub goes : (startup : List ℕ) (requests : Requests) (said : Said) (es : List Entry) → IsFrom (least stage) (length said.bytes) es →
      on (turns requests) phase (knowledge_of r) said (with_out_of_memory out_of_memory said.bytes es) ≡ goes_on stage next startup requests said es
  pub waits : (other : Phase) → stage ≡ stages.Waiting other → IsPartial after.started after.rest

-- A piece that comes in where bytes are wanted is held, or memory for it runs out and the session ends.
abbrev pub Feeds : Phase → List ℕ → Held → SessionStage → Option Shortage → Held → Type 0
Feeds phase piece before stage out_of_memory after =
    ((after ≡ record before { rest = before.rest ++ piece }) × (out_of_memory ≡ None) × (stage ≡ stages.Taking phase))
    ⊎ ((after ≡ before) × (out_of_memory ≡ Some shortages.Ending) × LeadsTo stage (ending (owed_by phase) ends.Memory))

-- A reply that was sent leads on, with a lack of memory after it where there was one.
abbrev pub Sends : SessionStage → MessageRunner → SessionStage → MessageRunner → Option Shortage → Type 0
Sends stage r next after out_of_memory =
    (startup : List ℕ) (requests : Requests) (said : Said) (es : List Entry) → IsFrom (least next) (length said.bytes) es →
    after_reply stage r requests said (with_out_of_memory out_of_memory said.bytes es) ≡ goes_on next after startup requests said es

-- An answer to a stage's call leads on, with a lack of memory after it where there was one.
pub record Advances (stage : SessionStage) (r : MessageRunner) (answer : Answer) (next : SessionStage) (after : MessageRunner) (out_of_memory : Option Shortage)
    (startup : List ℕ) : Type 0 where
  pub goes : (c : Call) (before : List ℕ) (requests : Requests) (said : Said) (es : List Entry) (e : Event) → wants stage r ≡ wishes.Book c →
      IsFrom 1 (length said.bytes) es →
      goes_on stage r before requests said (entry_for answer e ∷ with_out_of_memory out_of_memory said.bytes es) ≡
      goes_on next after startup requests (with_call said c) es
  pub busy : IsBusy next
  pub last : IsLast stage → IsLast next

-- the answer that needs memory is left out
abbrev pub IsPlain : SessionStage → Answer → Type 0
IsPlain stages.Opening (answers.Opened s) = ⊥
IsPlain _ _ = Unit {0}
