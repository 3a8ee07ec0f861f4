-- What the messages of a client lead to.
use Rattle.std.proofs.Common.{◌≡◌, Bool, true, false, ℕ, List, [], length, refl, sym, ◌∙◌, ap, Option, Some, None, inl, inr}
use Rattle.cell_base.specs.declared.sql_state.SqlState.TheVariants as states
use Rattle.pg_framing.specs.declared.replies.TransactionState.{TransactionState}
use Rattle.client_framing.specs.declared.frontend_message.FrontendMessage.TheVariants as fronts
use Rattle.client_framing.specs.declared.frontend_message.Extended.{Extended}
use Rattle.client_framing.specs.declared.frontend_message.CopyMessage.{CopyMessage}
use Rattle.block_machine.specs.Script.{Entry, Said, lost}
use Rattle.block_machine.specs.Stages.{IsFrom, with_short}
use Rattle.block_machine.specs.Messages.{Outside, IsMessage, message, owed_between}
use Rattle.block_machine.specs.Runners.{follows, knowledge_of}
use Rattle.block_machine.specs.declared.block.Owed.{Owed}
use Rattle.block_machine.specs.declared.end.End.TheVariants as ends
use Rattle.block_machine.specs.declared.message.Message.{Message}
use Rattle.block_machine.specs.declared.message.Message.TheVariants as messages
use Rattle.block_machine.specs.declared.message_runner.MessageRunner.{MessageRunner}
use Rattle.session_core.specs.declared.phase.Phase.TheVariants as phases
use Rattle.session_core.specs.declared.stage.Fatal.TheVariants as fatals
use Rattle.session_core.specs.declared.stage.Finish.TheVariants as finishes
use Rattle.session_core.specs.declared.stage.SessionReply.TheVariants as replies
use Rattle.session_core.specs.declared.stage.SessionStage.{SessionStage}
use Rattle.session_core.specs.declared.stage.SessionStage.TheVariants as stages
use Rattle.session_core.specs.declared.turns.Shortage.{Shortage}
use Rattle.session_core.specs.declared.turns.Shortage.TheVariants as shortages
use Rattle.session_core.specs.Users.{HasUser}
use Rattle.session_core.specs.Requests.{Requests, encryption, cancel, start, userless, version, query, unread_query, terminate, sync, nothing, extended, function}
use Rattle.session_core.specs.Told.{ending, outside_of, refuses}
use Rattle.session_core.specs.Stands.{IsFit, IsUnder, IsBusy, Lacks, NoBuilt, goes_on, on, outer, owed_at}
use Rattle.session_core.specs.Steps.{Meets, Leads, LeadsTo, IsPassing, with_out_of_memory}
use Rattle.session_core.proofs.Passes.{busy-last, unless_short-takes}
use Rattle.session_core.proofs.Somes.{plain_some}

-- ---- a message that runs

-- a lack of memory that doesn't end the session
pub with_passing : (short : Bool) (w : Option Shortage) (sent : List ℕ) (es : List Entry) → (short ≡ false → w ≡ None) →
    (short ≡ true → w ≡ Some shortages.Passing) →
    with_short short sent es ≡ with_out_of_memory w sent es
with_passing false w sent es at_rest short = ap (λ (x : Option Shortage). with_out_of_memory x sent es) (sym (at_rest refl))
with_passing true w sent es at_rest short = ap (λ (x : Option Shortage). with_out_of_memory x sent es) (sym (short refl))

-- a message begins
pub message_begins : (asked : Message) (state : TransactionState) (old new : MessageRunner) (short : Bool) (w : Option Shortage) →
    (short ≡ false → w ≡ None) → (short ≡ true → w ≡ Some shortages.Passing) →
    ((outside : Outside) (said : Said) (es : List Entry) → IsFrom 1 (length said.bytes) es →
    message asked state (knowledge_of old) outside said (with_short short said.bytes es) ≡ follows new outside said es) →
    (startup : List ℕ) (requests : Requests) (said : Said) (es : List Entry) → IsFrom 1 (length said.bytes) es →
    message asked state (knowledge_of old) (outside_of (on requests)) said
    (with_out_of_memory w said.bytes es) ≡ goes_on stages.Running new startup requests said es
message_begins asked state old new short w at_rest shorts goes startup requests said es from =
    ap (λ (x : List Entry). message asked state (knowledge_of old) (outside_of (on requests)) said x)
    (sym (with_passing short w said.bytes es at_rest shorts))
    ∙ goes (outside_of (on requests)) said es from

-- ---- what a message leads to

-- to a stage of the session's own
pub leads_own : (owed : Owed) (stage : SessionStage) (r : MessageRunner) → owed_at stage r ≡ owed → IsUnder stage r → outer stage ≡ None →
    Lacks stage [] → NoBuilt stage → IsFit r → Leads owed r stage r
leads_own owed stage r is under inner lacks constant fit = record {
  owed_is = is;
  known = refl;
  fit = fit;
  under = under;
  inner = inner;
  lacks = lacks;
  some = λ startup. plain_some stage r startup constant;
}

-- ---- messages before the startup

pub meets_ssl : (r : MessageRunner) → Meets fronts.Ssl phases.Startup r (stages.Telling replies.NoEncryption) r None
meets_ssl r = inl (record { asked = encryption; says = tt; busy = tt; passing = tt; goes = λ startup requests said es from. refl })

pub meets_gss : (r : MessageRunner) → Meets fronts.Gss phases.Startup r (stages.Telling replies.NoEncryption) r None
meets_gss r = inl (record { asked = encryption; says = tt; busy = tt; passing = tt; goes = λ startup requests said es from. refl })

pub meets_cancel : (pid secret : ℕ) (r : MessageRunner) → Meets (fronts.Cancel pid secret) phases.Startup r
    (stages.Ended finishes.Cancelled) r None
meets_cancel pid secret r = inl (record { asked = cancel; says = tt; busy = tt; passing = tt; goes = λ startup requests said es from. refl })

pub meets_start : (pairs : List ((List ℕ) × (List ℕ))) (r : MessageRunner) → HasUser pairs →
    Meets (fronts.Startup pairs) phases.Startup r stages.Opening r None
meets_start pairs r has = inl (record { asked = start; says = has; busy = tt; passing = tt; goes = λ startup requests said es from. refl })

pub meets_userless : (pairs : List ((List ℕ) × (List ℕ))) (r : MessageRunner) → (HasUser pairs → ⊥) →
    Meets (fronts.Startup pairs) phases.Startup r (stages.Parting fatals.NoUser) r None
meets_userless pairs r none =
    inl (record { asked = userless; says = none; busy = tt; passing = tt; goes = λ startup requests said es from. refl })

pub meets_version : (code : ℕ) (r : MessageRunner) → Meets (fronts.Version code) phases.Startup r (stages.Parting fatals.OtherVersion) r None
meets_version code r = inl (record { asked = version; says = tt; busy = tt; passing = tt; goes = λ startup requests said es from. refl })

-- ---- messages that are served

pub meets_terminate : (state : TransactionState) (stage : SessionStage) (r : MessageRunner) →
    LeadsTo stage (ending (owed_between state) ends.Terminated) → Meets fronts.Terminate (phases.Normal state) r stage r None
meets_terminate state stage r leads =
    inl (record {
      asked = terminate;
      says = tt;
      busy = busy-last stage leads.0;
      passing = tt;
      goes =
          λ startup requests said es from. leads.1 r startup requests said es;
    })

pub meets_sync : (state : TransactionState) (r : MessageRunner) → Meets fronts.Sync (phases.Normal state) r (stages.Telling
    (replies.Ready state)) r None
meets_sync state r = inl (record { asked = sync; says = tt; busy = tt; passing = tt; goes = λ startup requests said es from. refl })

pub meets_extended : (step : Extended) (state : TransactionState) (stage : SessionStage) (r : MessageRunner) → IsBusy stage →
    ((startup : List ℕ) (requests : Requests) (said : Said) (es : List Entry) →
    refuses state (knowledge_of r) (on requests) said es ≡ goes_on stage r startup requests said es) →
    Meets (fronts.Extended step) (phases.Normal state) r stage r None
meets_extended step state stage r busy goes =
    inl (record { asked = extended; says = tt; busy = busy; passing = tt; goes = λ startup requests said es from. goes startup requests said es })

pub meets_flush : (state : TransactionState) (r : MessageRunner) → Meets fronts.Flush (phases.Normal state) r (stages.Taking
    (phases.Normal state)) r None
meets_flush state r = inr (record { asked = nothing; says = tt; goes = λ known rest. refl }, refl, refl, refl)

pub meets_copy : (part : CopyMessage) (state : TransactionState) (r : MessageRunner) →
    Meets (fronts.Copy part) (phases.Normal state) r (stages.Taking (phases.Normal state)) r None
meets_copy part state r = inr (record { asked = nothing; says = tt; goes = λ known rest. refl }, refl, refl, refl)

pub meets_query : (text : List ℕ) (asked : Message) (state : TransactionState) (old new : MessageRunner) (w : Option Shortage) → IsMessage text asked →
    IsPassing w →
    ((startup : List ℕ) (requests : Requests) (said : Said) (es : List Entry) → IsFrom 1 (length said.bytes) es →
    message asked state (knowledge_of old) (outside_of (on requests)) said
    (with_out_of_memory w said.bytes es) ≡ goes_on stages.Running new startup requests said es) →
    Meets (fronts.Query text) (phases.Normal state) old stages.Running new w
meets_query text asked state old new w is passing goes =
    inl (record { asked = query asked; says = is; busy = tt; passing = passing; goes = goes })

-- memory runs out for what a query asks
pub meets_unread : (text : List ℕ) (state : TransactionState) (old new : MessageRunner) →
    ((startup : List ℕ) (requests : Requests) (said : Said) (es : List Entry) →
    message (messages.Unread states.S53200) state (knowledge_of old)
    (outside_of (on requests)) said es ≡ goes_on stages.Running new startup requests said es) →
    Meets (fronts.Query text) (phases.Normal state) old stages.Running new (Some shortages.Passing)
meets_unread text state old new goes =
    inl (record {
      asked = unread_query;
      says = tt;
      busy = tt;
      passing = tt;
      goes = λ startup requests said es from.
          unless_short-takes false (message (messages.Unread states.S53200) state (knowledge_of old)
          (outside_of (on requests))) lost said es ∙ goes startup requests said es;
    })

pub meets_function : (state : TransactionState) (old new : MessageRunner) →
    ((startup : List ℕ) (requests : Requests) (said : Said) (es : List Entry) →
    message (messages.Unread states.S0A000) state (knowledge_of old)
    (outside_of (on requests)) said es ≡ goes_on stages.Running new startup requests said es) →
    Meets fronts.FunctionCall (phases.Normal state) old stages.Running new None
meets_function state old new goes =
    inl (record { asked = function; says = tt; busy = tt; passing = tt; goes = λ startup requests said es from. goes startup requests said es })

-- ---- messages that are discarded

pub drops_terminate : (state : TransactionState) (stage : SessionStage) (r : MessageRunner) →
    LeadsTo stage (ending (owed_between state) ends.Terminated) → Meets fronts.Terminate (phases.Discarding state) r stage r None
drops_terminate state stage r leads =
    inl (record {
      asked = terminate;
      says = tt;
      busy = busy-last stage leads.0;
      passing = tt;
      goes =
          λ startup requests said es from. leads.1 r startup requests said es;
    })

pub drops_sync : (state : TransactionState) (r : MessageRunner) → Meets fronts.Sync (phases.Discarding state) r (stages.Telling
    (replies.Ready state)) r None
drops_sync state r = inl (record { asked = sync; says = tt; busy = tt; passing = tt; goes = λ startup requests said es from. refl })

pub drops_query : (text : List ℕ) (state : TransactionState) (r : MessageRunner) →
    Meets (fronts.Query text) (phases.Discarding state) r (stages.Taking (phases.Discarding state)) r None
drops_query text state r = inr (record { asked = unread_query; says = tt; goes = λ known rest. refl }, refl, refl, refl)

pub drops_flush : (state : TransactionState) (r : MessageRunner) → Meets fronts.Flush (phases.Discarding state) r (stages.Taking
    (phases.Discarding state)) r None
drops_flush state r = inr (record { asked = nothing; says = tt; goes = λ known rest. refl }, refl, refl, refl)

pub drops_extended : (step : Extended) (state : TransactionState) (r : MessageRunner) →
    Meets (fronts.Extended step) (phases.Discarding state) r (stages.Taking (phases.Discarding state)) r None
drops_extended step state r = inr (record { asked = extended; says = tt; goes = λ known rest. refl }, refl, refl, refl)

pub drops_function : (state : TransactionState) (r : MessageRunner) →
    Meets fronts.FunctionCall (phases.Discarding state) r (stages.Taking (phases.Discarding state)) r None
drops_function state r = inr (record { asked = function; says = tt; goes = λ known rest. refl }, refl, refl, refl)

pub drops_copy : (part : CopyMessage) (state : TransactionState) (r : MessageRunner) →
    Meets (fronts.Copy part) (phases.Discarding state) r (stages.Taking (phases.Discarding state)) r None
drops_copy part state r = inr (record { asked = nothing; says = tt; goes = λ known rest. refl }, refl, refl, refl)
