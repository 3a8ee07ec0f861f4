-- The steps of a session over the bytes that it holds.
use Rattle.std.proofs.Common.{◌≡◌, ◌≢◌, ◌⊎◌, inl, inr, Bool, true, ℕ, List, [], ◌∷◌, ◌++◌, length, refl, sym, ◌∙◌, ap, subst, append_assoc, Option, Some, None}
use Rattle.std.proofs.lemmas.List.{append-nil}
use Rattle.client_framing.specs.declared.frontend_message.FrontendMessage.{FrontendMessage}
use Rattle.client_framing.specs.declared.frontend_message.FrameFault.{FrameFault}
use Rattle.client_framing.specs.declared.frontend_message.FrameFault.TheVariants as frame_faults
use Rattle.client_framing.specs.Spelling.{phase_after}
use Rattle.client_framing.specs.Fronts.{Held, TakesFront, IsPartial, HasFault}
use Rattle.block_machine.specs.Script.{Entry, Script, Said, short, lost, unless_short}
use Rattle.block_machine.specs.Stages.{IsFrom}
use Rattle.block_machine.specs.Knowledge.{Knowledge}
use Rattle.block_machine.specs.Runners.{knowledge_of}
use Rattle.block_machine.specs.declared.end.End.TheVariants as ends
use Rattle.block_machine.specs.declared.message_runner.MessageRunner.{MessageRunner}
use Rattle.session_core.specs.declared.phase.Phase.{Phase}
use Rattle.session_core.specs.declared.stage.SessionStage.{SessionStage}
use Rattle.session_core.specs.declared.stage.SessionStage.TheVariants as stages
use Rattle.session_core.specs.declared.turns.Shortage.{Shortage}
use Rattle.session_core.specs.declared.turns.Shortage.TheVariants as shortages
use Rattle.session_core.specs.Requests.{Requests, asks, partial, faulty, unread, AreRequests}
use Rattle.session_core.specs.Told.{ending, owed_by, handled, session, waiting}
use Rattle.session_core.specs.Stands.{least, IsBusy, on}
use Rattle.session_core.specs.Steps.{LeadsTo, Enters, Skips, Meets, Steps}
use Rattle.session_core.proofs.Passes.{busy-last, least-busy, unless_short-passes, unless_short-over, unless_short-takes, unless_short-twice, IsFed-last}

-- a lack of memory where a message or bytes are wanted
pub session-short : (phase : Phase) (known : Knowledge) (requests : Requests) (said : Said) (es : List Entry) →
    session phase known requests said (short true (length said.bytes) ∷ es) ≡ ending (owed_by phase) ends.Memory said es
session-short phase known (asks a requests) said es =
    unless_short-takes true (ending (owed_by phase) ends.Memory) (handled a phase known (λ p k. session p k requests)) said es
session-short phase known (partial r) said es =
    unless_short-takes true (ending (owed_by phase) ends.Memory) (waiting phase (length r)) said es
session-short phase known (faulty f) said es =
    unless_short-takes true (ending (owed_by phase) ends.Memory) (ending (owed_by phase) (ends.Protocol f)) said es
session-short phase known unread said es = unless_short-takes true (ending (owed_by phase) ends.Memory) lost said es

-- what stands before a message that is passed over may stand after it
session-again : (phase : Phase) (known : Knowledge) (requests : Requests) (said : Said) (es : List Entry) →
    unless_short true (ending (owed_by phase) ends.Memory) (session phase known requests) said es ≡ session phase known requests said es
session-again phase known (asks a requests) said es =
    unless_short-twice true (ending (owed_by phase) ends.Memory) (handled a phase known (λ p k. session p k requests)) said es
session-again phase known (partial r) said es =
    unless_short-twice true (ending (owed_by phase) ends.Memory) (waiting phase (length r)) said es
session-again phase known (faulty f) said es =
    unless_short-twice true (ending (owed_by phase) ends.Memory) (ending (owed_by phase) (ends.Protocol f)) said es
session-again phase known unread said es = unless_short-twice true (ending (owed_by phase) ends.Memory) lost said es

pub Steps-partial : (phase : Phase) (r : MessageRunner) (before after : Held) → after ≡ before → IsPartial before.started before.rest →
    Steps phase r before (stages.Waiting phase) r None after
Steps-partial phase r before after is nothing = record {
  turns = λ requests. requests;
  heard = λ bytes requests fed h. subst (λ (x : Held). AreRequests x.started (x.rest ++ bytes) requests) is h;
  goes = λ startup requests said es from. refl;
  waits = λ other e. subst (λ (x : Held). IsPartial x.started x.rest) (sym is) nothing;
}

at_one : (stage : SessionStage) (n : ℕ) (es : List Entry) → IsBusy stage → IsFrom (least stage) n es → IsFrom 1 n es
at_one stage n es busy from = subst (λ (k : ℕ). IsFrom k n es) (least-busy stage busy) from

-- a message that comes off the front of what is held
taken_off : (before after : Held) (front : FrontendMessage) (bytes : List ℕ) → TakesFront before.started before.rest front after.rest →
    TakesFront before.started (before.rest ++ bytes) front (after.rest ++ bytes)
taken_off before after front bytes takes = record {
  taken = takes.taken;
  spelled = takes.spelled;
  whole = ap (λ x. x ++ bytes) takes.whole ∙ append_assoc takes.taken after.rest bytes;
}

Steps-entered : (phase : Phase) (r : MessageRunner) (before after : Held) (front : FrontendMessage) (stage : SessionStage) (next : MessageRunner) (out_of_memory : Option Shortage) →
    TakesFront before.started before.rest front after.rest →
    after.started ≡ phase_after before.started front → Enters front phase r stage next out_of_memory →
    Steps phase r before stage next out_of_memory after
Steps-entered phase r before after front stage next out_of_memory takes started enters = record {
  turns = asks enters.asked;
  heard = λ bytes requests fed h. (
    front,
    after.rest ++ bytes,
    taken_off before after front bytes takes,
    enters.says,
    subst (λ (b : Bool). AreRequests b (after.rest ++ bytes) requests) started h,
  );
  goes = λ startup requests said es from.
      unless_short-over out_of_memory (ending (owed_by phase) ends.Memory)
      (handled enters.asked phase (knowledge_of r) (on requests)) said es enters.passing
      (at_one stage (length said.bytes) es enters.busy from)
      ∙ enters.goes startup requests said es (at_one stage (length said.bytes) es enters.busy from);
  waits = λ other is. absurd (subst IsBusy is enters.busy);
}

Steps-skipped : (phase : Phase) (r : MessageRunner) (before after : Held) (front : FrontendMessage) →
    TakesFront before.started before.rest front after.rest →
    after.started ≡ phase_after before.started front → Skips front phase → Steps phase r before (stages.Taking phase) r None after
Steps-skipped phase r before after front takes started skips = record {
  turns = asks skips.asked;
  heard = λ bytes requests fed h. (
    front,
    after.rest ++ bytes,
    taken_off before after front bytes takes,
    skips.says,
    subst (λ (b : Bool). AreRequests b (after.rest ++ bytes) requests) started h,
  );
  goes = λ startup requests said es from.
      ap (λ (x : Script). unless_short true (ending (owed_by phase) ends.Memory) x said es)
      (skips.goes (knowledge_of r) (on requests))
      ∙ session-again phase (knowledge_of r) requests said es;
  waits = λ other is. absurd (cc is);
}

pub Steps-front : (phase : Phase) (r : MessageRunner) (before after : Held) (front : FrontendMessage) (stage : SessionStage) (next : MessageRunner)
    (out_of_memory : Option Shortage) → TakesFront before.started before.rest front after.rest →
    after.started ≡ phase_after before.started front → Meets front phase r stage next out_of_memory →
    Steps phase r before stage next out_of_memory after
Steps-front phase r before after front stage next out_of_memory takes started (inl enters) =
    Steps-entered phase r before after front stage next out_of_memory takes started enters
Steps-front phase r before after front stage next out_of_memory takes started (inr (skips, stage_is, next_is, out_of_memory_is)) =
    subst (λ (x : SessionStage). Steps phase r before x next out_of_memory after) (sym stage_is)
    (subst (λ (x : MessageRunner). Steps phase r before (stages.Taking phase) x out_of_memory after) (sym next_is)
    (subst (λ (x : Option Shortage). Steps phase r before (stages.Taking phase) r x after) (sym out_of_memory_is)
    (Steps-skipped phase r before after front takes started skips)))

pub Steps-faulty : (phase : Phase) (r : MessageRunner) (before after : Held) (fault : FrameFault) (stage : SessionStage) →
    after.started ≡ before.started → after.rest ≡ before.rest →
    HasFault before.started before.rest fault → LeadsTo stage (ending (owed_by phase) (ends.Protocol fault)) →
    Steps phase r before stage r None after
Steps-faulty phase r before after fault stage same_phase same_rest has leads = record {
  turns = λ requests. faulty fault;
  heard = λ bytes requests fed h.
      let nothing : bytes ≡ [] = IsFed-last stage bytes leads.0 fed in
      subst (λ (x : List ℕ). HasFault before.started (before.rest ++ x) fault) (sym nothing)
      (subst (λ (x : List ℕ). HasFault before.started x fault) (sym (append-nil before.rest)) has);
  goes = λ startup requests said es from.
      unless_short-passes true (ending (owed_by phase) ends.Memory) (ending (owed_by phase) (ends.Protocol fault)) said es
      (at_one stage (length said.bytes) es (busy-last stage leads.0) from)
      ∙ leads.1 r startup requests said es;
  waits = λ other is. absurd (subst IsBusy is (busy-last stage leads.0));
}

pub Steps-memory : (phase : Phase) (r : MessageRunner) (before after : Held) (stage : SessionStage) → after ≡ before →
    LeadsTo stage (ending (owed_by phase) ends.Memory) → Steps phase r before stage r (Some shortages.Ending) after
Steps-memory phase r before after stage is leads = record {
  turns = λ requests. requests;
  heard = λ bytes requests fed h. subst (λ (x : Held). AreRequests x.started (x.rest ++ bytes) requests) is h;
  goes = λ startup requests said es from. session-short phase (knowledge_of r) requests said es ∙ leads.1 r startup requests said es;
  waits = λ other e. absurd (subst IsBusy e (busy-last stage leads.0));
}

memory_or : (fault : FrameFault) → (fault ≡ frame_faults.Memory) ⊎ (fault ≢ frame_faults.Memory)
memory_or (frame_faults.BadLength len) = inr (λ e. cc e)
memory_or frame_faults.BadStartup = inr (λ e. cc e)
memory_or (frame_faults.TooLong len) = inr (λ e. cc e)
memory_or (frame_faults.UnknownType kind) = inr (λ e. cc e)
memory_or frame_faults.NoTerminator = inr (λ e. cc e)
memory_or frame_faults.Memory = inl refl

-- a fault of the stream, or a lack of memory in its reading
pub Steps-broken : (phase : Phase) (r : MessageRunner) (before after : Held) (fault : FrameFault) (stage : SessionStage) (w : Option Shortage) →
    (fault ≡ frame_faults.Memory → after ≡ before) →
    (fault ≢ frame_faults.Memory → (after ≡ record before { fault = Some fault }) × HasFault before.started before.rest fault) →
    (fault ≡ frame_faults.Memory → (w ≡ Some shortages.Ending) × LeadsTo stage (ending (owed_by phase) ends.Memory)) →
    (fault ≢ frame_faults.Memory → (w ≡ None) × LeadsTo stage (ending (owed_by phase) (ends.Protocol fault))) →
    Steps phase r before stage r w after
Steps-broken phase r before after fault stage w same faulted memory protocol =
    elim (memory_or fault) [
      | inl is ↦
          subst (λ (x : Option Shortage). Steps phase r before stage r x after) (sym (memory is).0)
          (Steps-memory phase r before after stage (same is) (memory is).1)
      | inr other ↦
          let (after_is, has) = faulted other in
          subst (λ (x : Option Shortage). Steps phase r before stage r x after) (sym (protocol other).0)
          (Steps-faulty phase r before after fault stage (ap (λ (x : Held). x.started) after_is) (ap (λ (x : Held). x.rest) after_is) has
          (protocol other).1)
    ]
