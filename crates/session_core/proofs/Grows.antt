-- What a session's calls leave stands for the lists grown by them.
use Rattle.std.proofs.Common.{◌≡◌, inl, inr, true, false, ℕ, ◌<◌, List, [], ◌∷◌, ◌++◌, length, refl, sym, ◌∙◌, ap, subst, append_assoc, arith, Option, None, length-append}
use Rattle.std.proofs.lemmas.List.{append-nil}
use Rattle.cell_base.specs.declared.level.Level.{Level}
use Rattle.history_core.specs.declared.event.Event.{Event}
use Rattle.sql_tree.specs.declared.statement.Statement.{Statement}
use Rattle.client_framing.specs.declared.frontend_message.FrameFault.{FrameFault}
use Rattle.client_framing.specs.declared.frontend_message.FrameFault.TheVariants.{BadLength, BadStartup, TooLong, UnknownType, NoTerminator, Memory}
use Rattle.client_framing.specs.Fronts.{Held, HasFault, IsPartial}
use Rattle.block_machine.specs.Calls.{Call}
use Rattle.block_machine.specs.Calls as calls
use Rattle.block_machine.specs.Script.{Entry, short, unsent, stop, Said, Next, more, call, ended, tell}
use Rattle.block_machine.specs.Knowledge.{Knowledge, at_start}
use Rattle.block_machine.specs.Messages.{Outside}
use Rattle.block_machine.specs.Stages.{IsFrom, entry_for}
use Rattle.block_machine.specs.Stages as message_stages
use Rattle.block_machine.specs.Runners.{follows, wanted, held, knowledge_of, stage_of, statements_of}
use Rattle.block_machine.specs.declared.call.Answer.{Answer}
use Rattle.block_machine.specs.declared.call.Answer.TheVariants as answers
use Rattle.block_machine.specs.declared.end.End.{End}
use Rattle.block_machine.specs.declared.end.End.TheVariants as ends
use Rattle.block_machine.specs.declared.end.Stop.{Stop}
use Rattle.block_machine.specs.declared.message_runner.MessageRunner.{MessageRunner}
use Rattle.block_machine.specs.declared.stage.MessageStage.{MessageStage}
use Rattle.block_machine.specs.declared.stage.MessageStage.TheVariants as message_stage
use Rattle.session_core.specs.declared.phase.Phase.{Phase}
use Rattle.session_core.specs.declared.phase.Phase.TheVariants as phases
use Rattle.session_core.specs.declared.stage.SessionStage.{SessionStage}
use Rattle.session_core.specs.declared.stage.SessionStage.TheVariants as stages
use Rattle.session_core.specs.declared.turns.Shortage.{Shortage}
use Rattle.session_core.specs.Wants.{of_message}
use Rattle.session_core.specs.Wants as wishes
use Rattle.session_core.specs.Requests.{Requests, partial, unread, AreRequests}
use Rattle.session_core.specs.Told.{ending, broken, owed_by, outside_of, stop_end, told}
use Rattle.session_core.specs.Stands.{on, goes_on, least, StandsFor, IsAwake, IsBusy, Shows, Tells, HasReply, wants, reply_of, after_reply, IsHolding, IsLast, owed_at, end_of, served_of}
use Rattle.session_core.specs.Steps.{LeadsTo, Feeds, Sends, Steps, Advances, with_out_of_memory}
use Rattle.session_core.proofs.Entering.{takes_some}
use Rattle.session_core.proofs.Passes.{busy-last, least-busy, unless_unsent-passes, unless_unsent-takes, with_out_of_memory-append, IsFrom-with_out_of_memory, IsFrom-read, IsFed-last, IsFed-nothing, IsFed-back}
use Rattle.session_core.proofs.Stepping.{session-short}

-- ---- what is shown

-- with nothing more to come
at_end : (stage : SessionStage) (r : MessageRunner) (startup : List ℕ) (held : Held) (taken : List ℕ) (es : List Entry) (asked : List Call)
    (sent : List ℕ) (requests : Requests) →
    (s : StandsFor stage r startup held taken es asked sent) → AreRequests held.started held.rest requests →
    AreRequests false taken (s.whole requests) × (told (served_of r) (s.whole requests) es ≡
    goes_on stage r startup requests (record { bytes = sent; calls = asked }) [])
at_end stage r startup held taken es asked sent requests s h = (
  subst (λ (x : List ℕ). AreRequests false x (s.whole requests)) (append-nil taken)
      (s.heard [] requests (IsFed-nothing stage) (subst (λ (x : List ℕ). AreRequests held.started x requests) (sym (append-nil held.rest)) h)),
  ap (told (served_of r) (s.whole requests)) (sym (append-nil es)) ∙ s.goes requests [] tt,
)

shown : (stage : SessionStage) (r : MessageRunner) (startup : List ℕ) (held : Held) (taken : List ℕ) (es : List Entry) (asked : List Call)
    (sent : List ℕ) (requests : Requests) (next : Next) →
    StandsFor stage r startup held taken es asked sent → AreRequests held.started held.rest requests →
    goes_on stage r startup requests (record { bytes = sent; calls = asked }) [] ≡ (record { bytes = sent; calls = asked }, next) →
    (t : Requests) × AreRequests false taken t × (told (served_of r) t es ≡ (record { bytes = sent; calls = asked }, next))
shown stage r startup held taken es asked sent requests next s h e =
    let (a, b) = at_end stage r startup held taken es asked sent requests s h in (s.whole requests, a, b ∙ e)

-- what a message that runs wants is asked by its script
abbrev pub IsAsked : MessageRunner → Type 0
IsAsked r = (c : Call) (outside : Outside) (said : Said) → wants stages.Running r ≡ wishes.Book c →
    follows r outside said [] ≡ (said, call c)

Shows-message : (r : MessageRunner) (w : calls.MessageWant) (startup : List ℕ) (held : Held) (taken : List ℕ) (es : List Entry) (asked : List Call)
    (sent : List ℕ) →
    ((c : Call) (outside : Outside) (said : Said) → of_message w ≡ wishes.Book c → follows r outside said [] ≡ (said, call c)) →
    StandsFor stages.Running r startup held taken es asked sent → Shows (served_of r) (of_message w) taken es asked sent
Shows-message r (calls.Book c) startup held taken es asked sent asks s =
    shown stages.Running r startup held taken es asked sent unread (call c) s tt
    (asks c (outside_of (on unread)) (record { bytes = sent; calls = asked }) refl)
Shows-message r calls.Send startup held taken es asked sent asks s = tt
Shows-message r calls.Nothing startup held taken es asked sent asks s = tt

pub Shows-stands : (stage : SessionStage) (r : MessageRunner) (startup : List ℕ) (held : Held) (taken : List ℕ) (es : List Entry) (asked : List Call)
    (sent : List ℕ) → (stage ≡ stages.Running → IsAsked r) →
    StandsFor stage r startup held taken es asked sent → Shows (served_of r) (wants stage r) taken es asked sent
Shows-stands (stages.Waiting phase) r startup held taken es asked sent asks s =
    shown (stages.Waiting phase) r startup held taken es asked sent (partial held.rest) more s (refl, s.waits phase refl) refl
Shows-stands (stages.Taking phase) r startup held taken es asked sent asks s = tt
Shows-stands stages.Opening r startup held taken es asked sent asks s = shown stages.Opening r startup held taken es asked sent unread
    (call calls.Open) s tt refl
Shows-stands stages.Running r startup held taken es asked sent asks s = Shows-message r (wanted r) startup held taken es asked sent
    (asks refl) s
Shows-stands stages.Undoing r startup held taken es asked sent asks s = shown stages.Undoing r startup held taken es asked sent unread
    (call calls.Rollback) s tt refl
Shows-stands (stages.Telling reply) r startup held taken es asked sent asks s = tt
Shows-stands (stages.Leaving f) r startup held taken es asked sent asks s = shown (stages.Leaving f) r startup held taken es asked sent
    unread (call calls.Rollback) s tt refl
Shows-stands (stages.Closing f) r startup held taken es asked sent asks s = shown (stages.Closing f) r startup held taken es asked sent
    unread (call calls.Close) s tt refl
Shows-stands (stages.Parting f) r startup held taken es asked sent asks s = tt
Shows-stands (stages.Ended f) r startup held taken es asked sent asks s = shown (stages.Ended f) r startup held taken es asked sent unread
    (ended (end_of f)) s tt refl

-- ---- a message is taken, a piece comes in

pub StandsFor-taken : (phase : Phase) (r next : MessageRunner) (startup : List ℕ) (before after : Held) (taken : List ℕ) (es : List Entry)
    (asked : List Call) (sent : List ℕ) (stage : SessionStage) (w : Option Shortage) →
    StandsFor (stages.Taking phase) r startup before taken es asked sent → Steps phase r before stage next w after →
    served_of next ≡ served_of r → HasReply stage next startup →
    StandsFor stage next startup after taken (es ++ with_out_of_memory w sent []) asked sent
StandsFor-taken phase r next startup before after taken es asked sent stage w s steps same some = record {
  whole = λ requests. s.whole (steps.turns requests);
  heard = λ bytes requests fed h. s.heard bytes (steps.turns requests) tt (steps.heard bytes requests fed h);
  goes = λ requests more_es from.
      ap (λ (l : Level). told l (s.whole (steps.turns requests)) ((es ++ with_out_of_memory w sent []) ++ more_es)) same
      ∙ ap (told (served_of r) (s.whole (steps.turns requests))) (append_assoc es (with_out_of_memory w sent []) more_es
      ∙ ap (λ x. es ++ x) (with_out_of_memory-append w sent more_es))
      ∙ s.goes (steps.turns requests) (with_out_of_memory w sent more_es) (IsFrom-with_out_of_memory w sent (least stage) more_es from)
      ∙ steps.goes startup requests (record { bytes = sent; calls = asked }) more_es from;
  waits = steps.waits;
  some = some;
}

StandsFor-fed : (phase : Phase) (r : MessageRunner) (startup : List ℕ) (held : Held) (piece taken : List ℕ) (es : List Entry) (asked : List Call)
    (sent : List ℕ) →
    StandsFor (stages.Waiting phase) r startup held taken es asked sent →
    StandsFor (stages.Taking phase) r startup (record held { rest = held.rest ++ piece }) (taken ++ piece) (es ++ []) asked sent
StandsFor-fed phase r startup held piece taken es asked sent s = record {
  whole = s.whole;
  heard = λ bytes requests fed h. subst (λ (x : List ℕ). AreRequests false x (s.whole requests)) (sym (append_assoc taken piece bytes))
      (s.heard (piece ++ bytes) requests tt (subst (λ (x : List ℕ). AreRequests held.started x requests) (append_assoc held.rest piece bytes) h));
  goes = λ requests more_es from. ap (λ (x : List Entry). told (served_of r) (s.whole requests) (x ++ more_es)) (append-nil es)
      ∙ s.goes requests more_es from;
  waits = λ other is. absurd (cc is);
  some = λ h. absurd h;
}

-- the feeding itself met lack of memory
StandsFor-no_memory : (phase : Phase) (r : MessageRunner) (startup : List ℕ) (held : Held) (piece taken : List ℕ) (es : List Entry)
    (asked : List Call) (sent : List ℕ) (stage : SessionStage) →
    StandsFor (stages.Waiting phase) r startup held taken es asked sent → HasReply stage r startup →
    LeadsTo stage (ending (owed_by phase) ends.Memory) →
    StandsFor stage r startup held (taken ++ piece) (es ++ short true (length sent) ∷ []) asked sent
StandsFor-no_memory phase r startup held piece taken es asked sent stage s some leads = record {
  whole = λ requests. s.whole unread;
  heard = λ bytes requests fed h. subst (λ (x : List ℕ). AreRequests false x (s.whole unread)) (sym (append_assoc taken piece bytes))
      (s.heard (piece ++ bytes) unread tt tt);
  goes = λ requests more_es from.
      ap (told (served_of r) (s.whole unread)) (append_assoc es (short true (length sent) ∷ []) more_es)
      ∙ s.goes unread (short true (length sent) ∷ more_es) (omega arith)
      ∙ session-short phase (knowledge_of r) unread (record { bytes = sent; calls = asked }) more_es
      ∙ leads.1 r startup requests (record { bytes = sent; calls = asked }) more_es;
  waits = λ other is. absurd (subst IsBusy is (busy-last stage leads.0));
  some = some;
}

-- a piece that came in
pub StandsFor-piece : (phase : Phase) (r : MessageRunner) (startup : List ℕ) (held after : Held) (piece taken : List ℕ) (es : List Entry)
    (asked : List Call) (sent : List ℕ) (stage : SessionStage) (w : Option Shortage) →
    Feeds phase piece held stage w after → StandsFor (stages.Waiting phase) r startup held taken es asked sent →
    HasReply stage r startup →
    StandsFor stage r startup after (taken ++ piece) (es ++ with_out_of_memory w sent []) asked sent
StandsFor-piece phase r startup held after piece taken es asked sent stage w (inl (same, none, taking)) s some =
    subst (λ (x : Held). StandsFor stage r startup x (taken ++ piece) (es ++ with_out_of_memory w sent []) asked sent) (sym same)
    (subst (λ (v : Option Shortage). StandsFor stage r startup (record held { rest = held.rest ++ piece }) (taken ++ piece)
    (es ++ with_out_of_memory v sent []) asked sent) (sym none)
    (subst (λ (x : SessionStage). StandsFor x r startup (record held { rest = held.rest ++ piece }) (taken ++ piece) (es ++ []) asked sent)
    (sym taking)
    (StandsFor-fed phase r startup held piece taken es asked sent s)))
StandsFor-piece phase r startup held after piece taken es asked sent stage w (inr (same, is, leads)) s some =
    subst (λ (x : Held). StandsFor stage r startup x (taken ++ piece) (es ++ with_out_of_memory w sent []) asked sent) (sym same)
    (subst (λ (v : Option Shortage). StandsFor stage r startup held (taken ++ piece) (es ++ with_out_of_memory v sent []) asked sent) (sym is)
    (StandsFor-no_memory phase r startup held piece taken es asked sent stage s some leads))

-- ---- an answer

pub IsFrom-entry : (l n : ℕ) (a : Answer) (e : Event) (es : List Entry) → IsFrom l n (entry_for a e ∷ es)
IsFrom-entry l n (answers.Refused why) e es = tt
IsFrom-entry l n _ e es = tt

pub StandsFor-answered : (stage next : SessionStage) (r after : MessageRunner) (startup now_startup : List ℕ) (held : Held) (taken : List ℕ)
    (es : List Entry) (asked : List Call) (sent : List ℕ) (c : Call) (a : Answer) (e : Event) (w : Option Shortage) →
    StandsFor stage r startup held taken es asked sent → Advances stage r a next after w now_startup → wants stage r ≡ wishes.Book c →
    served_of after ≡ served_of r → HasReply next after now_startup →
    StandsFor next after now_startup held taken ((es ++ entry_for a e ∷ []) ++ with_out_of_memory w sent []) (asked ++ c ∷ []) sent
StandsFor-answered stage next r after startup now_startup held taken es asked sent c a e w s adv wants_c same some = record {
  whole = s.whole;
  heard = λ bytes requests fed h. s.heard bytes requests (IsFed-back stage next bytes adv.last fed) h;
  goes = λ requests more_es from.
      ap (λ (l : Level). told l (s.whole requests) (((es ++ entry_for a e ∷ []) ++ with_out_of_memory w sent []) ++ more_es)) same
      ∙ ap (told (served_of r) (s.whole requests)) (append_assoc (es ++ entry_for a e ∷ []) (with_out_of_memory w sent []) more_es
      ∙ append_assoc es (entry_for a e ∷ []) (with_out_of_memory w sent [] ++ more_es)
      ∙ ap (λ x. es ++ entry_for a e ∷ x) (with_out_of_memory-append w sent more_es))
      ∙ s.goes requests (entry_for a e ∷ with_out_of_memory w sent more_es)
      (IsFrom-entry (least stage) (length sent) a e (with_out_of_memory w sent more_es))
      ∙ adv.goes c startup requests (record { bytes = sent; calls = asked }) more_es e wants_c
      (subst (λ (n : ℕ). IsFrom n (length sent) more_es) (least-busy next adv.busy) from);
  waits = λ other is. absurd (subst IsBusy is adv.busy);
  some = some;
}

-- ---- replies

-- a reply that a message holds is what its script tells next
message_tells : (stage : MessageStage) (built : List ℕ) (known : Knowledge) (rest : List Statement) (outside : Outside) (said : Said)
    (es : List Entry) → message_stages.IsHolding stage →
    message_stages.goes_on stage built known rest outside said es
    ≡ tell (message_stages.reply_of built stage) (outside.broken (message_stages.owed_at stage))
    (message_stages.after_reply stage known rest outside) said es
message_tells (message_stage.Telling reply block) built known rest outside said es h = refl
message_tells (message_stage.Failing code state) built known rest outside said es h = refl
message_tells (message_stage.Readying state) built known rest outside said es h = refl
message_tells _ built known rest outside said es h = absurd h

-- a reply that is held is what the script tells next
holding_tells : (stage : SessionStage) (r : MessageRunner) (startup : List ℕ) (requests : Requests) (said : Said) (es : List Entry) → IsHolding stage r →
    goes_on stage r startup requests said es ≡ tell (reply_of stage r startup) (broken (owed_at stage r)) (after_reply stage r requests) said es
holding_tells stages.Running r startup requests said es h = message_tells (stage_of r) r.runner.built.items (knowledge_of r) (statements_of r)
    (outside_of (on requests)) said es h
holding_tells (stages.Telling reply) r startup requests said es h = refl
holding_tells (stages.Parting fatal) r startup requests said es h = refl
holding_tells _ r startup requests said es h = absurd h

least_holding : (stage : SessionStage) (r : MessageRunner) → IsHolding stage r → least stage ≡ 1
least_holding stages.Running r h = refl
least_holding (stages.Telling reply) r h = refl
least_holding (stages.Parting fatal) r h = refl
least_holding _ r h = absurd h

from_holding : (stage : SessionStage) (r : MessageRunner) (sent : List ℕ) (es : List Entry) → IsHolding stage r → IsFrom 1 (length sent) es →
    IsFrom (least stage) (length sent) es
from_holding stage r sent es h from = subst (λ (n : ℕ). IsFrom n (length sent) es) (sym (least_holding stage r h)) from

-- a reply that is held is told
pub Tells-stands : (stage : SessionStage) (r : MessageRunner) (startup : List ℕ) (held : Held) (taken : List ℕ) (es : List Entry) (asked : List Call)
    (sent reply : List ℕ) →
    StandsFor stage r startup held taken es asked sent → IsHolding stage r → reply ≡ reply_of stage r startup →
    Tells (served_of r) (owed_at stage r) reply taken es asked sent
Tells-stands stage r startup held taken es asked sent reply s holds is =
    let at : Said = record { bytes = sent; calls = asked } in
    let now : Said = record { bytes = sent ++ reply_of stage r startup; calls = asked } in
    let (heard, same) = at_end stage r startup held taken es asked sent unread s tt in (
      s.whole unread,
      heard,
      s.goes unread (unsent (length sent) ∷ []) (omega arith)
          ∙ holding_tells stage r startup unread at (unsent (length sent) ∷ []) holds
          ∙ unless_unsent-takes (length sent) (broken (owed_at stage r)) (after_reply stage r unread) now []
          ∙ ap (λ (x : List ℕ). broken (owed_at stage r) (record { bytes = sent ++ x; calls = asked }) []) (sym is),
    )

-- a reply that was sent
pub StandsFor-sent : (stage next : SessionStage) (r after : MessageRunner) (startup : List ℕ) (held : Held) (taken : List ℕ) (es : List Entry)
    (asked : List Call) (sent : List ℕ) (w : Option Shortage) →
    Sends stage r next after w → IsHolding stage r → (IsLast stage → IsLast next) → IsAwake next → served_of after ≡ served_of r →
    HasReply next after startup →
    StandsFor stage r startup held taken es asked sent →
    StandsFor next after startup held taken (es ++ with_out_of_memory w (sent ++ reply_of stage r startup) []) asked
    (sent ++ reply_of stage r startup)
StandsFor-sent stage next r after startup held taken es asked sent w sends holds last awake same some s =
    let reply : List ℕ = reply_of stage r startup in
    let now : List ℕ = sent ++ reply in
    let said : Said = record { bytes = now; calls = asked } in
    let longer : length sent < length now = omega (arith, s.some holds, length-append sent reply) in record {
      whole = s.whole;
      heard = λ bytes requests fed h. s.heard bytes requests (IsFed-back stage next bytes last fed) h;
      goes = λ requests more_es from.
          ap (λ (l : Level). told l (s.whole requests) ((es ++ with_out_of_memory w now []) ++ more_es)) same
          ∙ ap (told (served_of r) (s.whole requests)) (append_assoc es (with_out_of_memory w now []) more_es
          ∙ ap (λ x. es ++ x) (with_out_of_memory-append w now more_es))
          ∙ s.goes requests (with_out_of_memory w now more_es)
          (from_holding stage r sent (with_out_of_memory w now more_es) holds (IsFrom-read w sent reply (least next) more_es (s.some holds) from))
          ∙ holding_tells stage r startup requests (record { bytes = sent; calls = asked }) (with_out_of_memory w now more_es) holds
          ∙ unless_unsent-passes (length sent) (broken (owed_at stage r)) (after_reply stage r requests) said 0
          (with_out_of_memory w now more_es) longer (IsFrom-with_out_of_memory w now (least next) more_es from)
          ∙ sends startup requests said more_es from;
      waits = λ other is. absurd (subst IsAwake is awake);
      some = some;
    }

-- a reply that was not sent whole
pub StandsFor-unsent : (stage next : SessionStage) (r : MessageRunner) (startup : List ℕ) (held : Held) (taken : List ℕ) (es : List Entry)
    (asked : List Call) (sent : List ℕ) →
    StandsFor stage r startup held taken es asked sent → IsHolding stage r → LeadsTo next (broken (owed_at stage r)) →
    HasReply next r startup →
    StandsFor next r startup held taken (es ++ unsent (length sent) ∷ []) asked
    (sent ++ reply_of stage r startup)
StandsFor-unsent stage next r startup held taken es asked sent s holds leads some =
    let reply : List ℕ = reply_of stage r startup in
    let now : List ℕ = sent ++ reply in
    let said : Said = record { bytes = now; calls = asked } in record {
      whole = s.whole;
      heard = λ bytes requests fed h. s.heard bytes requests (IsFed-back stage next bytes (λ l. leads.0) fed) h;
      goes = λ requests more_es from.
          ap (told (served_of r) (s.whole requests)) (append_assoc es (unsent (length sent) ∷ []) more_es)
          ∙ s.goes requests (unsent (length sent) ∷ more_es) (omega arith)
          ∙ holding_tells stage r startup requests (record { bytes = sent; calls = asked }) (unsent (length sent) ∷ more_es) holds
          ∙ unless_unsent-takes (length sent) (broken (owed_at stage r)) (after_reply stage r requests) said more_es
          ∙ leads.1 r startup requests said more_es;
      waits = λ other is. absurd (subst IsBusy is (busy-last next leads.0));
      some = some;
    }

-- ---- the end of the input

pub StandsFor-stopped : (phase : Phase) (r : MessageRunner) (startup : List ℕ) (held : Held) (taken : List ℕ) (es : List Entry)
    (asked : List Call) (sent : List ℕ) (stage : SessionStage) (cause : Stop) (end : End) →
    StandsFor (stages.Waiting phase) r startup held taken es asked sent → LeadsTo stage (ending (owed_by phase) end) →
    HasReply stage r startup →
    stop_end cause (length held.rest) ≡ end → StandsFor stage r startup held taken (es ++ stop cause ∷ []) asked sent
StandsFor-stopped phase r startup held taken es asked sent stage cause end s leads some right = record {
  whole = λ requests. s.whole (partial held.rest);
  heard = λ bytes requests fed h.
      let nothing : bytes ≡ [] = IsFed-last stage bytes leads.0 fed in
      subst (λ (x : List ℕ). AreRequests false (taken ++ x) (s.whole (partial held.rest))) (sym nothing)
      (s.heard [] (partial held.rest) tt (subst (λ (x : List ℕ). AreRequests held.started x (partial held.rest)) (sym (append-nil held.rest))
      (refl, s.waits phase refl)));
  goes = λ requests more_es from.
      ap (told (served_of r) (s.whole (partial held.rest))) (append_assoc es (stop cause ∷ []) more_es)
      ∙ s.goes (partial held.rest) (stop cause ∷ more_es) tt
      ∙ ap (λ x. ending (owed_by phase) x (record { bytes = sent; calls = asked }) more_es) right
      ∙ leads.1 r startup requests (record { bytes = sent; calls = asked }) more_es;
  waits = λ other is. absurd (subst IsBusy is (busy-last stage leads.0));
  some = some;
}

-- ---- the beginning

no_fault : (fault : FrameFault) → HasFault false [] fault → ⊥
no_fault (BadLength len) h = omega (arith, h.0)
no_fault (TooLong len) h = omega (arith, h.0)
no_fault BadStartup h = omega (arith, h.0.held)
no_fault (UnknownType kind) h = h
no_fault NoTerminator h = h
no_fault Memory h = h

-- nothing stands in no bytes
nothing_waits : IsPartial false []
nothing_waits = record {
  no_front = λ front rest takes. omega (arith, takes_some false [] front rest takes);
  no_fault = λ fault has. no_fault fault has;
}

pub StandsFor-new : (level : Level) (r : MessageRunner) (startup : List ℕ) → knowledge_of r ≡ at_start level →
    StandsFor (stages.Waiting phases.Startup) r startup (record { started = false; rest = []; fault = None }) [] [] [] []
unfolding told
StandsFor-new level r startup is = record {
  whole = λ requests. requests;
  heard = λ bytes requests fed h. h;
  goes = λ requests es from. ap (λ (known : Knowledge). on requests phases.Startup known (record { bytes = []; calls = [] }) es)
      (ap (λ (k : Knowledge). at_start k.served) is ∙ sym is);
  waits = λ other waiting. nothing_waits;
  some = λ h. absurd h;
}
