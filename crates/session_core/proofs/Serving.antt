-- A run over a link goes on.
use Rattle.std.proofs.Common.{Contains, ◌≡◌, inl, inr, ◌↔◌, IfSome, true, false, ℕ, ◌+◌, ◌<◌, ◌≤◌, List, [], ◌∷◌, ◌++◌, length, take, refl, sym, ◌∙◌, ap, subst, arith, Option, Some, None, length-append, append_assoc}
use Rattle.std.proofs.lemmas.List.{append-nil}
use Rattle.std.proofs.lemmas.List.Elements.{Contains-append_left, Contains-push}
use Rattle.std.proofs.lemmas.Grind.{common_steps}
use Rattle.cell_base.specs.declared.level.Level.{Level}
use Rattle.link_traits.specs.Faults.{Rose}
use Rattle.link_traits.specs.Traffic.{Traffic, Took, Wrote, Both, Sight}
use Rattle.history_core.specs.declared.event.Event.{Event}
use Rattle.history_book.specs.Book.{Past, SessionState, no_session, in_session, pending}
use Rattle.block_machine.specs.Calls.{Call}
use Rattle.block_machine.specs.Calls as calls
use Rattle.block_machine.specs.Script.{Entry, ended, short, unsent, stop, more, has_short}
use Rattle.block_machine.specs.Stages.{entry_for, running_at}
use Rattle.block_machine.specs.Runners.{stage_of, tables_of, wanted}
use Rattle.block_machine.specs.declared.block.Owed.TheVariants as owes
use Rattle.block_machine.specs.declared.call.Answer.{Answer}
use Rattle.block_machine.specs.declared.end.End.{End}
use Rattle.block_machine.specs.declared.end.End.TheVariants as ends
use Rattle.block_machine.specs.declared.end.Stop.{Stop}
use Rattle.block_machine.specs.declared.end.Stop.TheVariants as stops
use Rattle.block_machine.specs.declared.message_runner.MessageRunner.{MessageRunner}
use Rattle.block_machine.specs.declared.stage.MessageStage.{MessageStage}
use Rattle.block_machine.specs.declared.stage.MessageStage.TheVariants as message_stages
use Rattle.session_core.specs.declared.phase.Phase.{Phase}
use Rattle.session_core.specs.declared.phase.Phase.TheVariants as phases
use Rattle.session_core.specs.declared.stage.Finish.{Finish}
use Rattle.session_core.specs.declared.stage.SessionStage.{SessionStage}
use Rattle.session_core.specs.declared.stage.SessionStage.TheVariants as stages
use Rattle.session_core.specs.declared.session.Session.{Session}
use Rattle.session_core.specs.Wants.{Want, of_message, IsResting, IsOver}
use Rattle.session_core.specs.Wants as wishes
use Rattle.session_core.specs.Requests.{Requests, AreRequests, unread}
use Rattle.session_core.specs.Told.{told, opened_in}
use Rattle.session_core.specs.Sessions.{Stands, StandsShort}
use Rattle.session_core.specs.Plays.{owed_of}
use Rattle.session_core.specs.Ends.{LacksBy, outer_end}
use Rattle.session_core.specs.Stands.{IsFit, Lacks, served_of, owed_at, IsStopped, outer, end_of, wants, IsHolding, Shows, IsLast, statement_at}
use Rattle.session_core.specs.declared.served.Served.{Served}
use Rattle.session_core.specs.Serve.{Scene, scene_of, Account, IsOfLast, Carries, IsAtEnd, Blames, Serves, most_read, most_at_once}
use Rattle.session_core.specs.Running.{IsAnswered, MakesCall, Ran, Sits, SitsWhileOthersGoOn}
use Rattle.session_core.proofs.Grows.{IsAsked, Shows-stands}
use Rattle.session_core.proofs.ValidRecords.{IsValidRecord-append, IsValidRecord-plays, IsValidRecord-short, IsValidRecord-quiet, own_events}
use Rattle.session_core.proofs.Carrying.{Carries-record, Carries-wrote, Carries-took, Both-then, Both-weaker, Blames-same, Blames-none, Blames-wrote}

-- ---- what a want says of the stage

message_rests : (w : calls.MessageWant) → (of_message w ≡ wishes.Bytes → ⊥) × ((end : End) → of_message w ≡ wishes.Ended end → ⊥) ×
    (of_message w ≡ wishes.Message → ⊥)
message_rests (calls.Book c) = ((λ e. cc e), (λ end e. cc e), (λ e. cc e))
message_rests calls.Send = ((λ e. cc e), (λ end e. cc e), (λ e. cc e))
message_rests calls.Nothing = ((λ e. cc e), (λ end e. cc e), (λ e. cc e))

pub stage_waiting : (stage : SessionStage) (r : MessageRunner) → wants stage r ≡ wishes.Bytes → (phase : Phase) × (stage ≡ stages.Waiting phase)
stage_waiting (stages.Waiting phase) r w = (phase, refl)
stage_waiting stages.Running r w = absurd ((message_rests (wanted r)).0 w)
stage_waiting _ r w = absurd (cc w)

pub stage_taking : (stage : SessionStage) (r : MessageRunner) → wants stage r ≡ wishes.Message → (phase : Phase) × (stage ≡ stages.Taking phase)
stage_taking (stages.Taking phase) r w = (phase, refl)
stage_taking stages.Running r w = absurd ((message_rests (wanted r)).2 w)
stage_taking _ r w = absurd (cc w)

stage_over : (stage : SessionStage) (r : MessageRunner) (end : End) → wants stage r ≡ wishes.Ended end → (finish : Finish) ×
    (stage ≡ stages.Ended finish) × (end_of finish ≡ end)
stage_over (stages.Ended finish) r end w = (finish, refl, cc w)
stage_over stages.Running r end w = absurd ((message_rests (wanted r)).1 end w)
stage_over _ r end w = absurd (cc w)

-- where a reply is held, or bytes or a message are wanted, nothing is lost yet
pub Lacks-holding : (stage : SessionStage) (r : MessageRunner) (lost : List ℕ) → IsHolding stage r → Lacks stage lost → lost ≡ []
Lacks-holding (stages.Parting x) r lost w l = l
Lacks-holding (stages.Telling reply) r lost w l = l
Lacks-holding stages.Running r lost w l = l
Lacks-holding _ r lost w l = absurd w

Lacks-bytes : (stage : SessionStage) (r : MessageRunner) (lost : List ℕ) → wants stage r ≡ wishes.Bytes → Lacks stage lost → lost ≡ []
Lacks-bytes stage r lost w l = let (phase, is) = stage_waiting stage r w in subst (λ (x : SessionStage). Lacks x lost) is l

Lacks-taking : (stage : SessionStage) (r : MessageRunner) (lost : List ℕ) → wants stage r ≡ wishes.Message → Lacks stage lost → lost ≡ []
Lacks-taking stage r lost w l = let (phase, is) = stage_taking stage r w in subst (λ (x : SessionStage). Lacks x lost) is l

shows_more : (s : Session) (level : Level) (taken : List ℕ) (es : List Entry) (asked : List Call) (sent : List ℕ) →
    served_of s.runner ≡ level → wants s.stage s.runner ≡ wishes.Bytes → Stands s taken es asked sent →
    (requests : Requests) × AreRequests false taken requests × (told level requests es ≡ (record { bytes = sent; calls = asked }, more))
shows_more s level taken es asked sent served w st =
    let (phase, is) = stage_waiting s.stage s.runner w in
    let not_running : s.stage ≡ stages.Running →
    IsAsked s.runner = λ e. absurd (let clash : stages.Waiting phase ≡ stages.Running = sym is ∙ e in cc clash) in
    subst (λ (l : Level). Shows l wishes.Bytes taken es asked sent) served
    (subst (λ (x : Want). Shows (served_of s.runner) x taken es asked sent) w
    (Shows-stands s.stage s.runner s.startup.items s.frames taken es asked sent not_running st.stage))

-- ---- the call that a session wants

-- the call that was made, with the answer that the session then took
pub makes_call : {W : Type 0} (gives : W → ℕ → W → Type 0) (s r : Session) (p : Past) (v : W) (answer : Answer) (q : Past) (w : W) →
    IsAnswered gives s p v answer q w →
    ((taken : List ℕ) (es : List Entry) (asked : List Call) (sent : List ℕ) (c : Call) (e : Event) → Stands s taken es asked sent →
    wants s.stage s.runner ≡ wishes.Book c → StandsShort r taken (es ++ entry_for answer e ∷ []) (asked ++ c ∷ []) sent) →
    MakesCall gives s p v r q w
makes_call gives s r p v answer q w a grown = record {
  call = a.call;
  entry = entry_for answer a.event;
  wanted_is = a.wanted_is;
  valid = IsValidRecord-plays gives p v [] [] p v a.call answer a.event q w (refl, refl) a.plays a.state;
  grown = λ taken es asked sent st. grown taken es asked sent a.call a.event st a.wanted_is;
}

-- at most one statement runs
message_runs : (stage : MessageStage) → running_at stage ≤ 1
message_runs (message_stages.Running run p) = omega arith
message_runs _ = omega arith

pub one_at_most : (stage : SessionStage) (r : MessageRunner) → statement_at stage r ≤ 1
one_at_most stages.Running r = message_runs (stage_of r)
one_at_most _ r = omega arith

-- ---- one step more

-- what is lost stays a part of the last reply where the record goes on
pub last_more : (old new : Account) (b : List Entry) → new.entries ≡ old.entries ++ b → new.sent ≡ old.sent → new.lost ≡ old.lost →
    IsOfLast old → IsOfLast new
last_more old new b entries sent lost (inl none) = inl (lost ∙ none)
last_more old new b entries sent lost (inr (n, has, le)) = inr (
  n,
  subst (λ (x : List Entry). Contains x (unsent n)) (sym entries) (Contains-append_left old.entries b (unsent n) has),
  omega (arith, le, ap length sent, ap length lost),
)

-- a call of the book; a lack of memory of the session may stand after it
pub Ran-called : {W : Type 0} (gives : W → ℕ → W → Type 0) (level : Level) (before : Scene W) (s r : Session) (q q' : Past) (w w' : W)
    (g : Sight) (many : ℕ) → MakesCall gives s q w r q' w' → served_of r.runner ≡ served_of s.runner → outer r.stage ≡ outer s.stage →
    ((lost : List ℕ) → Lacks s.stage lost → Lacks r.stage lost) → Ran gives level before s (scene_of q w g) many →
    Ran gives level before r (scene_of q' w' g) many
Ran-called gives level before s r q q' w w' g many makes same outer_is lacks ran =
    let (old, many_is, run) = ran in
    let (added, is_short, stands) = makes.grown old.taken old.entries old.calls old.sent run.stands in
    let new : Account = record old {
      calls = old.calls ++ makes.call ∷ [];
      entries = (old.entries ++ makes.entry ∷ []) ++ added;
    } in
    let more : (old.entries ++ makes.entry ∷ []) ++ added ≡ old.entries ++ makes.entry ∷ added =
    append_assoc old.entries (makes.entry ∷ []) added in (
      new,
      many_is,
      record {
        stands = stands;
        served_level = same ∙ run.served_level;
        valid = IsValidRecord-short gives before.past before.words (old.calls ++ makes.call ∷ []) (old.entries ++ makes.entry ∷ []) q' w'
            old.sent added is_short
            (IsValidRecord-append gives before.past before.words old.calls old.entries q w (makes.call ∷ []) (makes.entry ∷ []) q' w'
            run.valid makes.valid);
        carries = Both-weaker before.link.traffic g.traffic
            (λ x y k. Carries-record level old new (makes.entry ∷ added) x y refl refl refl more k) run.carries;
        lacks = lacks old.lost run.lacks;
        last = last_more old new (makes.entry ∷ added) more refl refl run.last;
        blames = Blames-same (outer s.stage) (outer r.stage) before.link g old.taken outer_is run.blames;
        reads = run.reads;
        writes = run.writes;
      },
    )

-- a message was looked at
pub Ran-taken : {W : Type 0} (gives : W → ℕ → W → Type 0) (level : Level) (before : Scene W) (s r : Session) (q : Past) (w : W)
    (g : Sight) (many : ℕ) →
    ((taken : List ℕ) (es : List Entry) (asked : List Call) (sent : List ℕ) → Stands s taken es asked sent →
    StandsShort r taken es asked sent) →
    wants s.stage s.runner ≡ wishes.Message → served_of r.runner ≡ served_of s.runner → outer r.stage ≡ None → Lacks r.stage [] →
    Ran gives level before s (scene_of q w g) many → Ran gives level before r (scene_of q w g) many
Ran-taken gives level before s r q w g many grown taking same outer_is lacks ran =
    let (old, many_is, run) = ran in
    let (added, is_short, stands) = grown old.taken old.entries old.calls old.sent run.stands in
    let none_lost : old.lost ≡ [] = Lacks-taking s.stage s.runner old.lost taking run.lacks in
    let new : Account = record old { entries = old.entries ++ added } in (
      new,
      many_is,
      record {
        stands = stands;
        served_level = same ∙ run.served_level;
        valid = IsValidRecord-short gives before.past before.words old.calls old.entries q w old.sent added is_short run.valid;
        carries = Both-weaker before.link.traffic g.traffic
            (λ x y k. Carries-record level old new added x y refl refl refl refl k) run.carries;
        lacks = subst (λ (o : List ℕ). Lacks r.stage o) (sym none_lost) lacks;
        last = inl none_lost;
        blames = Blames-none (outer r.stage) before.link g old.taken outer_is;
        reads = run.reads;
        writes = run.writes;
      },
    )

-- a reply was sent
pub Ran-sent : {W : Type 0} (gives : W → ℕ → W → Type 0) (level : Level) (before : Scene W) (s r : Session) (q : Past) (w : W)
    (g h : Sight) (many : ℕ) (reply : List ℕ) →
    ((taken : List ℕ) (es : List Entry) (asked : List Call) (sent : List ℕ) → Stands s taken es asked sent →
    StandsShort r taken es asked (sent ++ reply)) →
    IsHolding s.stage s.runner → served_of r.runner ≡ served_of s.runner → outer r.stage ≡ outer s.stage → Lacks r.stage [] →
    Both (Wrote reply) g.traffic h.traffic → h.read_faults ≡ g.read_faults → g.write_faults ≤ h.write_faults →
    Ran gives level before s (scene_of q w g) many → Ran gives level before r (scene_of q w h) many
Ran-sent gives level before s r q w g h many reply grown holds same outer_is lacks wrote same_reads more_writes ran =
    let (old, many_is, run) = ran in
    let (added, is_short, stands) = grown old.taken old.entries old.calls old.sent run.stands in
    let none_lost : old.lost ≡ [] = Lacks-holding s.stage s.runner old.lost holds run.lacks in
    let new : Account = record old { entries = old.entries ++ added; sent = old.sent ++ reply; lost = [] } in (
      new,
      many_is,
      record {
        stands = stands;
        served_level = same ∙ run.served_level;
        valid = IsValidRecord-short gives before.past before.words old.calls old.entries q w (old.sent ++ reply) added is_short run.valid;
        carries = Both-then before.link.traffic g.traffic h.traffic
            (λ x y z k l. Carries-wrote level old new added reply reply x y z refl refl refl none_lost (sym (append-nil reply)) k l)
            run.carries wrote;
        lacks = lacks;
        last = inl refl;
        blames = Blames-wrote (outer r.stage) before.link g h old.taken reply wrote same_reads more_writes
            (Blames-same (outer s.stage) (outer r.stage) before.link g old.taken outer_is run.blames);
        reads = omega (arith, run.reads, same_reads);
        writes = omega (arith, run.writes, more_writes);
      },
    )

-- a reply was not sent whole
pub Ran-unsent : {W : Type 0} (gives : W → ℕ → W → Type 0) (level : Level) (before : Scene W) (s r : Session) (q : Past) (w : W)
    (g h : Sight) (many : ℕ) (reply part lost : List ℕ) →
    ((taken : List ℕ) (es : List Entry) (asked : List Call) (sent : List ℕ) → Stands s taken es asked sent →
    Stands r taken (es ++ unsent (length sent) ∷ []) asked (sent ++ reply)) →
    IsHolding s.stage s.runner → served_of r.runner ≡ served_of s.runner → outer r.stage ≡ Some ends.WriteFault →
    ((l : List ℕ) → Lacks r.stage l) →
    reply ≡ part ++ lost → Both (Wrote part) g.traffic h.traffic → h.read_faults ≡ g.read_faults → Rose g.write_faults h.write_faults →
    g.write_faults ≤ h.write_faults →
    Ran gives level before s (scene_of q w g) many → Ran gives level before r (scene_of q w h) many
Ran-unsent gives level before s r q w g h many reply part lost grown holds same outer_is lacks reply_is wrote same_reads rose more_writes
    ran =
    let (old, many_is, run) = ran in
    let none_lost : old.lost ≡ [] = Lacks-holding s.stage s.runner old.lost holds run.lacks in
    let failed : List Entry = unsent (length old.sent) ∷ [] in
    let new : Account = record old { entries = old.entries ++ failed; sent = old.sent ++ reply; lost = lost } in (
      new,
      many_is,
      record {
        stands = grown old.taken old.entries old.calls old.sent run.stands;
        served_level = same ∙ run.served_level;
        valid = IsValidRecord-quiet gives before.past before.words old.calls old.entries q w (unsent (length old.sent)) tt run.valid;
        carries = Both-then before.link.traffic g.traffic h.traffic
            (λ x y z k l. Carries-wrote level old new failed reply part x y z refl refl refl none_lost reply_is k l) run.carries wrote;
        lacks = lacks lost;
        last = inr (
          length old.sent,
          Contains-push old.entries (unsent (length old.sent)),
          omega (arith, ap length reply_is, length-append part lost, length-append old.sent reply),
        );
        blames = subst (λ (z : Option End). Blames z before.link h old.taken) (sym outer_is) (omega (arith, run.writes, rose));
        reads = omega (arith, run.reads, same_reads);
        writes = omega (arith, run.writes, more_writes);
      },
    )

-- ---- a read, or none

-- why a stop came
abbrev pub IsCause : Stop → Sight → Sight → List ℕ → Type 0
IsCause stops.EndOfInput f g taken = (length taken < most_read) × IsAtEnd g.traffic
IsCause stops.ReadFault f g taken = (length taken < most_read) × Rose f.read_faults g.read_faults
IsCause stops.Spent f g taken = length taken ≡ most_read

Blames-stopped : (cause : Stop) (x : Option End) (f g : Sight) (taken : List ℕ) → IsStopped cause x → IsCause cause f g taken →
    Blames x f g taken
Blames-stopped stops.EndOfInput (Some ends.Closed) f g taken i k = k
Blames-stopped stops.EndOfInput (Some ends.Cut) f g taken i k = k
Blames-stopped stops.ReadFault (Some ends.ReadFault) f g taken i k = k
Blames-stopped stops.Spent (Some ends.Spent) f g taken i k = k
Blames-stopped _ _ f g taken i k = absurd i

-- a stop, after a read that gave nothing
pub Ran-stopped : {W : Type 0} (gives : W → ℕ → W → Type 0) (level : Level) (before : Scene W) (s r : Session) (q : Past) (w : W)
    (g h : Sight) (many : ℕ) (cause : Stop) →
    ((taken : List ℕ) (es : List Entry) (asked : List Call) (sent : List ℕ) → Stands s taken es asked sent →
    Stands r taken (es ++ stop cause ∷ []) asked sent) →
    wants s.stage s.runner ≡ wishes.Bytes → r.runner ≡ s.runner → IsStopped cause (outer r.stage) → Lacks r.stage [] →
    Both (Took []) g.traffic h.traffic → g.read_faults ≤ h.read_faults → h.write_faults ≡ g.write_faults →
    ((taken : List ℕ) → length taken ≡ many → before.link.read_faults ≤ g.read_faults → IsCause cause before.link h taken) →
    Ran gives level before s (scene_of q w g) many → Ran gives level before r (scene_of q w h) (many + 0)
Ran-stopped gives level before s r q w g h many cause grown bytes same outer_is lacks took more_reads same_writes why ran =
    let (old, many_is, run) = ran in
    let none_lost : old.lost ≡ [] = Lacks-bytes s.stage s.runner old.lost bytes run.lacks in
    let (requests, is, shows) = shows_more s level old.taken old.entries old.calls old.sent run.served_level bytes run.stands in
    let new : Account = record old { entries = old.entries ++ stop cause ∷ []; lost = [] } in (
      new,
      omega (arith, many_is),
      record {
        stands = grown old.taken old.entries old.calls old.sent run.stands;
        served_level = ap served_of same ∙ run.served_level;
        valid = IsValidRecord-quiet gives before.past before.words old.calls old.entries q w (stop cause) tt run.valid;
        carries = Both-then before.link.traffic g.traffic h.traffic
            (λ x y z k l. Carries-took level old new [] (stop cause ∷ []) x y z requests (sym (append-nil old.taken)) refl refl none_lost refl
            is shows (omega arith) k l) run.carries took;
        lacks = lacks;
        last = inl refl;
        blames = Blames-stopped cause (outer r.stage) before.link h old.taken outer_is (why old.taken many_is run.reads);
        reads = omega (arith, run.reads, more_reads);
        writes = omega (arith, run.writes, same_writes);
      },
    )

-- a stop where the link told nothing new: no read, or one that failed
pub Ran-halted : {W : Type 0} (gives : W → ℕ → W → Type 0) (level : Level) (before : Scene W) (s r : Session) (q : Past) (w : W)
    (g h : Sight) (many : ℕ) (cause : Stop) →
    ((taken : List ℕ) (es : List Entry) (asked : List Call) (sent : List ℕ) → Stands s taken es asked sent →
    Stands r taken (es ++ stop cause ∷ []) asked sent) →
    wants s.stage s.runner ≡ wishes.Bytes → r.runner ≡ s.runner → IsStopped cause (outer r.stage) → Lacks r.stage [] →
    h.traffic ≡ g.traffic → g.read_faults ≤ h.read_faults → h.write_faults ≡ g.write_faults →
    ((taken : List ℕ) → length taken ≡ many → before.link.read_faults ≤ g.read_faults → IsCause cause before.link h taken) →
    Ran gives level before s (scene_of q w g) many → Ran gives level before r (scene_of q w h) (many + 0)
Ran-halted gives level before s r q w g h many cause grown bytes same outer_is lacks told_same more_reads same_writes why ran =
    let (old, many_is, run) = ran in
    let none_lost : old.lost ≡ [] = Lacks-bytes s.stage s.runner old.lost bytes run.lacks in
    let new : Account = record old { entries = old.entries ++ stop cause ∷ []; lost = [] } in (
      new,
      omega (arith, many_is),
      record {
        stands = grown old.taken old.entries old.calls old.sent run.stands;
        served_level = ap served_of same ∙ run.served_level;
        valid = IsValidRecord-quiet gives before.past before.words old.calls old.entries q w (stop cause) tt run.valid;
        carries = subst (λ (o : Option Traffic). Both (Carries level new) before.link.traffic o) (sym told_same)
            (Both-weaker before.link.traffic g.traffic (λ x y k.
            Carries-record level old new (stop cause ∷ []) x y refl refl (sym none_lost) refl k) run.carries);
        lacks = lacks;
        last = inl refl;
        blames = Blames-stopped cause (outer r.stage) before.link h old.taken outer_is (why old.taken many_is run.reads);
        reads = omega (arith, run.reads, more_reads);
        writes = omega (arith, run.writes, same_writes);
      },
    )

-- a piece
pub Ran-fed : {W : Type 0} (gives : W → ℕ → W → Type 0) (level : Level) (before : Scene W) (s r : Session) (q : Past) (w : W)
    (g h : Sight) (many : ℕ) (piece : List ℕ) (n : ℕ) →
    ((taken : List ℕ) (es : List Entry) (asked : List Call) (sent : List ℕ) → Stands s taken es asked sent →
    StandsShort r (taken ++ piece) es asked sent) →
    wants s.stage s.runner ≡ wishes.Bytes → r.runner ≡ s.runner → outer r.stage ≡ None → Lacks r.stage [] →
    Both (Took piece) g.traffic h.traffic → g.read_faults ≤ h.read_faults → h.write_faults ≡ g.write_faults → length piece ≡ n →
    n ≤ most_at_once → Ran gives level before s (scene_of q w g) many → Ran gives level before r (scene_of q w h) (many + n)
Ran-fed gives level before s r q w g h many piece n grown bytes same outer_is lacks took more_reads same_writes size few ran =
    let (old, many_is, run) = ran in
    let none_lost : old.lost ≡ [] = Lacks-bytes s.stage s.runner old.lost bytes run.lacks in
    let (requests, is, shows) = shows_more s level old.taken old.entries old.calls old.sent run.served_level bytes run.stands in
    let (added, is_short, stands) = grown old.taken old.entries old.calls old.sent run.stands in
    let new : Account = record old { taken = old.taken ++ piece; entries = old.entries ++ added; lost = [] } in (
      new,
      omega (arith, many_is, size, length-append old.taken piece),
      record {
        stands = stands;
        served_level = ap served_of same ∙ run.served_level;
        valid = IsValidRecord-short gives before.past before.words old.calls old.entries q w old.sent added is_short run.valid;
        carries = Both-then before.link.traffic g.traffic h.traffic
            (λ x y z k l. Carries-took level old new piece added x y z requests refl refl refl none_lost refl is shows
            (omega (arith, size, few)) k l) run.carries took;
        lacks = lacks;
        last = inl refl;
        blames = Blames-none (outer r.stage) before.link h (old.taken ++ piece) outer_is;
        reads = omega (arith, run.reads, more_reads);
        writes = omega (arith, run.writes, same_writes);
      },
    )

pub take-size : (n : ℕ) (s : List ℕ) → n ≤ length s → length (take n s) ≡ n
take-size n s h = grind (arith, common_steps)

-- a read of nothing is one at the end of input
pub at_end : (n : ℕ) (a b : Option Traffic) → n ≡ 0 → IfSome a (λ t. (n ≡ 0) ↔ (t.left ≡ [])) → Both (Took []) a b → IsAtEnd b
at_end n None None e h k = tt
at_end n None (Some b) e h k = absurd k
at_end n (Some a) None e h k = absurd k
at_end n (Some a) (Some b) e h k = sym k.left ∙ h.0 e

-- ---- the whole run

pub Serves-ran : {W : Type 0} (gives : W → ℕ → W → Type 0) (level : Level) (before : Scene W) (s : Session) (outcome : Served)
    (after : Scene W) (many : ℕ) →
    many ≤ most_read → wants s.stage s.runner ≡ wishes.Ended outcome.end →
    ((taken : List ℕ) (es : List Entry) (asked : List Call) (sent : List ℕ) → Stands s taken es asked sent →
    outcome.session ≡ opened_in es) →
    ((taken : List ℕ) (es : List Entry) (asked : List Call) (sent : List ℕ) → Stands s taken es asked sent →
    outcome.short ≡ has_short es) →
    Ran gives level before s after many → (account : Account) × Serves gives level before outcome after account
Serves-ran gives level before s outcome after many within over opened flag ran =
    let (account, many_is, run) = ran in
    let end : End = outcome.end in
    let (finish, is, end_is) = stage_over s.stage s.runner end over in
    let not_running : s.stage ≡ stages.Running →
    IsAsked s.runner = λ e. absurd (let clash : stages.Ended finish ≡ stages.Running = sym is ∙ e in cc clash) in
    let shows : Shows level (wishes.Ended end) account.taken account.entries account.calls account.sent =
    subst (λ (l : Level). Shows l (wishes.Ended end) account.taken account.entries account.calls account.sent) run.served_level
    (subst (λ (x : Want). Shows (served_of s.runner) x account.taken account.entries account.calls account.sent) over
    (Shows-stands s.stage s.runner s.startup.items s.frames account.taken account.entries account.calls account.sent not_running
    run.stands.stage)) in (
      account,
      record {
        within = omega (arith, many_is, within);
        requests = shows.0;
        requests_are = shows.1;
        told_is = shows.2;
        valid = run.valid;
        own = own_events gives before.past before.words account.calls account.entries after.past after.words run.valid;
        carries = run.carries;
        last = run.last;
        lacks = subst (λ (x : End). LacksBy x account.lost) end_is (subst (λ (x : SessionStage). Lacks x account.lost) is run.lacks);
        blames = subst (λ (x : End). Blames (outer_end x) before.link after.link account.taken) end_is
            (subst (λ (x : SessionStage). Blames (outer x) before.link after.link account.taken) is run.blames);
        opened = opened account.taken account.entries account.calls account.sent run.stands;
        short = flag account.taken account.entries account.calls account.sent run.stands;
      },
    )

-- the account of a session over whose link nothing went, with this record
abbrev pub nothing_with : List Entry → Account
nothing_with entries = record { taken = []; calls = []; entries = entries; sent = []; lost = [] }

carries_nothing : (level : Level) (es : List Entry) (t : Option Traffic) → Both (Carries level (nothing_with es)) t t
carries_nothing level es None = tt
carries_nothing level es (Some t) = record {
  left = refl;
  read_is = sym (append-nil t.read);
  written_is = refl;
  marks =
      ([], sym (append-nil t.marks), tt, tt);
}

-- at the start
pub Ran-new : {W : Type 0} (gives : W → ℕ → W → Type 0) (level : Level) (before : Scene W) (s : Session) →
    Stands s [] [] [] [] → served_of s.runner ≡ level → s.stage ≡ stages.Waiting phases.Startup → Ran gives level before s before 0
Ran-new gives level before s st served is = (
  nothing_with [],
  refl,
  record {
    stands = st;
    served_level = served;
    valid = (refl, refl);
    carries = carries_nothing level [] before.link.traffic;
    lacks = subst (λ (x : SessionStage). Lacks x []) (sym is) refl;
    last = inl refl;
    blames = subst (λ (x : SessionStage). Blames (outer x) before.link before.link []) (sym is) tt;
    reads = omega arith;
    writes = omega arith;
  },
)

message_resting : (w : calls.MessageWant) → IsResting (of_message w) → ⊥
message_resting (calls.Book c) h = h
message_resting calls.Send h = h
message_resting calls.Nothing h = h

pub wants_bytes : (stage : SessionStage) (r : MessageRunner) → IsResting (wants stage r) → ((end : End) → wants stage r ≡ wishes.Ended end → ⊥) →
    wants stage r ≡ wishes.Bytes
wants_bytes (stages.Waiting phase) r h n = refl
wants_bytes (stages.Ended e) r h n = absurd (n (end_of e) refl)
wants_bytes stages.Running r h n = absurd (message_resting (wanted r) h)
wants_bytes _ r h n = absurd h

pub is_over : (stage : SessionStage) (r : MessageRunner) → IsResting (wants stage r) → IsLast stage → IsOver (wants stage r)
is_over (stages.Ended e) r h l = tt
is_over (stages.Waiting phase) r h l = absurd l
is_over stages.Running r h l = absurd l
is_over _ r h l = absurd h

-- a session at its beginning sits by a book that has none
pub sits_new : (s : Session) (p : Past) → s.stage ≡ stages.Waiting phases.Startup → tables_of s.runner ≡ [] → IsFit s.runner →
    p.state ≡ no_session → Sits s p
sits_new s p is none fit state = record {
  owed = ap owed_of state ∙ sym (ap (λ (x : SessionStage). owed_at x s.runner) is);
  known_tables = omega (arith, ap length none);
  fit = fit;
}

-- where no call was made the book sits as before
pub sits_same : (s next : Session) (p : Past) → Sits s p → owed_at next.stage next.runner ≡ owed_at s.stage s.runner →
    tables_of next.runner ≡ tables_of s.runner → IsFit next.runner → Sits next p
sits_same s next p sits owed same fit = record {
  owed = sits.owed ∙ sym owed;
  known_tables = omega (arith, sits.known_tables, ap length same);
  fit = fit;
}

-- the same, where the runner was left alone
pub sits_kept : (s next : Session) (p : Past) → Sits s p → owed_at next.stage next.runner ≡ owed_at s.stage s.runner →
    next.runner ≡ s.runner → Sits next p
sits_kept s next p sits owed same = sits_same s next p sits owed (ap tables_of same) (subst IsFit (sym same) sits.fit)

-- others may add to the history meanwhile
pub sits_on : SitsWhileOthersGoOn
sits_on s old new sits goes = record {
  owed = ap owed_of goes.state ∙ sits.owed;
  known_tables = omega (arith, sits.known_tables, ap length goes.tables, length-append old.seen.tables goes.more);
  fit = sits.fit;
}

is_away : (state : SessionState) → owed_of state ≡ owes.Nothing → state ≡ no_session
is_away no_session h = refl
is_away (in_session s) h = absurd (cc h)
is_away (pending s writes) h = absurd (cc h)

message_over : (w : calls.MessageWant) → IsOver (of_message w) → ⊥
message_over (calls.Book c) h = h
message_over calls.Send h = h
message_over calls.Nothing h = h

stage_away : (stage : SessionStage) (r : MessageRunner) (state : SessionState) → IsOver (wants stage r) → owed_of state ≡ owed_at stage r → state ≡ no_session
stage_away (stages.Ended e) r state over owed = is_away state owed
stage_away stages.Running r state over owed = absurd (message_over (wanted r) over)
stage_away _ r state over owed = absurd over

-- a session that ended left its book
pub away_over : (s : Session) (p : Past) → IsOver (wants s.stage s.runner) → Sits s p → p.state ≡ no_session
away_over s p over sits = stage_away s.stage s.runner p.state over sits.owed

told_short : (level : Level) → told level unread (short true 0 ∷ []) ≡ (record { bytes = []; calls = [] }, ended ends.Memory)
unfolding told
told_short level = refl

-- no memory to begin with
pub Serves-none : {W : Type 0} (gives : W → ℕ → W → Type 0) (level : Level) (before : Scene W) →
    (account : Account) × Serves gives level before (record { session = None; end = ends.Memory; short = true }) before account
Serves-none gives level before = (
  nothing_with (short true 0 ∷ []),
  record {
    within = omega arith;
    requests = unread;
    requests_are = tt;
    told_is = told_short level;
    valid = IsValidRecord-quiet gives before.past before.words [] [] before.past before.words (short true 0) tt (refl, refl);
    own = sym (append-nil before.past.own);
    carries = carries_nothing level (short true 0 ∷ []) before.link.traffic;
    lacks = refl;
    last = inl refl;
    blames = tt;
    opened = refl;
    short = refl;
  },
)
