-- What a session tells after the answers whose effect has to be told.
use Rattle.std.proofs.Common.{◌≡◌, ◌≢◌, ◌≤◌, ◌==◌, Bool, true, false, cond, ℕ, List, [], ◌∷◌, ◌++◌, length, refl, subst, arith}
use Rattle.cell_base.specs.declared.sql_state.SqlState.{SqlState}
use Rattle.cell_base.specs.declared.sql_state.SqlState.TheVariants as states
use Rattle.cell_base.specs.declared.level.Level.{Level}
use Rattle.history_core.specs.declared.event.Event.{Event}
use Rattle.pg_framing.specs.declared.replies.TransactionState.{TransactionState}
use Rattle.pg_framing.specs.declared.replies.TransactionState.TheVariants as block_states
use Rattle.block_machine.specs.Calls.{Call}
use Rattle.block_machine.specs.Calls as calls
use Rattle.block_machine.specs.Knowledge.{Knowledge, at_start}
use Rattle.block_machine.specs.Script.{Entry, did, refused, short, unsent, stop, Said, Next, more, call, ended, astray, with_bytes, unless_unsent, Script}
use Rattle.block_machine.specs.Messages.{owed_between, block_at}
use Rattle.block_machine.specs.declared.block.Owed.{Owed}
use Rattle.block_machine.specs.declared.block.Owed.TheVariants as owes
use Rattle.block_machine.specs.declared.call.Answer.{Answer}
use Rattle.block_machine.specs.declared.end.End.{End}
use Rattle.block_machine.specs.declared.end.End.TheVariants as ends
use Rattle.block_machine.specs.declared.message.Message.TheVariants as messages
use Rattle.session_core.specs.declared.phase.Phase.{Phase}
use Rattle.session_core.specs.declared.phase.Phase.TheVariants as phases
use Rattle.session_core.specs.Requests.{Request, encryption, cancel, start, userless, version, query, unread_query, terminate, sync, nothing, extended, function, Requests, asks, partial, faulty, unread}
use Rattle.session_core.specs.Record.{may_be_refused}
use Rattle.session_core.specs.Replies.{no_encryption, startup_reply, fatal_reply}
use Rattle.session_core.specs.Told as told
use Rattle.session_core.specs.Told.{outside_of, owed_by, stop_end, refusal_end, told as told_is}
use Rattle.session_laws.specs.Telling.{HasToBeTold, IsToldWithin}
use Rattle.session_laws.proofs.MemoryScripts.{Later, lack, ends_with, entries_of, IsTold, Adds, Fit, Over, adds_none, no_call, not_a_call, lost_fits, ask_fits, quiet_fits, tell_fits, short_fits, last_call_replies, opened_fits}
use Rattle.session_laws.proofs.StatementsTell.{fails}
use Rattle.session_laws.proofs.MessagesTell.{Encloses, readied, message}

-- ---- ends

done_adds : (end : End) (said : Said) (entries : List Entry) → Adds said.bytes (told.done end said entries).0.bytes
done_adds end said [] = adds_none said.bytes
done_adds end said (e ∷ entries) = adds_none said.bytes

done_tells : (end : End) (said : Said) (before : List Entry) (asked : Said) (c : Call) (a : Answer) (e : Event) (later : Later) → HasToBeTold c a →
    told.done end said before ≡ (asked, call c) → IsTold c asked.bytes later (told.done end said (before ++ did a e ∷ entries_of later))
done_tells end said [] asked c a e later has is = no_call said asked (ended end) c _ (λ same. omega (arith, same)) is
done_tells end said (f ∷ before) asked c a e later has is = no_call said asked astray c _ (λ same. omega (arith, same)) is

done_deaf : (end : End) (said : Said) (before : List Entry) (final : Bool) (n : ℕ) (after : List Entry) →
    (told.done end said (before ++ short final n ∷ after)).1 ≡ astray
done_deaf end said [] final n after = refl
done_deaf end said (e ∷ before) final n after = refl

done_asks : (end : End) (said : Said) (entries : List Entry) (further : Call) → (told.done end said entries).1 ≡ call further → ⊥
done_asks end said [] further is = not_a_call (ended end) further (λ same. omega (arith, same)) is
done_asks end said (e ∷ entries) further is = not_a_call astray further (λ same. omega (arith, same)) is

done_over : (end : End) → Over (told.done end)
done_over end = record { deaf = done_deaf end; asks_none = done_asks end }

done_fits : (end : End) → Fit (told.done end)
done_fits end = record { adds = done_adds end; late = λ said before final n after not. absurd (not (done_deaf end said before final n after)); tells = done_tells end }

fatal_fits : (state : SqlState) (end : End) → Fit (told.fatal state end)
fatal_fits state end = tell_fits (fatal_reply state) (told.done ends.WriteFault) (told.done end) (done_fits ends.WriteFault) (done_fits end)

-- a last reply
fatal_deaf : (k : ℕ) (end : End) (said : Said) (before : List Entry) (final : Bool) (n : ℕ) (after : List Entry) →
    (unless_unsent k (told.done ends.WriteFault) (told.done end) said (before ++ short final n ∷ after)).1 ≡ astray
fatal_deaf k end said [] final n after = refl
fatal_deaf k end said (did a e ∷ before) final n after = refl
fatal_deaf k end said (refused why ∷ before) final n after = refl
fatal_deaf k end said (short heard m ∷ before) final n after = refl
fatal_deaf k end said (unsent m ∷ before) final n after = both (m == k)
  where
    both : (b : Bool) → (cond b (told.done ends.WriteFault said (before ++ short final n ∷ after))
        (told.done end said (unsent m ∷ (before ++ short final n ∷ after)))).1 ≡ astray
    both true = done_deaf ends.WriteFault said before final n after
    both false = refl
fatal_deaf k end said (stop cause ∷ before) final n after = refl

fatal_asks : (k : ℕ) (end : End) (said : Said) (entries : List Entry) (further : Call) →
    (unless_unsent k (told.done ends.WriteFault) (told.done end) said entries).1 ≡ call further → ⊥
fatal_asks k end said [] further is = done_asks end said [] further is
fatal_asks k end said (did a e ∷ entries) further is = done_asks end said (did a e ∷ entries) further is
fatal_asks k end said (refused why ∷ entries) further is = done_asks end said (refused why ∷ entries) further is
fatal_asks k end said (short heard m ∷ entries) further is = done_asks end said (short heard m ∷ entries) further is
fatal_asks k end said (unsent m ∷ entries) further is = both (m == k) is
  where
    both : (b : Bool) → (cond b (told.done ends.WriteFault said entries) (told.done end said (unsent m ∷ entries))).1 ≡ call further → ⊥
    both true one = done_asks ends.WriteFault said entries further one
    both false other = done_asks end said (unsent m ∷ entries) further other
fatal_asks k end said (stop cause ∷ entries) further is = done_asks end said (stop cause ∷ entries) further is

fatal_over : (state : SqlState) (end : End) → Over (told.fatal state end)
fatal_over state end = record {
  deaf = λ said before final n after. fatal_deaf (length said.bytes) end (with_bytes said (fatal_reply state)) before final n after;
  asks_none = λ said entries further is. fatal_asks (length said.bytes) end (with_bytes said (fatal_reply state)) entries further is;
}

closed_over : (end : End) → Over (told.closed end)
closed_over (ends.Protocol fault) = fatal_over states.S08P01 (ends.Protocol fault)
closed_over (ends.Refused state) = fatal_over state (ends.Refused state)
closed_over ends.Spent = fatal_over states.S54000 ends.Spent
closed_over ends.Terminated = done_over ends.Terminated
closed_over ends.Closed = done_over ends.Closed
closed_over ends.Cut = done_over ends.Cut
closed_over ends.Cancelled = done_over ends.Cancelled
closed_over ends.ReadFault = done_over ends.ReadFault
closed_over ends.WriteFault = done_over ends.WriteFault
closed_over ends.Memory = done_over ends.Memory

closed_fits : (end : End) → Fit (told.closed end)
closed_fits (ends.Protocol fault) = fatal_fits states.S08P01 (ends.Protocol fault)
closed_fits (ends.Refused state) = fatal_fits state (ends.Refused state)
closed_fits ends.Spent = fatal_fits states.S54000 ends.Spent
closed_fits ends.Terminated = done_fits ends.Terminated
closed_fits ends.Closed = done_fits ends.Closed
closed_fits ends.Cut = done_fits ends.Cut
closed_fits ends.Cancelled = done_fits ends.Cancelled
closed_fits ends.ReadFault = done_fits ends.ReadFault
closed_fits ends.WriteFault = done_fits ends.WriteFault
closed_fits ends.Memory = done_fits ends.Memory

closing_fits : (end : End) → Fit (told.closing end)
closing_fits end = quiet_fits calls.Close (λ _. told.closed end) (λ a has. has) (λ a. closed_fits end)

-- after the rollback that is owed the session is closed, which can't be refused
ending_fits : (owed : Owed) (end : End) → Fit (told.ending owed end)
ending_fits owes.Nothing end = closed_fits end
ending_fits owes.Close end = closing_fits end
ending_fits owes.Rollback end =
    ask_fits calls.Rollback (λ _. told.closing end) (λ a. closing_fits end)
    (λ a has. last_call_replies calls.Rollback calls.Close (told.closed end) (closed_over end) (λ may. may))

broken_fits : (owed : Owed) → Fit (told.broken owed)
broken_fits owed = ending_fits owed ends.WriteFault

unless_memory_ends : (phase : Phase) (rest : Script) → Fit rest → Fit (told.unless_memory_ends phase rest)
unless_memory_ends phase rest h = short_fits true (told.ending (owed_by phase) ends.Memory) rest (ending_fits (owed_by phase) ends.Memory) h

-- ---- before the startup's end

tells_startup : (session : ℕ) (rest : Script) → Fit rest → Fit (told.tells_startup session rest)
tells_startup session rest h =
    short_fits true (told.closing ends.Memory) _ (closing_fits ends.Memory)
    (tell_fits (startup_reply session) (told.broken owes.Close) rest (broken_fits owes.Close) h)

opens : (rest : Script) → Fit rest → Fit (told.opens rest)
opens rest h =
    quiet_fits calls.Open _ (λ a has. has)
    (opened_fits (λ session. told.tells_startup session rest) (λ why. told.closed (refusal_end why)) (λ session. tells_startup session rest h)
    (λ why. closed_fits (refusal_end why)))

-- what follows a message does so
abbrev FollowsFit : (Phase → Knowledge → Script) → Type 0
FollowsFit rest = (phase : Phase) (known : Knowledge) → Fit (rest phase known)

starting : (asked : Request) (known : Knowledge) (rest : Phase → Knowledge → Script) → FollowsFit rest → Fit (told.starting asked known rest)
starting encryption known rest h =
    tell_fits no_encryption (told.broken owes.Nothing) (rest phases.Startup known) (broken_fits owes.Nothing) (h phases.Startup known)
starting cancel known rest h = closed_fits ends.Cancelled
starting start known rest h = opens (rest (phases.Normal block_states.Idle) known) (h (phases.Normal block_states.Idle) known)
starting userless known rest h = closed_fits (ends.Refused states.S28000)
starting version known rest h = closed_fits (ends.Refused states.S0A000)
starting asked known rest h = lost_fits

-- ---- after the startup

encloses : (rest : Phase → Knowledge → Script) → FollowsFit rest → Encloses (outside_of rest)
encloses rest h = record { next = λ state k. h (phases.Normal state) k; broken = broken_fits }

refuses : (state : TransactionState) (known : Knowledge) (rest : Phase → Knowledge → Script) → FollowsFit rest → Fit (told.refuses state known rest)
refuses state known rest h =
    fails _ (record { succeeded = λ b k. lost_fits; failed = λ after k. h (phases.Discarding after) k; broken = broken_fits })
    states.S0A000 (block_at state) known

serving : (asked : Request) (state : TransactionState) (known : Knowledge) (rest : Phase → Knowledge → Script) → FollowsFit rest →
    Fit (told.serving asked state known rest)
serving (query asked) state known rest h = message (outside_of rest) (encloses rest h) asked state known
serving unread_query state known rest h =
    short_fits false _ _ (message (outside_of rest) (encloses rest h) (messages.Unread states.S53200) state known) lost_fits
serving terminate state known rest h = ending_fits (owed_between state) ends.Terminated
serving sync state known rest h = readied (outside_of rest) (encloses rest h) state known
serving nothing state known rest h = h (phases.Normal state) known
serving extended state known rest h = refuses state known rest h
serving function state known rest h = message (outside_of rest) (encloses rest h) (messages.Unread states.S0A000) state known
serving asked state known rest h = lost_fits

discarding : (asked : Request) (state : TransactionState) (known : Knowledge) (rest : Phase → Knowledge → Script) → FollowsFit rest →
    Fit (told.discarding asked state known rest)
discarding terminate state known rest h = ending_fits (owed_between state) ends.Terminated
discarding sync state known rest h = readied (outside_of rest) (encloses rest h) state known
discarding asked state known rest h = h (phases.Discarding state) known

handled : (asked : Request) (phase : Phase) (known : Knowledge) (rest : Phase → Knowledge → Script) → FollowsFit rest → Fit (told.handled asked phase known rest)
handled asked phases.Startup known rest h = starting asked known rest h
handled asked (phases.Normal state) known rest h = serving asked state known rest h
handled asked (phases.Discarding state) known rest h = discarding asked state known rest h

-- ---- the whole stream

waiting_adds : (phase : Phase) (held : ℕ) (said : Said) (entries : List Entry) → Adds said.bytes (told.waiting phase held said entries).0.bytes
waiting_adds phase held said [] = adds_none said.bytes
waiting_adds phase held said (stop cause ∷ entries) = (ending_fits (owed_by phase) (stop_end cause held)).adds said entries
waiting_adds phase held said (did a e ∷ entries) = adds_none said.bytes
waiting_adds phase held said (refused why ∷ entries) = adds_none said.bytes
waiting_adds phase held said (short final n ∷ entries) = adds_none said.bytes
waiting_adds phase held said (unsent n ∷ entries) = adds_none said.bytes

waiting_late : (phase : Phase) (held : ℕ) (said : Said) (before : List Entry) (final : Bool) (n : ℕ) (after : List Entry) →
    (told.waiting phase held said (before ++ short final n ∷ after)).1 ≢ astray → length said.bytes ≤ n
waiting_late phase held said [] final n after not = absurd (not refl)
waiting_late phase held said (stop cause ∷ before) final n after not =
    (ending_fits (owed_by phase) (stop_end cause held)).late said before final n after not
waiting_late phase held said (did b f ∷ before) final n after not = absurd (not refl)
waiting_late phase held said (refused why ∷ before) final n after not = absurd (not refl)
waiting_late phase held said (short heard m ∷ before) final n after not = absurd (not refl)
waiting_late phase held said (unsent m ∷ before) final n after not = absurd (not refl)

waiting_tells : (phase : Phase) (held : ℕ) (said : Said) (before : List Entry) (asked : Said) (c : Call) (a : Answer) (e : Event) (later : Later) →
    HasToBeTold c a → told.waiting phase held said before ≡ (asked, call c) →
    IsTold c asked.bytes later (told.waiting phase held said (before ++ did a e ∷ entries_of later))
waiting_tells phase held said [] asked c a e later has is = no_call said asked more c _ (λ same. omega (arith, same)) is
waiting_tells phase held said (stop cause ∷ before) asked c a e later has is =
    (ending_fits (owed_by phase) (stop_end cause held)).tells said before asked c a e later has is
waiting_tells phase held said (did b f ∷ before) asked c a e later has is = no_call said asked astray c _ (λ same. omega (arith, same)) is
waiting_tells phase held said (refused why ∷ before) asked c a e later has is = no_call said asked astray c _ (λ same. omega (arith, same)) is
waiting_tells phase held said (short final n ∷ before) asked c a e later has is = no_call said asked astray c _ (λ same. omega (arith, same)) is
waiting_tells phase held said (unsent n ∷ before) asked c a e later has is = no_call said asked astray c _ (λ same. omega (arith, same)) is

waiting_fits : (phase : Phase) (held : ℕ) → Fit (told.waiting phase held)
waiting_fits phase held = record {
  adds = waiting_adds phase held;
  late = waiting_late phase held;
  tells = waiting_tells phase held;
}

session : (requests : Requests) (phase : Phase) (known : Knowledge) → Fit (told.session phase known requests)
session (asks asked requests) phase known =
    unless_memory_ends phase _ (handled asked phase known (λ p k. told.session p k requests) (λ p k. session requests p k))
session (partial rest) phase known = unless_memory_ends phase (told.waiting phase (length rest)) (waiting_fits phase (length rest))
session (faulty fault) phase known =
    unless_memory_ends phase (told.ending (owed_by phase) (ends.Protocol fault)) (ending_fits (owed_by phase) (ends.Protocol fault))
session unread phase known = unless_memory_ends phase _ lost_fits

-- ---- what is told

told_so : (level : Level) (requests : Requests) (before : List Entry) (c : Call) (a : Answer) (e : Event) (later : Later) (asked : Said) →
    HasToBeTold c a → told_is level requests before ≡ (asked, call c) → IsTold c asked.bytes later (told_is level requests (before ++ did a e ∷ entries_of later))
unfolding told_is
told_so level requests before c a e later asked has is =
    (session requests phases.Startup (at_start level)).tells (record { bytes = []; calls = [] }) before asked c a e later has is

pub before_lacks : (level : Level) (requests : Requests) (before between after : List Entry) (c : Call) (a : Answer) (e : Event) (final : Bool) (n : ℕ)
    (asked said : Said) (next : Next) → HasToBeTold c a → told_is level requests before ≡ (asked, call c) →
    told_is level requests (before ++ did a e ∷ (between ++ short final n ∷ after)) ≡ (said, next) → next ≢ astray → IsToldWithin c asked.bytes n said.bytes
before_lacks level requests before between after c a e final n asked said next has at is not =
    subst (λ (x : Said × Next). x.1 ≢ astray → IsToldWithin c asked.bytes n x.0.bytes) is
    (told_so level requests before c a e (lack between final n after) asked has at) not

pub before_refusals : (level : Level) (requests : Requests) (before between : List Entry) (c further : Call) (a : Answer) (e : Event) (asked said : Said) →
    HasToBeTold c a → may_be_refused further → told_is level requests before ≡ (asked, call c) →
    told_is level requests (before ++ did a e ∷ between) ≡ (said, call further) → IsToldWithin c asked.bytes (length said.bytes) said.bytes
before_refusals level requests before between c further a e asked said has may at is =
    subst (λ (x : Said × Next). x.1 ≡ call further → IsToldWithin c asked.bytes (length x.0.bytes) x.0.bytes) is
    (λ same. told_so level requests before c a e (ends_with between) asked has at further same may) refl
