-- A session that is refused since the history is full made one call, which opens a session, and that call was refused.
use Rattle.std.proofs.Common.{◌≡◌, Bool, true, false, cond, ℕ, List, [], ◌∷◌, ◌++◌, length, refl, sym, ap, subst, ◌==◌}
use Rattle.std.proofs.lemmas.Bool.{cond_both}
use Rattle.cell_base.specs.declared.level.Level.{Level}
use Rattle.cell_base.specs.declared.sql_state.SqlState.{SqlState}
use Rattle.cell_base.specs.declared.sql_state.SqlState.TheVariants as states
use Rattle.history_core.specs.declared.event.Event.{Event}
use Rattle.history_core.specs.declared.fault.BookFault.TheVariants as faults
use Rattle.history_core.specs.declared.fault.Limit.{Limit}
use Rattle.pg_framing.specs.declared.replies.TransactionState.{TransactionState}
use Rattle.pg_framing.specs.declared.replies.TransactionState.TheVariants as block_states
use Rattle.block_machine.specs.Calls as calls
use Rattle.block_machine.specs.Knowledge.{Knowledge, at_start}
use Rattle.block_machine.specs.Messages.{owed_between, block_at, message as told_message}
use Rattle.block_machine.specs.Script.{Entry, did, refused, short, unsent, stop, Said, Next, more, call, ended, astray, Script, lost, with_bytes, with_call, tell, unless_short, unless_unsent}
use Rattle.block_machine.specs.declared.block.Owed.{Owed}
use Rattle.block_machine.specs.declared.block.Owed.TheVariants as owes
use Rattle.block_machine.specs.declared.call.Answer.{Answer}
use Rattle.block_machine.specs.declared.call.Answer.TheVariants as answers
use Rattle.block_machine.specs.declared.end.End.{End}
use Rattle.block_machine.specs.declared.end.End.TheVariants as ends
use Rattle.block_machine.specs.declared.end.Stop.{Stop}
use Rattle.block_machine.specs.declared.end.Stop.TheVariants as stops
use Rattle.block_machine.specs.declared.message.Message.TheVariants as messages
use Rattle.session_core.specs.declared.phase.Phase.{Phase}
use Rattle.session_core.specs.declared.phase.Phase.TheVariants as phases
use Rattle.session_core.specs.Requests.{Request, encryption, cancel, start, userless, version, query, unread_query, terminate, sync, nothing, extended, function, Requests, asks, partial, faulty, unread}
use Rattle.session_core.specs.Replies.{no_encryption, startup_reply, fatal_reply}
use Rattle.session_core.specs.Told as told
use Rattle.session_core.specs.Told.{outside_of, owed_by, stop_end, told as told_is}
use Rattle.session_laws.proofs.EndScripts.{Why, Is, IsFit, Holds, EndsIn, lost_ends, ask_ends, tell_ends, short_ends, after_short}
use Rattle.session_laws.proofs.StatementsEnd.{fails}
use Rattle.session_laws.proofs.MessagesEnd.{Encloses, readied, message}
use Rattle.session_laws.proofs.SessionsEnd.{broken_ends, write_at, write_ends, opened}

-- ---- any other end

abbrev IsOther : End → Type 0
IsOther (ends.Refused states.S54000) = ⊥
IsOther _ = Unit {0}

abbrev Other : Why
Other end entries = IsOther end

fit : IsFit Other
fit = record { lifts = λ e end entries h. h; unsent_is = λ n entries. tt }

done_at : (end : End) → IsOther end → (said : Said) (entries : List Entry) → Holds Other entries (told.done end said entries).1
done_at end other said [] = other
done_at end other said (e ∷ entries) = tt

done_other : (end : End) → IsOther end → EndsIn Other (told.done end)
done_other end other = record { at = done_at end other }

fatal_other : (state : SqlState) (end : End) → IsOther end → EndsIn Other (told.fatal state end)
fatal_other state end other = tell_ends Other fit (fatal_reply state) (told.done ends.WriteFault) (told.done end) write_ends (done_other end other)

closed_other : (end : End) → IsOther end → EndsIn Other (told.closed end)
closed_other (ends.Protocol fault) other = fatal_other states.S08P01 (ends.Protocol fault) other
closed_other (ends.Refused state) other = fatal_other state (ends.Refused state) other
closed_other ends.Spent other = fatal_other states.S54000 ends.Spent other
closed_other ends.Terminated other = done_other ends.Terminated other
closed_other ends.Closed other = done_other ends.Closed other
closed_other ends.Cut other = done_other ends.Cut other
closed_other ends.Cancelled other = done_other ends.Cancelled other
closed_other ends.ReadFault other = done_other ends.ReadFault other
closed_other ends.WriteFault other = done_other ends.WriteFault other
closed_other ends.Memory other = done_other ends.Memory other

closing_other : (end : End) → IsOther end → EndsIn Other (told.closing end)
closing_other end other = ask_ends Other fit calls.Close (λ _. told.closed end) (λ a. closed_other end other)

ending_other : (owed : Owed) (end : End) → IsOther end → EndsIn Other (told.ending owed end)
ending_other owes.Nothing end other = closed_other end other
ending_other owes.Close end other = closing_other end other
ending_other owes.Rollback end other = ask_ends Other fit calls.Rollback (λ _. told.closing end) (λ a. closing_other end other)

-- ---- after the startup

unless_memory_ends : (phase : Phase) (rest : Script) → EndsIn Other rest → EndsIn Other (told.unless_memory_ends phase rest)
unless_memory_ends phase rest h =
    short_ends Other true (told.ending (owed_by phase) ends.Memory) rest
    (after_short Other fit true (told.ending (owed_by phase) ends.Memory) (ending_other (owed_by phase) ends.Memory tt)) h

abbrev GoesOther : (Phase → Knowledge → Script) → Type 0
GoesOther rest = (state : TransactionState) (known : Knowledge) → EndsIn Other (rest (phases.Normal state) known) × EndsIn Other (rest (phases.Discarding state) known)

encloses : (rest : Phase → Knowledge → Script) → GoesOther rest → Encloses Other (outside_of rest)
encloses rest well = record { next = λ state k. (well state k).0; broken = broken_ends }

refuses : (state : TransactionState) (known : Knowledge) (rest : Phase → Knowledge → Script) → GoesOther rest → EndsIn Other (told.refuses state known rest)
refuses state known rest well =
    fails Other fit _ (record { succeeded = λ b k. lost_ends Other; failed = λ after k. (well after k).1; broken = broken_ends }) states.S0A000 (block_at state) known

serving : (asked : Request) (state : TransactionState) (known : Knowledge) (rest : Phase → Knowledge → Script) → GoesOther rest →
    EndsIn Other (told.serving asked state known rest)
serving (query asked) state known rest well = message Other fit (outside_of rest) (encloses rest well) asked state known
serving unread_query state known rest well =
    short_ends Other false (told_message (messages.Unread states.S53200) state known (outside_of rest)) _
    (after_short Other fit false (told_message (messages.Unread states.S53200) state known (outside_of rest))
    (message Other fit (outside_of rest) (encloses rest well) (messages.Unread states.S53200) state known))
    (lost_ends Other)
serving terminate state known rest well = ending_other (owed_between state) ends.Terminated tt
serving sync state known rest well = readied Other fit (outside_of rest) (encloses rest well) state known
serving nothing state known rest well = (well state known).0
serving extended state known rest well = refuses state known rest well
serving function state known rest well = message Other fit (outside_of rest) (encloses rest well) (messages.Unread states.S0A000) state known
serving _ state known rest well = lost_ends Other

discarding : (asked : Request) (state : TransactionState) (known : Knowledge) (rest : Phase → Knowledge → Script) → GoesOther rest →
    EndsIn Other (told.discarding asked state known rest)
discarding terminate state known rest well = ending_other (owed_between state) ends.Terminated tt
discarding sync state known rest well = readied Other fit (outside_of rest) (encloses rest well) state known
discarding _ state known rest well = (well state known).1

stop_other : (cause : Stop) (held : ℕ) → IsOther (stop_end cause held)
stop_other stops.EndOfInput held = by_held (held == 0)
  where
    by_held : (b : Bool) → IsOther (cond b ends.Closed ends.Cut)
    by_held true = tt
    by_held false = tt
stop_other stops.ReadFault held = tt
stop_other stops.Spent held = tt

waits_at : (phase : Phase) (held : ℕ) (said : Said) (entries : List Entry) → Holds Other entries (told.waiting phase held said entries).1
waits_at phase held said [] = tt
waits_at phase held said (stop cause ∷ entries) =
    same entries (stop cause ∷ entries) (told.ending (owed_by phase) (stop_end cause held) said entries).1
    ((ending_other (owed_by phase) (stop_end cause held) (stop_other cause held)).at said entries)
  where
    same : (one other : List Entry) (next : Next) → Holds Other one next → Holds Other other next
    same one other more h = tt
    same one other (call c) h = tt
    same one other (ended end) h = h
    same one other astray h = tt
waits_at phase held said (did a e ∷ entries) = tt
waits_at phase held said (refused why ∷ entries) = tt
waits_at phase held said (short final n ∷ entries) = tt
waits_at phase held said (unsent n ∷ entries) = tt

waits : (phase : Phase) (held : ℕ) → EndsIn Other (told.waiting phase held)
waits phase held = record { at = waits_at phase held }

main : (requests : Requests) (state : TransactionState) (known : Knowledge) →
    EndsIn Other (told.session (phases.Normal state) known requests) × EndsIn Other (told.session (phases.Discarding state) known requests)
main (asks asked requests) state known = (
  unless_memory_ends (phases.Normal state) (told.serving asked state known (λ p k. told.session p k requests))
      (serving asked state known (λ p k. told.session p k requests) (λ s k. main requests s k)),
  unless_memory_ends (phases.Discarding state) (told.discarding asked state known (λ p k. told.session p k requests))
      (discarding asked state known (λ p k. told.session p k requests) (λ s k. main requests s k)),
)
main (partial rest) state known = (
  unless_memory_ends (phases.Normal state) (told.waiting (phases.Normal state) (length rest)) (waits (phases.Normal state) (length rest)),
  unless_memory_ends (phases.Discarding state) (told.waiting (phases.Discarding state) (length rest)) (waits (phases.Discarding state) (length rest)),
)
main (faulty fault) state known = (
  unless_memory_ends (phases.Normal state) (told.ending (owed_by (phases.Normal state)) (ends.Protocol fault)) (ending_other (owed_by (phases.Normal state)) (ends.Protocol fault) tt),
  unless_memory_ends (phases.Discarding state) (told.ending (owed_by (phases.Discarding state)) (ends.Protocol fault)) (ending_other (owed_by (phases.Discarding state)) (ends.Protocol fault) tt),
)
main unread state known = (
  unless_memory_ends (phases.Normal state) lost (lost_ends Other),
  unless_memory_ends (phases.Discarding state) lost (lost_ends Other),
)

-- ---- the one call

-- the opening of a session was refused, since the history was full, and nothing came after it
pub data IsFullOpening : List Entry → Type 0 where
  refuses_it : (limit : Limit) → IsFullOpening (refused (faults.Full limit) ∷ [])
  answers_so : (limit : Limit) (event : Event) → IsFullOpening (did (answers.Refused (faults.Full limit)) event ∷ [])

pub record Turned (said : Said) (entries : List Entry) (all : Said) : Type 0 where
  pub opening : IsFullOpening entries
  pub calls_are : all.calls ≡ said.calls ++ calls.Open ∷ []

abbrev full_end : End
full_end = ends.Refused states.S54000

record Turns (script : Script) : Type 0 where
  at : (said : Said) (entries : List Entry) (all : Said) → script said entries ≡ (all, ended full_end) → Turned said entries all

never_turns : (script : Script) → EndsIn Other script → Turns script
never_turns script h = record { at = λ said entries all is. absurd (subst (λ (x : Said × Next). Holds Other entries x.1) is (h.at said entries)) }

short_turns : (short_of rest : Script) → EndsIn Other short_of → Turns rest → Turns (unless_short true short_of rest)
short_turns short_of rest bad good = record { at = go }
  where
    go : (said : Said) (entries : List Entry) (all : Said) → unless_short true short_of rest said entries ≡ (all, ended full_end) → Turned said entries all
    go said [] all is = good.at said [] all is
    go said (did a e ∷ entries) all is = good.at said (did a e ∷ entries) all is
    go said (refused why ∷ entries) all is = good.at said (refused why ∷ entries) all is
    go said (short true n ∷ entries) all is =
        cond_both (n == length said.bytes) (short_of said entries) (rest said (short true n ∷ entries))
        (λ (x : Said × Next). x ≡ (all, ended full_end) → Turned said (short true n ∷ entries) all)
        (λ _ same. absurd (subst (λ (x : Said × Next). Holds Other entries x.1) same (bad.at said entries)))
        (λ _ same. good.at said (short true n ∷ entries) all same) is
    go said (short false n ∷ entries) all is = good.at said (short false n ∷ entries) all is
    go said (unsent n ∷ entries) all is = good.at said (unsent n ∷ entries) all is
    go said (stop cause ∷ entries) all is = good.at said (stop cause ∷ entries) all is

-- where an end is that of a failed write, it isn't this one
not_written : (entries : List Entry) (all : Said) (it : Said × Next) → Holds (Is ends.WriteFault) entries it.1 → it ≡ (all, ended full_end) → ⊥
not_written entries all it h is =
    let clash : full_end ≡ ends.WriteFault = subst (λ (x : Said × Next). Holds (Is ends.WriteFault) entries x.1) is h in
    subst (λ (x : End). IsOther x) (sym clash) tt

tell_turns : (bytes : List ℕ) (fault rest : Script) → EndsIn (Is ends.WriteFault) fault → Turns rest → Turns (tell bytes fault rest)
tell_turns bytes fault rest bad good = record { at = λ said entries all is. go (length said.bytes) said entries all is }
  where
    up : (said : Said) (entries : List Entry) (all : Said) → Turned (with_bytes said bytes) entries all → Turned said entries all
    up said entries all t = record { opening = t.opening; calls_are = t.calls_are }

    go : (before : ℕ) (said : Said) (entries : List Entry) (all : Said) → unless_unsent before fault rest (with_bytes said bytes) entries ≡ (all, ended full_end) →
        Turned said entries all
    go before said [] all is = up said [] all (good.at (with_bytes said bytes) [] all is)
    go before said (did a e ∷ entries) all is = up said (did a e ∷ entries) all (good.at (with_bytes said bytes) (did a e ∷ entries) all is)
    go before said (refused why ∷ entries) all is = up said (refused why ∷ entries) all (good.at (with_bytes said bytes) (refused why ∷ entries) all is)
    go before said (short final n ∷ entries) all is = up said (short final n ∷ entries) all (good.at (with_bytes said bytes) (short final n ∷ entries) all is)
    go before said (unsent n ∷ entries) all is =
        cond_both (n == before) (fault (with_bytes said bytes) entries) (rest (with_bytes said bytes) (unsent n ∷ entries))
        (λ (x : Said × Next). x ≡ (all, ended full_end) → Turned said (unsent n ∷ entries) all)
        (λ _ same. absurd (not_written entries all (fault (with_bytes said bytes) entries) (bad.at (with_bytes said bytes) entries) same))
        (λ _ same. up said (unsent n ∷ entries) all (good.at (with_bytes said bytes) (unsent n ∷ entries) all same)) is
    go before said (stop cause ∷ entries) all is = up said (stop cause ∷ entries) all (good.at (with_bytes said bytes) (stop cause ∷ entries) all is)

-- the session has ended so
abbrev IsEndedSo : Next → Type 0
IsEndedSo (ended (ends.Refused states.S54000)) = Unit {0}
IsEndedSo _ = ⊥

-- the last reply of such a session is the end of its record
closes : (said : Said) (entries : List Entry) (all : Said) → told.closed full_end said entries ≡ (all, ended full_end) → (entries ≡ []) × (all.calls ≡ said.calls)
closes said [] all is = (refl, ap (λ (x : Said × Next). x.0.calls) (sym is))
closes said (did a e ∷ entries) all is = absurd (subst (λ (x : Said × Next). IsEndedSo x.1) (sym is) tt)
closes said (refused why ∷ entries) all is = absurd (subst (λ (x : Said × Next). IsEndedSo x.1) (sym is) tt)
closes said (short final n ∷ entries) all is = absurd (subst (λ (x : Said × Next). IsEndedSo x.1) (sym is) tt)
closes said (unsent n ∷ entries) all is =
    let after : Said = with_bytes said (fatal_reply states.S54000) in
    absurd (cond_both (n == length said.bytes) (told.done ends.WriteFault after entries) (told.done full_end after (unsent n ∷ entries))
    (λ (x : Said × Next). x ≡ (all, ended full_end) → ⊥)
    (λ _ same. not_written entries all (told.done ends.WriteFault after entries) (write_at after entries) same)
    (λ _ same. subst (λ (x : Said × Next). IsEndedSo x.1) (sym same) tt) is)
closes said (stop cause ∷ entries) all is = absurd (subst (λ (x : Said × Next). IsEndedSo x.1) (sym is) tt)

-- the session that is opened, or the refusal
tells_startup : (session : ℕ) (rest : Script) → EndsIn Other rest → EndsIn Other (told.tells_startup session rest)
tells_startup session rest h =
    short_ends Other true (told.closing ends.Memory) _ (after_short Other fit true (told.closing ends.Memory) (closing_other ends.Memory tt))
    (tell_ends Other fit (startup_reply session) (told.broken owes.Close) rest (broken_ends owes.Close) h)

opened_turns : (rest : Script) → EndsIn Other rest → (a : Answer) (event : Event) (said : Said) (entries : List Entry) (all : Said) →
    opened rest a (with_call said calls.Open) entries ≡ (all, ended full_end) → Turned said (did a event ∷ entries) all
opened_turns rest h (answers.Opened session) event said entries all is =
    absurd (subst (λ (x : Said × Next). Holds Other entries x.1) is ((tells_startup session rest h).at (with_call said calls.Open) entries))
opened_turns rest h (answers.Refused (faults.Full limit)) event said entries all is =
    let c = closes (with_call said calls.Open) entries all is in record {
      opening = subst (λ (es : List Entry). IsFullOpening (did (answers.Refused (faults.Full limit)) event ∷ es)) (sym c.0) (answers_so limit event);
      calls_are = c.1;
    }
opened_turns rest h (answers.Refused faults.Memory) event said entries all is =
    absurd (subst (λ (x : Said × Next). Holds Other entries x.1) is ((closed_other ends.Memory tt).at (with_call said calls.Open) entries))
opened_turns rest h _ event said entries all is = absurd (subst (λ (x : Said × Next). IsEndedSo x.1) (sym is) tt)

opens_turns : (rest : Script) → EndsIn Other rest → Turns (told.opens rest)
opens_turns rest h = record { at = go }
  where
    go : (said : Said) (entries : List Entry) (all : Said) → told.opens rest said entries ≡ (all, ended full_end) → Turned said entries all
    go said [] all is = absurd (subst (λ (x : Said × Next). IsEndedSo x.1) (sym is) tt)
    go said (did a event ∷ entries) all is = opened_turns rest h a event said entries all is
    go said (refused (faults.Full limit) ∷ entries) all is =
        let c = closes (with_call said calls.Open) entries all is in record {
          opening = subst (λ (es : List Entry). IsFullOpening (refused (faults.Full limit) ∷ es)) (sym c.0) (refuses_it limit);
          calls_are = c.1;
        }
    go said (refused faults.Memory ∷ entries) all is =
        absurd (subst (λ (x : Said × Next). Holds Other entries x.1) is ((closed_other ends.Memory tt).at (with_call said calls.Open) entries))
    go said (short final n ∷ entries) all is = absurd (subst (λ (x : Said × Next). IsEndedSo x.1) (sym is) tt)
    go said (unsent n ∷ entries) all is = absurd (subst (λ (x : Said × Next). IsEndedSo x.1) (sym is) tt)
    go said (stop cause ∷ entries) all is = absurd (subst (λ (x : Said × Next). IsEndedSo x.1) (sym is) tt)

-- ---- before the startup's end

starting : (asked : Request) (known : Knowledge) (rest : Phase → Knowledge → Script) → ((k : Knowledge) → Turns (rest phases.Startup k)) → GoesOther rest →
    Turns (told.starting asked known rest)
starting encryption known rest turns well =
    tell_turns no_encryption (told.broken owes.Nothing) (rest phases.Startup known) (broken_ends owes.Nothing) (turns known)
starting cancel known rest turns well = never_turns (told.closed ends.Cancelled) (closed_other ends.Cancelled tt)
starting start known rest turns well = opens_turns (rest (phases.Normal block_states.Idle) known) (well block_states.Idle known).0
starting userless known rest turns well = never_turns (told.closed (ends.Refused states.S28000)) (closed_other (ends.Refused states.S28000) tt)
starting version known rest turns well = never_turns (told.closed (ends.Refused states.S0A000)) (closed_other (ends.Refused states.S0A000) tt)
starting _ known rest turns well = never_turns lost (lost_ends Other)

session_turns : (requests : Requests) (known : Knowledge) → Turns (told.session phases.Startup known requests)
session_turns (asks asked requests) known =
    short_turns (told.ending owes.Nothing ends.Memory) (told.handled asked phases.Startup known (λ p k. told.session p k requests))
    (ending_other owes.Nothing ends.Memory tt)
    (starting asked known (λ p k. told.session p k requests) (λ k. session_turns requests k) (λ s k. main requests s k))
session_turns (partial rest) known =
    short_turns (told.ending owes.Nothing ends.Memory) (told.waiting phases.Startup (length rest)) (ending_other owes.Nothing ends.Memory tt)
    (never_turns (told.waiting phases.Startup (length rest)) (waits phases.Startup (length rest)))
session_turns (faulty fault) known =
    short_turns (told.ending owes.Nothing ends.Memory) (told.ending owes.Nothing (ends.Protocol fault)) (ending_other owes.Nothing ends.Memory tt)
    (never_turns (told.ending owes.Nothing (ends.Protocol fault)) (ending_other owes.Nothing (ends.Protocol fault) tt))
session_turns unread known =
    short_turns (told.ending owes.Nothing ends.Memory) lost (ending_other owes.Nothing ends.Memory tt) (never_turns lost (lost_ends Other))

pub told_turned : (level : Level) (requests : Requests) (entries : List Entry) (said : Said) → told_is level requests entries ≡ (said, ended (ends.Refused states.S54000)) →
    Turned (record { bytes = []; calls = [] }) entries said
unfolding told_is
told_turned level requests entries said is = (session_turns requests (at_start level)).at (record { bytes = []; calls = [] }) entries said is
