-- What a session ends by.
use Rattle.std.proofs.Common.{◌≡◌, ◌⊎◌, inl, inr, Bool, true, false, cond, ℕ, suc, List, [], ◌∷◌, length, refl, sym, subst, arith, ◌==◌}
use Rattle.std.proofs.lemmas.Bool.{ne_eqb}
use Rattle.cell_base.specs.declared.sql_state.SqlState.{SqlState}
use Rattle.cell_base.specs.declared.sql_state.SqlState.TheVariants as states
use Rattle.cell_base.specs.declared.level.Level.{Level}
use Rattle.history_core.specs.declared.fault.BookFault.TheVariants as faults
use Rattle.history_core.specs.declared.event.Event.{Event}
use Rattle.pg_framing.specs.declared.replies.TransactionState.{TransactionState}
use Rattle.pg_framing.specs.declared.replies.TransactionState.TheVariants as block_states
use Rattle.block_machine.specs.Calls as calls
use Rattle.block_machine.specs.Knowledge.{Knowledge, at_start}
use Rattle.block_machine.specs.Script.{Entry, did, refused, short, unsent, stop, Said, Next, more, call, ended, astray, Script, with_call, on_opened}
use Rattle.block_machine.specs.Messages.{owed_between, block_at, message as told_message}
use Rattle.block_machine.specs.declared.block.Owed.{Owed}
use Rattle.block_machine.specs.declared.block.Owed.TheVariants as owes
use Rattle.block_machine.specs.declared.call.Answer.{Answer}
use Rattle.block_machine.specs.declared.call.Answer.TheVariants as answers
use Rattle.block_machine.specs.declared.end.End.{End}
use Rattle.block_machine.specs.declared.end.End.TheVariants as ends
use Rattle.block_machine.specs.declared.end.Stop.{Stop}
use Rattle.block_machine.specs.declared.end.Stop.TheVariants as stops
use Rattle.block_machine.specs.declared.message.Message.TheVariants as messages
use Rattle.session_core.specs.declared.phase.Phase.{Phase}
use Rattle.session_core.specs.declared.phase.Phase.TheVariants as phases
use Rattle.session_core.specs.Requests.{Request, encryption, cancel, start, userless, version, query, unread_query, terminate, sync, nothing, extended, function, Requests, asks, partial, faulty, unread}
use Rattle.session_core.specs.Replies.{no_encryption, startup_reply, fatal_reply}
use Rattle.session_core.specs.Told as told
use Rattle.session_core.specs.Told.{outside_of, owed_by, stop_end, refusal_end, told as told_is}
use Rattle.session_laws.specs.Causes.{IsHeardOn, Has, IsUnsent, EndsBy}
use Rattle.session_laws.proofs.EndScripts.{Why, Is, IsFit, Holds, EndsIn, EndsAfter, lifted, lost_ends, ask_ends, tell_ends, short_ends, after_short}
use Rattle.session_laws.proofs.StatementsEnd.{fails}
use Rattle.session_laws.proofs.MessagesEnd.{Encloses, readied, message}

-- ---- what follows from a cause

-- the cause of an end, given what the client said
abbrev pub By : Requests → Why
By requests end entries = EndsBy end requests entries

pub by_is_fit : (requests : Requests) → IsFit (By requests)
by_is_fit requests = record { lifts = lifts; unsent_is = λ n entries. inl tt }
  where
    lifts : (e : Entry) (end : End) (entries : List Entry) → By requests end entries → By requests end (e ∷ entries)
    lifts e ends.Terminated entries h = h
    lifts e ends.Cancelled entries h = h
    lifts e ends.Closed entries h = (h.0, inr h.1)
    lifts e ends.Cut entries h = (h.0, inr h.1)
    lifts e (ends.Protocol fault) entries h = h
    lifts e (ends.Refused states.S28000) entries h = h
    lifts e (ends.Refused states.S0A000) entries h = h
    lifts e (ends.Refused states.S54000) entries h = inr h
    lifts e (ends.Refused _) entries h = absurd h
    lifts e ends.ReadFault entries h = inr h
    lifts e ends.Spent entries h = inr h
    lifts e ends.WriteFault entries h = inr h
    lifts e ends.Memory entries h = inr h

-- a request before the others changes no cause, where it isn't the end
further : (asked : Request) (requests : Requests) → IsHeardOn asked → (end : End) (entries : List Entry) → By requests end entries → By (asks asked requests) end entries
further asked requests on ends.Terminated entries h = inr (on, h)
further asked requests on ends.Cancelled entries h = inr (on, h)
further asked requests on ends.Closed entries h = ((on, h.0), h.1)
further asked requests on ends.Cut entries h = ((on, h.0), h.1)
further asked requests on (ends.Protocol fault) entries h = (on, h)
further asked requests on (ends.Refused states.S28000) entries h = inr (on, h)
further asked requests on (ends.Refused states.S0A000) entries h = inr (on, h)
further asked requests on (ends.Refused states.S54000) entries h = h
further asked requests on (ends.Refused _) entries h = absurd h
further asked requests on ends.ReadFault entries h = h
further asked requests on ends.Spent entries h = h
further asked requests on ends.WriteFault entries h = h
further asked requests on ends.Memory entries h = h

goes_further : (asked : Request) (requests : Requests) → IsHeardOn asked → (script : Script) → EndsIn (By requests) script → EndsIn (By (asks asked requests)) script
goes_further asked requests on script h = record { at = λ said entries. through entries (script said entries).1 (h.at said entries) }
  where
    through : (entries : List Entry) (next : Next) → Holds (By requests) entries next → Holds (By (asks asked requests)) entries next
    through entries more is = tt
    through entries (call c) is = tt
    through entries (ended end) is = further asked requests on end entries is
    through entries astray is = tt

-- ---- ends

-- this end, or that of a last reply which couldn't be sent
abbrev pub OrUnsent : End → Why
OrUnsent end found entries = (found ≡ end) ⊎ ((found ≡ ends.WriteFault) × Has IsUnsent entries)

or_is_fit : (end : End) → IsFit (OrUnsent end)
or_is_fit end = record {
  lifts = λ e found entries h. elim h [ inl one ↦ inl one | inr other ↦ inr (other.0, inr other.1) ];
  unsent_is = λ n entries. inr (refl, inl tt);
}

fit_write : IsFit (Is ends.WriteFault)
fit_write = record { lifts = λ e found entries h. h; unsent_is = λ n entries. refl }

pub write_at : (said : Said) (entries : List Entry) → Holds (Is ends.WriteFault) entries (told.done ends.WriteFault said entries).1
write_at said [] = refl
write_at said (e ∷ entries) = tt

pub write_ends : EndsIn (Is ends.WriteFault) (told.done ends.WriteFault)
write_ends = record { at = write_at }

broken_closing : EndsIn (Is ends.WriteFault) (told.closing ends.WriteFault)
broken_closing = ask_ends (Is ends.WriteFault) fit_write calls.Close (λ _. told.closed ends.WriteFault) (λ a. write_ends)

pub broken_ends : (owed : Owed) → EndsIn (Is ends.WriteFault) (told.broken owed)
broken_ends owes.Nothing = write_ends
broken_ends owes.Close = broken_closing
broken_ends owes.Rollback = ask_ends (Is ends.WriteFault) fit_write calls.Rollback (λ _. told.closing ends.WriteFault) (λ a. broken_closing)

done_at : (end : End) (said : Said) (entries : List Entry) → Holds (OrUnsent end) entries (told.done end said entries).1
done_at end said [] = inl refl
done_at end said (e ∷ entries) = tt

done_ends : (end : End) → EndsIn (OrUnsent end) (told.done end)
done_ends end = record { at = done_at end }

fatal_ends : (state : SqlState) (end : End) → EndsIn (OrUnsent end) (told.fatal state end)
fatal_ends state end =
    tell_ends (OrUnsent end) (or_is_fit end) (fatal_reply state) (told.done ends.WriteFault) (told.done end) write_ends (done_ends end)

closed_ends : (end : End) → EndsIn (OrUnsent end) (told.closed end)
closed_ends (ends.Protocol fault) = fatal_ends states.S08P01 (ends.Protocol fault)
closed_ends (ends.Refused state) = fatal_ends state (ends.Refused state)
closed_ends ends.Spent = fatal_ends states.S54000 ends.Spent
closed_ends ends.Terminated = done_ends ends.Terminated
closed_ends ends.Closed = done_ends ends.Closed
closed_ends ends.Cut = done_ends ends.Cut
closed_ends ends.Cancelled = done_ends ends.Cancelled
closed_ends ends.ReadFault = done_ends ends.ReadFault
closed_ends ends.WriteFault = done_ends ends.WriteFault
closed_ends ends.Memory = done_ends ends.Memory

closing_ends : (end : End) → EndsIn (OrUnsent end) (told.closing end)
closing_ends end = ask_ends (OrUnsent end) (or_is_fit end) calls.Close (λ _. told.closed end) (λ a. closed_ends end)

ending_ends : (owed : Owed) (end : End) → EndsIn (OrUnsent end) (told.ending owed end)
ending_ends owes.Nothing end = closed_ends end
ending_ends owes.Close end = closing_ends end
ending_ends owes.Rollback end = ask_ends (OrUnsent end) (or_is_fit end) calls.Rollback (λ _. told.closing end) (λ a. closing_ends end)

-- such an end has its cause in the first entry or in what was said
reach : (requests : Requests) (end : End) (e : Entry) (entries : List Entry) → By requests end (e ∷ entries) → (next : Next) →
    Holds (OrUnsent end) entries next → Holds (By requests) (e ∷ entries) next
reach requests end e entries cause more h = tt
reach requests end e entries cause (call c) h = tt
reach requests end e entries cause (ended found) h = elim h [
  | inl one ↦ subst (λ (x : End). By requests x (e ∷ entries)) (sym one) cause
  | inr other ↦ subst (λ (x : End). By requests x (e ∷ entries)) (sym other.0) (inr other.1)
]
reach requests end e entries cause astray h = tt

said_so : (requests : Requests) (end : End) → ((entries : List Entry) → By requests end entries) → (script : Script) → EndsIn (OrUnsent end) script →
    EndsIn (By requests) script
said_so requests end cause script h = record { at = λ said entries. through entries (script said entries).1 (h.at said entries) }
  where
    through : (entries : List Entry) (next : Next) → Holds (OrUnsent end) entries next → Holds (By requests) entries next
    through entries more is = tt
    through entries (call c) is = tt
    through entries (ended found) is = elim is [
      | inl one ↦ subst (λ (x : End). By requests x entries) (sym one) (cause entries)
      | inr other ↦ subst (λ (x : End). By requests x entries) (sym other.0) other.1
    ]
    through entries astray is = tt

-- out of memory, where that ends the session
memory_after : (requests : Requests) (script : Script) → EndsIn (OrUnsent ends.Memory) script → EndsAfter (By requests) true script
memory_after requests script h =
    record { at = λ n said entries. reach requests ends.Memory (short true n) entries (inl tt) (script said entries).1 (h.at said entries) }

unless_memory_ends : (requests : Requests) (phase : Phase) (rest : Script) → EndsIn (By requests) rest → EndsIn (By requests) (told.unless_memory_ends phase rest)
unless_memory_ends requests phase rest h =
    short_ends (By requests) true (told.ending (owed_by phase) ends.Memory) rest
    (memory_after requests (told.ending (owed_by phase) ends.Memory) (ending_ends (owed_by phase) ends.Memory)) h

-- ---- before the startup's end

tells_startup : (requests : Requests) (session : ℕ) (rest : Script) → EndsIn (By requests) rest → EndsIn (By requests) (told.tells_startup session rest)
tells_startup requests session rest h =
    short_ends (By requests) true (told.closing ends.Memory) _ (memory_after requests (told.closing ends.Memory) (closing_ends ends.Memory))
    (tell_ends (By requests) (by_is_fit requests) (startup_reply session) (told.broken owes.Close) rest (broken_ends owes.Close) h)

-- the session that is opened, or the refusal
abbrev pub opened : Script → Answer → Script
opened rest a = on_opened a (λ session. told.tells_startup session rest) (λ why. told.closed (refusal_end why))

opened_at : (requests : Requests) (rest : Script) → EndsIn (By requests) rest → (a : Answer) (event : Event) (said : Said) (entries : List Entry) →
    Holds (By requests) (did a event ∷ entries) (opened rest a said entries).1
opened_at requests rest h (answers.Opened session) event said entries =
    lifted (By requests) (by_is_fit requests) (did (answers.Opened session) event) entries (told.tells_startup session rest said entries).1
    ((tells_startup requests session rest h).at said entries)
opened_at requests rest h (answers.Refused faults.Memory) event said entries =
    reach requests ends.Memory (did (answers.Refused faults.Memory) event) entries (inl tt) (told.closed ends.Memory said entries).1
    ((closed_ends ends.Memory).at said entries)
opened_at requests rest h (answers.Refused (faults.Full limit)) event said entries =
    reach requests (ends.Refused states.S54000) (did (answers.Refused (faults.Full limit)) event) entries (inl tt)
    (told.closed (ends.Refused states.S54000) said entries).1 ((closed_ends (ends.Refused states.S54000)).at said entries)
opened_at requests rest h _ event said entries = tt

opens_at : (requests : Requests) (rest : Script) → EndsIn (By requests) rest → (said : Said) (entries : List Entry) →
    Holds (By requests) entries (told.opens rest said entries).1
opens_at requests rest h said [] = tt
opens_at requests rest h said (did a event ∷ entries) = opened_at requests rest h a event (with_call said calls.Open) entries
opens_at requests rest h said (refused faults.Memory ∷ entries) =
    reach requests ends.Memory (refused faults.Memory) entries (inl tt) (told.closed ends.Memory (with_call said calls.Open) entries).1
    ((closed_ends ends.Memory).at (with_call said calls.Open) entries)
opens_at requests rest h said (refused (faults.Full limit) ∷ entries) =
    reach requests (ends.Refused states.S54000) (refused (faults.Full limit)) entries (inl tt)
    (told.closed (ends.Refused states.S54000) (with_call said calls.Open) entries).1
    ((closed_ends (ends.Refused states.S54000)).at (with_call said calls.Open) entries)
opens_at requests rest h said (short final n ∷ entries) = tt
opens_at requests rest h said (unsent n ∷ entries) = tt
opens_at requests rest h said (stop cause ∷ entries) = tt

-- what follows a message ends so
abbrev GoesWell : Requests → (Phase → Knowledge → Script) → Type 0
GoesWell requests rest = (phase : Phase) (known : Knowledge) → EndsIn (By requests) (rest phase known)

starting : (asked : Request) (requests : Requests) (known : Knowledge) (rest : Phase → Knowledge → Script) → GoesWell requests rest →
    EndsIn (By (asks asked requests)) (told.starting asked known rest)
starting encryption requests known rest well =
    tell_ends (By (asks encryption requests)) (by_is_fit (asks encryption requests)) no_encryption (told.broken owes.Nothing) (rest phases.Startup known)
    (broken_ends owes.Nothing) (goes_further encryption requests tt (rest phases.Startup known) (well phases.Startup known))
starting cancel requests known rest well =
    said_so (asks cancel requests) ends.Cancelled (λ entries. inl tt) (told.closed ends.Cancelled) (closed_ends ends.Cancelled)
starting start requests known rest well = record {
  at = opens_at (asks start requests) (rest (phases.Normal block_states.Idle) known)
      (goes_further start requests tt (rest (phases.Normal block_states.Idle) known) (well (phases.Normal block_states.Idle) known));
}
starting userless requests known rest well =
    said_so (asks userless requests) (ends.Refused states.S28000) (λ entries. inl tt) (told.closed (ends.Refused states.S28000)) (closed_ends (ends.Refused states.S28000))
starting version requests known rest well =
    said_so (asks version requests) (ends.Refused states.S0A000) (λ entries. inl tt) (told.closed (ends.Refused states.S0A000)) (closed_ends (ends.Refused states.S0A000))
starting asked requests known rest well = lost_ends (By (asks asked requests))

-- ---- after the startup

encloses : (requests : Requests) (rest : Phase → Knowledge → Script) → GoesWell requests rest → Encloses (By requests) (outside_of rest)
encloses requests rest well = record { next = λ state k. well (phases.Normal state) k; broken = broken_ends }

terminates : (requests : Requests) (state : TransactionState) → EndsIn (By (asks terminate requests)) (told.ending (owed_between state) ends.Terminated)
terminates requests state =
    said_so (asks terminate requests) ends.Terminated (λ entries. inl tt) (told.ending (owed_between state) ends.Terminated)
    (ending_ends (owed_between state) ends.Terminated)

refuses : (requests : Requests) (state : TransactionState) (known : Knowledge) (rest : Phase → Knowledge → Script) → GoesWell requests rest →
    EndsIn (By requests) (told.refuses state known rest)
refuses requests state known rest well =
    fails (By requests) (by_is_fit requests) _
    (record { succeeded = λ b k. lost_ends (By requests); failed = λ after k. well (phases.Discarding after) k; broken = broken_ends })
    states.S0A000 (block_at state) known

serving : (asked : Request) (requests : Requests) (state : TransactionState) (known : Knowledge) (rest : Phase → Knowledge → Script) → GoesWell requests rest →
    EndsIn (By (asks asked requests)) (told.serving asked state known rest)
serving (query asked) requests state known rest well =
    goes_further (query asked) requests tt _ (message (By requests) (by_is_fit requests) (outside_of rest) (encloses requests rest well) asked state known)
serving unread_query requests state known rest well =
    goes_further unread_query requests tt _
    (short_ends (By requests) false (told_unread) _
    (after_short (By requests) (by_is_fit requests) false told_unread
    (message (By requests) (by_is_fit requests) (outside_of rest) (encloses requests rest well) (messages.Unread states.S53200) state known))
    (lost_ends (By requests)))
  where
    told_unread : Script
    told_unread = told_message (messages.Unread states.S53200) state known (outside_of rest)
serving terminate requests state known rest well = terminates requests state
serving sync requests state known rest well =
    goes_further sync requests tt _ (readied (By requests) (by_is_fit requests) (outside_of rest) (encloses requests rest well) state known)
serving nothing requests state known rest well = goes_further nothing requests tt (rest (phases.Normal state) known) (well (phases.Normal state) known)
serving extended requests state known rest well = goes_further extended requests tt _ (refuses requests state known rest well)
serving function requests state known rest well =
    goes_further function requests tt _
    (message (By requests) (by_is_fit requests) (outside_of rest) (encloses requests rest well) (messages.Unread states.S0A000) state known)
serving asked requests state known rest well = lost_ends (By (asks asked requests))

discarding : (asked : Request) (requests : Requests) (state : TransactionState) (known : Knowledge) (rest : Phase → Knowledge → Script) → GoesWell requests rest →
    EndsIn (By (asks asked requests)) (told.discarding asked state known rest)
discarding terminate requests state known rest well = terminates requests state
discarding sync requests state known rest well =
    goes_further sync requests tt _ (readied (By requests) (by_is_fit requests) (outside_of rest) (encloses requests rest well) state known)
discarding asked requests state known rest well =
    goes_further asked requests tt (rest (phases.Discarding state) known) (well (phases.Discarding state) known)

handled : (asked : Request) (requests : Requests) (phase : Phase) (known : Knowledge) (rest : Phase → Knowledge → Script) → GoesWell requests rest →
    EndsIn (By (asks asked requests)) (told.handled asked phase known rest)
handled asked requests phases.Startup known rest well = starting asked requests known rest well
handled asked requests (phases.Normal state) known rest well = serving asked requests state known rest well
handled asked requests (phases.Discarding state) known rest well = discarding asked requests state known rest well

-- ---- the whole stream

not_zero : (n : ℕ) → (suc n == 0) ≡ false
not_zero n = ne_eqb (suc n) 0 (λ e. omega arith)

waits_by : (rest : List ℕ) (cause : Stop) (entries : List Entry) → By (partial rest) (stop_end cause (length rest)) (stop cause ∷ entries)
waits_by [] stops.EndOfInput entries = (tt, inl refl)
waits_by (byte ∷ bytes) stops.EndOfInput entries =
    subst (λ (b : Bool). By (partial (byte ∷ bytes)) (cond b ends.Closed ends.Cut) (stop stops.EndOfInput ∷ entries)) (sym (not_zero (length bytes)))
    (tt, inl refl)
waits_by rest stops.ReadFault entries = inl refl
waits_by rest stops.Spent entries = inl refl

waits : (rest : List ℕ) (phase : Phase) (said : Said) (entries : List Entry) → Holds (By (partial rest)) entries (told.waiting phase (length rest) said entries).1
waits rest phase said [] = tt
waits rest phase said (stop cause ∷ entries) =
    reach (partial rest) (stop_end cause (length rest)) (stop cause) entries (waits_by rest cause entries)
    (told.ending (owed_by phase) (stop_end cause (length rest)) said entries).1
    ((ending_ends (owed_by phase) (stop_end cause (length rest))).at said entries)
waits rest phase said (did a e ∷ entries) = tt
waits rest phase said (refused why ∷ entries) = tt
waits rest phase said (short final n ∷ entries) = tt
waits rest phase said (unsent n ∷ entries) = tt

pub session_ends : (requests : Requests) (phase : Phase) (known : Knowledge) → EndsIn (By requests) (told.session phase known requests)
session_ends (asks asked requests) phase known =
    unless_memory_ends (asks asked requests) phase _
    (handled asked requests phase known (λ p k. told.session p k requests) (λ p k. session_ends requests p k))
session_ends (partial rest) phase known = unless_memory_ends (partial rest) phase (told.waiting phase (length rest)) (record { at = waits rest phase })
session_ends (faulty fault) phase known =
    unless_memory_ends (faulty fault) phase _
    (said_so (faulty fault) (ends.Protocol fault) (λ entries. refl) (told.ending (owed_by phase) (ends.Protocol fault))
    (ending_ends (owed_by phase) (ends.Protocol fault)))
session_ends unread phase known = unless_memory_ends unread phase _ (lost_ends (By unread))

-- ---- what is told

pub told_ends : (level : Level) (requests : Requests) (entries : List Entry) (said : Said) (end : End) → told_is level requests entries ≡ (said, ended end) →
    EndsBy end requests entries
unfolding told_is
told_ends level requests entries said end is =
    subst (λ (x : Said × Next). Holds (By requests) entries x.1) is
    ((session_ends requests phases.Startup (at_start level)).at (record { bytes = []; calls = [] }) entries)
