-- Which end a session comes to.
use Rattle.std.proofs.Common.{◌≡◌, ◌⊎◌, inl, inr, Bool, true, false, ℕ, List, [], ◌∷◌, length, refl, sym, ◌∙◌, subst, Some, None}
use Rattle.std.proofs.lemmas.Option.{none-some}
use Rattle.cell_base.specs.declared.sql_state.SqlState.TheVariants as states
use Rattle.link_traits.specs.Faults.{Rose}
use Rattle.link_traits.specs.Traffic.{Sight}
use Rattle.history_core.specs.declared.event.Event.{Event}
use Rattle.history_core.specs.declared.fault.BookFault.TheVariants as faults
use Rattle.pg_framing.specs.declared.replies.TransactionState.{TransactionState}
use Rattle.pg_framing.specs.declared.replies.TransactionState.TheVariants as block_states
use Rattle.block_machine.specs.Calls as calls
use Rattle.block_machine.specs.Knowledge.{Knowledge, at_start}
use Rattle.block_machine.specs.Messages.{owed_between, block_at, message as told_message}
use Rattle.block_machine.specs.Script.{Entry, did, refused, short, unsent, stop, Said, Next, Script, with_call, on_opened}
use Rattle.block_machine.specs.declared.block.Owed.TheVariants as owes
use Rattle.block_machine.specs.declared.call.Answer.{Answer}
use Rattle.block_machine.specs.declared.call.Answer.TheVariants as answers
use Rattle.block_machine.specs.declared.end.End.{End}
use Rattle.block_machine.specs.declared.end.End.TheVariants as ends
use Rattle.block_machine.specs.declared.message.Message.TheVariants as messages
use Rattle.session_core.specs.declared.phase.Phase.{Phase}
use Rattle.session_core.specs.declared.phase.Phase.TheVariants as phases
use Rattle.session_core.specs.Ends.{outer_end}
use Rattle.session_core.specs.Requests.{Request, encryption, cancel, start, userless, version, query, unread_query, terminate, sync, nothing, extended, function, Requests, asks, partial, faulty, unread}
use Rattle.session_core.specs.Replies.{no_encryption, startup_reply}
use Rattle.session_core.specs.Serve.{Blames}
use Rattle.session_core.specs.Told as told
use Rattle.session_core.specs.Told.{outside_of, owed_by, stop_end, told as told_is}
use Rattle.session_laws.specs.Causes.{Has, Stops, IsUnsent, LacksMemory, IsFull}
use Rattle.session_laws.proofs.EndScripts.{Why, IsFit, Holds, EndsIn, lifted, lost_ends, tell_ends, short_ends, after_short}
use Rattle.session_laws.proofs.StatementsEnd.{fails}
use Rattle.session_laws.proofs.MessagesEnd.{Encloses, readied, message}
use Rattle.session_laws.proofs.SessionsEnd.{broken_ends}
use Rattle.session_laws.specs.Exactly.{end_said, IsHindered, IsItsEnd, EndsAreExact, ServedEndsAreExact, SayingEnds}
use Rattle.session_laws.proofs.Ending.{After, after_fit, moved, closed_in, closing_in, ending_in}

-- ---- the end, given what the client said

abbrev By : Bool → Requests → Why
By started requests end entries = IsItsEnd started requests end entries

-- another entry changes nothing
hindered_with : (end : End) (before after : List Entry) → ((Is : Entry → Type 0) → Has Is before → Has Is after) → IsHindered end before → IsHindered end after
hindered_with end before after more (inl unsent_is) = inl (unsent_is.0, more IsUnsent unsent_is.1)
hindered_with end before after more (inr (inl lacks)) = inr (inl (lacks.0, more LacksMemory lacks.1))
hindered_with end before after more (inr (inr full)) = inr (inr (full.0, more IsFull full.1))

ends_with : (started : Bool) (requests : Requests) (end : End) (before after : List Entry) → ((Is : Entry → Type 0) → Has Is before → Has Is after) →
    By started requests end before → By started requests end after
ends_with started requests end before after more (inl said) = inl said
ends_with started requests end before after more (inr (inl s)) =
    inr (inl (record { cause = s.cause; stops = more (Stops s.cause) s.stops; none_said = s.none_said; end_is = s.end_is }))
ends_with started requests end before after more (inr (inr h)) = inr (inr (hindered_with end before after more h))

by_fit : (started : Bool) (requests : Requests) → IsFit (By started requests)
by_fit started requests = record {
  lifts = λ e end entries h. ends_with started requests end entries (e ∷ entries) (λ Is has. inr has) h;
  unsent_is = λ n entries. inr (inr (inl (refl, inl tt)));
}

between : (Is : Entry → Type 0) (e x : Entry) (entries : List Entry) → Has Is (e ∷ entries) → Has Is (e ∷ x ∷ entries)
between Is e x entries (inl first) = inl first
between Is e x entries (inr later) = inr (inr later)

by_after : (started : Bool) (requests : Requests) (e : Entry) → IsFit (After (By started requests) e)
by_after started requests e =
    after_fit (By started requests) (by_fit started requests) e
    (record { passes = λ x end entries h. ends_with started requests end (e ∷ entries) (e ∷ x ∷ entries) (λ Is has. between Is e x entries has) h })

-- ---- lacks of memory, refusals and stops

lacks_first : (started : Bool) (requests : Requests) (e : Entry) → LacksMemory e → (entries : List Entry) → By started requests ends.Memory (e ∷ entries)
lacks_first started requests e lacks entries = inr (inr (inr (inl (refl, inl lacks))))

full_first : (started : Bool) (requests : Requests) (e : Entry) → IsFull e → (entries : List Entry) →
    By started requests (ends.Refused states.S54000) (e ∷ entries)
full_first started requests e full entries = inr (inr (inr (inr (refl, inl full))))

unless_memory_ends : (started : Bool) (requests : Requests) (phase : Phase) (rest : Script) → EndsIn (By started requests) rest →
    EndsIn (By started requests) (told.unless_memory_ends phase rest)
unless_memory_ends started requests phase rest h =
    short_ends (By started requests) true (told.ending (owed_by phase) ends.Memory) rest (record {
      at = λ n said entries.
          moved (By started requests) (short true n) entries (told.ending (owed_by phase) ends.Memory said entries).1
          ((ending_in (After (By started requests) (short true n)) (by_after started requests (short true n)) (owed_by phase) ends.Memory
          (lacks_first started requests (short true n) tt)).at said entries);
    }) h

-- ---- before the startup's end

tells_startup : (requests : Requests) (session : ℕ) (rest : Script) → EndsIn (By false requests) rest → EndsIn (By false requests) (told.tells_startup session rest)
tells_startup requests session rest h =
    short_ends (By false requests) true (told.closing ends.Memory) _ (record {
      at = λ n said entries.
          moved (By false requests) (short true n) entries (told.closing ends.Memory said entries).1
          ((closing_in (After (By false requests) (short true n)) (by_after false requests (short true n)) ends.Memory
          (lacks_first false requests (short true n) tt)).at said entries);
    })
    (tell_ends (By false requests) (by_fit false requests) (startup_reply session) (told.broken owes.Close) rest (broken_ends owes.Close) h)

-- the session's opening was refused by this entry
turned_away : (requests : Requests) (end : End) (e : Entry) → ((entries : List Entry) → By false requests end (e ∷ entries)) → (said : Said) (entries : List Entry) →
    Holds (By false requests) (e ∷ entries) (told.closed end said entries).1
turned_away requests end e h said entries =
    moved (By false requests) e entries (told.closed end said entries).1
    ((closed_in (After (By false requests) e) (by_after false requests e) end h).at said entries)

-- the session that is opened, or the refusal
abbrev opened : Script → Answer → Script
opened rest a = on_opened a (λ session. told.tells_startup session rest) (λ why. told.closed (told.refusal_end why))

opened_at : (requests : Requests) (rest : Script) → EndsIn (By false requests) rest → (a : Answer) (event : Event) (said : Said) (entries : List Entry) →
    Holds (By false requests) (did a event ∷ entries) (opened rest a said entries).1
opened_at requests rest h (answers.Opened session) event said entries =
    lifted (By false requests) (by_fit false requests) (did (answers.Opened session) event) entries (told.tells_startup session rest said entries).1
    ((tells_startup requests session rest h).at said entries)
opened_at requests rest h (answers.Refused faults.Memory) event said entries =
    turned_away requests ends.Memory (did (answers.Refused faults.Memory) event) (lacks_first false requests (did (answers.Refused faults.Memory) event) tt) said entries
opened_at requests rest h (answers.Refused (faults.Full limit)) event said entries =
    turned_away requests (ends.Refused states.S54000) (did (answers.Refused (faults.Full limit)) event)
    (full_first false requests (did (answers.Refused (faults.Full limit)) event) tt) said entries
opened_at requests rest h _ event said entries = tt

opens_at : (requests : Requests) (rest : Script) → EndsIn (By false requests) rest → (said : Said) (entries : List Entry) →
    Holds (By false requests) entries (told.opens rest said entries).1
opens_at requests rest h said [] = tt
opens_at requests rest h said (did a event ∷ entries) = opened_at requests rest h a event (with_call said calls.Open) entries
opens_at requests rest h said (refused faults.Memory ∷ entries) =
    turned_away requests ends.Memory (refused faults.Memory) (lacks_first false requests (refused faults.Memory) tt) (with_call said calls.Open) entries
opens_at requests rest h said (refused (faults.Full limit) ∷ entries) =
    turned_away requests (ends.Refused states.S54000) (refused (faults.Full limit)) (full_first false requests (refused (faults.Full limit)) tt)
    (with_call said calls.Open) entries
opens_at requests rest h said (short final n ∷ entries) = tt
opens_at requests rest h said (unsent n ∷ entries) = tt
opens_at requests rest h said (stop cause ∷ entries) = tt

-- whether a session in this phase has had its startup
abbrev started_in : Phase → Bool
started_in phases.Startup = false
started_in (phases.Normal state) = true
started_in (phases.Discarding state) = true

-- what follows a message ends so
abbrev GoesWell : Requests → (Phase → Knowledge → Script) → Type 0
GoesWell requests rest = (phase : Phase) (known : Knowledge) → EndsIn (By (started_in phase) requests) (rest phase known)

starting : (asked : Request) (requests : Requests) (known : Knowledge) (rest : Phase → Knowledge → Script) → GoesWell requests rest →
    EndsIn (By false (asks asked requests)) (told.starting asked known rest)
starting encryption requests known rest well =
    tell_ends (By false (asks encryption requests)) (by_fit false (asks encryption requests)) no_encryption (told.broken owes.Nothing) (rest phases.Startup known)
    (broken_ends owes.Nothing) (well phases.Startup known)
starting cancel requests known rest well =
    closed_in (By false (asks cancel requests)) (by_fit false (asks cancel requests)) ends.Cancelled (λ entries. inl refl)
starting start requests known rest well = record {
  at = opens_at (asks start requests) (rest (phases.Normal block_states.Idle) known) (well (phases.Normal block_states.Idle) known);
}
starting userless requests known rest well =
    closed_in (By false (asks userless requests)) (by_fit false (asks userless requests)) (ends.Refused states.S28000) (λ entries. inl refl)
starting version requests known rest well =
    closed_in (By false (asks version requests)) (by_fit false (asks version requests)) (ends.Refused states.S0A000) (λ entries. inl refl)
starting asked requests known rest well = lost_ends (By false (asks asked requests))

-- ---- after the startup

encloses : (requests : Requests) (rest : Phase → Knowledge → Script) → GoesWell requests rest → Encloses (By true requests) (outside_of rest)
encloses requests rest well = record { next = λ state k. well (phases.Normal state) k; broken = broken_ends }

terminates : (requests : Requests) (state : TransactionState) → EndsIn (By true (asks terminate requests)) (told.ending (owed_between state) ends.Terminated)
terminates requests state =
    ending_in (By true (asks terminate requests)) (by_fit true (asks terminate requests)) (owed_between state) ends.Terminated (λ entries. inl refl)

refuses : (requests : Requests) (state : TransactionState) (known : Knowledge) (rest : Phase → Knowledge → Script) → GoesWell requests rest →
    EndsIn (By true requests) (told.refuses state known rest)
refuses requests state known rest well =
    fails (By true requests) (by_fit true requests) _
    (record { succeeded = λ b k. lost_ends (By true requests); failed = λ after k. well (phases.Discarding after) k; broken = broken_ends })
    states.S0A000 (block_at state) known

serving : (asked : Request) (requests : Requests) (state : TransactionState) (known : Knowledge) (rest : Phase → Knowledge → Script) → GoesWell requests rest →
    EndsIn (By true (asks asked requests)) (told.serving asked state known rest)
serving (query asked) requests state known rest well =
    message (By true requests) (by_fit true requests) (outside_of rest) (encloses requests rest well) asked state known
serving unread_query requests state known rest well =
    short_ends (By true requests) false (told_unread) _
    (after_short (By true requests) (by_fit true requests) false told_unread
    (message (By true requests) (by_fit true requests) (outside_of rest) (encloses requests rest well) (messages.Unread states.S53200) state known))
    (lost_ends (By true requests))
  where
    told_unread : Script
    told_unread = told_message (messages.Unread states.S53200) state known (outside_of rest)
serving terminate requests state known rest well = terminates requests state
serving sync requests state known rest well = readied (By true requests) (by_fit true requests) (outside_of rest) (encloses requests rest well) state known
serving nothing requests state known rest well = well (phases.Normal state) known
serving extended requests state known rest well = refuses requests state known rest well
serving function requests state known rest well =
    message (By true requests) (by_fit true requests) (outside_of rest) (encloses requests rest well) (messages.Unread states.S0A000) state known
serving asked requests state known rest well = lost_ends (By true (asks asked requests))

discarding : (asked : Request) (requests : Requests) (state : TransactionState) (known : Knowledge) (rest : Phase → Knowledge → Script) → GoesWell requests rest →
    EndsIn (By true (asks asked requests)) (told.discarding asked state known rest)
discarding terminate requests state known rest well = terminates requests state
discarding sync requests state known rest well = readied (By true requests) (by_fit true requests) (outside_of rest) (encloses requests rest well) state known
discarding asked requests state known rest well = well (phases.Discarding state) known

handled : (asked : Request) (requests : Requests) (phase : Phase) (known : Knowledge) (rest : Phase → Knowledge → Script) → GoesWell requests rest →
    EndsIn (By (started_in phase) (asks asked requests)) (told.handled asked phase known rest)
handled asked requests phases.Startup known rest well = starting asked requests known rest well
handled asked requests (phases.Normal state) known rest well = serving asked requests state known rest well
handled asked requests (phases.Discarding state) known rest well = discarding asked requests state known rest well

-- ---- the whole stream

none_partial : (started : Bool) (rest : List ℕ) → end_said started (partial rest) ≡ None
none_partial true rest = refl
none_partial false rest = refl

some_faulty : (started : Bool) (fault : _) → end_said started (faulty fault) ≡ Some (ends.Protocol fault)
some_faulty true fault = refl
some_faulty false fault = refl

waits : (started : Bool) (rest : List ℕ) (phase : Phase) (said : Said) (entries : List Entry) →
    Holds (By started (partial rest)) entries (told.waiting phase (length rest) said entries).1
waits started rest phase said [] = tt
waits started rest phase said (stop cause ∷ entries) =
    moved (By started (partial rest)) (stop cause) entries (told.ending (owed_by phase) (stop_end cause (length rest)) said entries).1
    ((ending_in (After (By started (partial rest)) (stop cause)) (by_after started (partial rest) (stop cause)) (owed_by phase) (stop_end cause (length rest))
    (λ later. inr (inl (record { cause = cause; stops = inl refl; none_said = none_partial started rest; end_is = refl })))).at said entries)
waits started rest phase said (did a e ∷ entries) = tt
waits started rest phase said (refused why ∷ entries) = tt
waits started rest phase said (short final n ∷ entries) = tt
waits started rest phase said (unsent n ∷ entries) = tt

session_ends : (requests : Requests) (phase : Phase) (known : Knowledge) → EndsIn (By (started_in phase) requests) (told.session phase known requests)
session_ends (asks asked requests) phase known =
    unless_memory_ends (started_in phase) (asks asked requests) phase _
    (handled asked requests phase known (λ p k. told.session p k requests) (λ p k. session_ends requests p k))
session_ends (partial rest) phase known =
    unless_memory_ends (started_in phase) (partial rest) phase (told.waiting phase (length rest)) (record { at = waits (started_in phase) rest phase })
session_ends (faulty fault) phase known =
    unless_memory_ends (started_in phase) (faulty fault) phase _
    (ending_in (By (started_in phase) (faulty fault)) (by_fit (started_in phase) (faulty fault)) (owed_by phase) (ends.Protocol fault)
    (λ entries. inl (some_faulty (started_in phase) fault)))
session_ends unread phase known = unless_memory_ends (started_in phase) unread phase _ (lost_ends (By (started_in phase) unread))

-- ---- what is told

pub told_exactly : EndsAreExact
unfolding told_is
told_exactly level requests entries said end is =
    subst (λ (x : Said × Next). Holds (By false requests) entries x.1) is
    ((session_ends requests phases.Startup (at_start level)).at (record { bytes = []; calls = [] }) entries)

pub served_exactly : {W : Type 0} (gives : W → ℕ → W → Type 0) → ServedEndsAreExact gives
served_exactly gives level before outcome after account s =
    told_exactly level s.requests account.entries (record { bytes = account.sent; calls = account.calls }) outcome.end s.told_is

-- a failed write was counted
counted_write : (end : End) (before after : Sight) (taken : List ℕ) → end ≡ ends.WriteFault → Blames (outer_end end) before after taken →
    Rose before.write_faults after.write_faults
counted_write end before after taken is blames = subst (λ (e : End). Blames (outer_end e) before after taken) is blames

pub saying_ends : {W : Type 0} (gives : W → ℕ → W → Type 0) → SayingEnds gives
saying_ends gives level before outcome after account end s says = go (served_exactly gives level before outcome after account s)
  where
    go : IsItsEnd false s.requests outcome.end account.entries →
        (outcome.end ≡ end)
        ⊎ (((outcome.end ≡ ends.WriteFault) × Rose before.link.write_faults after.link.write_faults)
        ⊎ (((outcome.end ≡ ends.Memory) × Has LacksMemory account.entries)
        ⊎ ((outcome.end ≡ ends.Refused states.S54000) × Has IsFull account.entries)))
    go (inl same) = let both : Some outcome.end ≡ Some end = sym same ∙ says in inl (cc)
    go (inr (inl stopped)) = absurd (none-some end (sym stopped.none_said ∙ says))
    go (inr (inr (inl w))) = inr (inl (w.0, counted_write outcome.end before.link after.link account.taken w.0 s.blames))
    go (inr (inr (inr (inl m)))) = inr (inr (inl m))
    go (inr (inr (inr (inr f)))) = inr (inr (inr f))
