-- Sessions that hear the same bytes agree.
use Rattle.std.proofs.Common.{◌≡◌, inl, inr, ◌⊎◌, Bool, true, false, ℕ, List, [], ◌∷◌, ◌++◌, cond, length, refl, sym, ◌∙◌, ap, subst, append_assoc}
use Rattle.std.specs.Prelude.{◌==◌}
use Rattle.std.proofs.lemmas.List.{append-nil}
use Rattle.cell_base.specs.declared.sql_state.SqlState.TheVariants as states
use Rattle.client_framing.specs.declared.frontend_message.FrontendMessage.{FrontendMessage}
use Rattle.client_framing.specs.declared.frontend_message.FrameFault.{FrameFault}
use Rattle.client_framing.specs.declared.frontend_message.FrontendMessage.TheVariants.{Ssl, Gss, Cancel, Startup, Version, Query, Terminate, Sync, Flush, Extended, FunctionCall, Copy}
use Rattle.client_framing.specs.Spelling.{phase_after}
use Rattle.client_framing.specs.Fronts.{TakesFront}
use Rattle.client_framing.proofs.Streams.{front_unique, after_unique, front_no_fault, fault_unique, fault_stays}
use Rattle.pg_framing.specs.declared.replies.TransactionState.{TransactionState}
use Rattle.pg_framing.specs.declared.replies.TransactionState.TheVariants as block_states
use Rattle.history_book.specs.Book.{Past}
use Rattle.block_machine.specs.Calls.{Call}
use Rattle.block_machine.specs.Calls as calls
use Rattle.block_machine.specs.Knowledge.{Knowledge}
use Rattle.block_machine.specs.Script.{Entry, did, refused, short, unsent, stop, Next, more, ended, Said, Script, lost, on_opened, tell}
use Rattle.block_machine.specs.Messages as messages
use Rattle.block_machine.specs.Messages.{owed_between, block_at, IsMessage}
use Rattle.block_machine.specs.declared.block.Owed.TheVariants as owes
use Rattle.block_machine.specs.declared.end.End.{End}
use Rattle.block_machine.specs.declared.end.End.TheVariants as ends
use Rattle.block_machine.specs.declared.end.Stop.{Stop}
use Rattle.block_machine.specs.declared.end.Stop.TheVariants as stops
use Rattle.block_machine.specs.declared.message.Message.{Message}
use Rattle.block_machine.specs.declared.message.Message.TheVariants as asked_by
use Rattle.session_core.specs.declared.phase.Phase.{Phase}
use Rattle.session_core.specs.declared.phase.Phase.TheVariants as phases
use Rattle.session_core.specs.Replies.{no_encryption, startup_reply}
use Rattle.session_core.specs.Users.{HasUser}
use Rattle.session_core.specs.Requests.{Request, encryption, cancel, start, userless, version, query, unread_query, terminate, sync, nothing, extended, function, Requests, asks, partial, faulty, unread, AreRequests, Says}
use Rattle.session_core.specs.Record.{IsValidRecord}
use Rattle.session_core.specs.Told as told
use Rattle.session_core.specs.Told.{broken, closed, closing, ending, owed_by, outside_of, refusal_end, stop_end, tells_startup, waiting, unless_memory_ends}
use Rattle.choice_stream.specs.Choices.{DrawsFirst}
use Rattle.program_laws.specs.OneHistory.{WantsMore, ReadsPart}
use Rattle.program_laws.proofs.Rides.{Goes, Grows, Rides, Agree, IsNever, lost_never, lost_agrees, never_left, never_right, tell_agrees, at_rest_agrees, at_rest_on, astray_ended}
use Rattle.program_laws.proofs.Turning.{ask_agrees}
use Rattle.program_laws.proofs.Cases.{opened_agrees}
use Rattle.program_laws.proofs.Statements.{fails}
use Rattle.program_laws.proofs.Messages.{Beside, readied, message}
use Rattle.program_laws.proofs.Endings.{AreAlike, closed_agrees, ending_agrees, ending_end, breaks}
use Rattle.program_laws.proofs.OneMessage.{one_message}

-- what follows a message agrees
abbrev pub Follow : Type 0
Follow = Phase → Knowledge → Script

abbrev pub FollowAlike : (End → Type 0) → Follow → Follow → Type 0
FollowAlike E s t = (p : Phase) (k : Knowledge) → Agree E (s p k) (t p k)

-- ---- before the startup

startup_told : (E : End → Type 0) → (session : ℕ) (s t : Script) → Agree E s t → Agree E (tells_startup session s) (tells_startup session t)
startup_told E session s t agree =
    at_rest_agrees E true (closing ends.Memory) (closing ends.Memory) (tell (startup_reply session) (broken owes.Close) s)
    (tell (startup_reply session) (broken owes.Close) t)
    (tell_agrees E (startup_reply session) (broken owes.Close) (broken owes.Close) s t (breaks owes.Close) (breaks owes.Close) agree)

opens : (E : End → Type 0) → (s t : Script) → Agree E s t → Agree E (told.opens s) (told.opens t)
opens E s t agree =
    ask_agrees E calls.Open (λ a. on_opened a (λ session. tells_startup session s) (λ why. closed (refusal_end why)))
    (λ a. on_opened a (λ session. tells_startup session t) (λ why. closed (refusal_end why)))
    (λ a. opened_agrees E a (λ session. tells_startup session s) (λ session. tells_startup session t) (λ why. closed (refusal_end why))
    (λ why. closed (refusal_end why)) (λ session. startup_told E session s t agree) (λ why. closed_agrees E (refusal_end why) (refusal_end why) (inl refl)))

starting : (E : End → Type 0) → (asked : Request) (known : Knowledge) (s t : Follow) → FollowAlike E s t → Agree E (told.starting asked known s) (told.starting asked known t)
starting E encryption known s t h =
    tell_agrees E no_encryption (broken owes.Nothing) (broken owes.Nothing) (s phases.Startup known) (t phases.Startup known)
    (breaks owes.Nothing) (breaks owes.Nothing) (h phases.Startup known)
starting E cancel known s t h = closed_agrees E ends.Cancelled ends.Cancelled (inl refl)
starting E start known s t h = opens E (s (phases.Normal block_states.Idle) known) (t (phases.Normal block_states.Idle) known) (h (phases.Normal block_states.Idle) known)
starting E userless known s t h = closed_agrees E (ends.Refused states.S28000) (ends.Refused states.S28000) (inl refl)
starting E version known s t h = closed_agrees E (ends.Refused states.S0A000) (ends.Refused states.S0A000) (inl refl)
starting E (query m) known s t h = (lost_agrees E)
starting E unread_query known s t h = (lost_agrees E)
starting E terminate known s t h = (lost_agrees E)
starting E sync known s t h = (lost_agrees E)
starting E nothing known s t h = (lost_agrees E)
starting E extended known s t h = (lost_agrees E)
starting E function known s t h = (lost_agrees E)

-- ---- after the startup

beside : (E : End → Type 0) → (s t : Follow) → FollowAlike E s t → Beside E (outside_of s) (outside_of t)
beside E s t h = record {
  next = λ state k. h (phases.Normal state) k;
  left = breaks;
  right = breaks;
}

refuses : (E : End → Type 0) → (state : TransactionState) (known : Knowledge) (s t : Follow) → FollowAlike E s t →
    Agree E (told.refuses state known s) (told.refuses state known t)
refuses E state known s t h =
    fails E (record { succeeded = λ block k. lost; failed = λ after k. s (phases.Discarding after) k; broken = broken })
    (record { succeeded = λ block k. lost; failed = λ after k. t (phases.Discarding after) k; broken = broken })
    (record {
      succeeded = λ block k. (lost_agrees E);
      failed = λ after k. h (phases.Discarding after) k;
      left = breaks;
      right = breaks;
    })
    states.S0A000 (block_at state) known

-- a query that nobody reads needs a lack of memory
unread_never : (state : TransactionState) (known : Knowledge) (s : Follow) → IsNever (told.serving unread_query state known s)
unread_never state known s said es out end goes =
    lost_never said es out end
    (at_rest_on false (messages.message (asked_by.Unread states.S53200) state known (outside_of s)) lost said es out end
    (record { is = goes.is; at_rest = goes.at_rest; written = goes.written }))

serving : (E : End → Type 0) → (asked : Request) (state : TransactionState) (known : Knowledge) (s t : Follow) → FollowAlike E s t →
    Agree E (told.serving asked state known s) (told.serving asked state known t)
serving E (query asked) state known s t h = message E (outside_of s) (outside_of t) (beside E s t h) asked state known
serving E unread_query state known s t h =
    at_rest_agrees E false (messages.message (asked_by.Unread states.S53200) state known (outside_of s))
    (messages.message (asked_by.Unread states.S53200) state known (outside_of t)) lost lost (lost_agrees E)
serving E terminate state known s t h = ending_agrees E (owed_between state) ends.Terminated ends.Terminated (inl refl)
serving E sync state known s t h = readied E (outside_of s) (outside_of t) (beside E s t h) state known
serving E nothing state known s t h = h (phases.Normal state) known
serving E extended state known s t h = refuses E state known s t h
serving E function state known s t h =
    message E (outside_of s) (outside_of t) (beside E s t h) (asked_by.Unread states.S0A000) state known
serving E encryption state known s t h = (lost_agrees E)
serving E cancel state known s t h = (lost_agrees E)
serving E start state known s t h = (lost_agrees E)
serving E userless state known s t h = (lost_agrees E)
serving E version state known s t h = (lost_agrees E)

discarding : (E : End → Type 0) → (asked : Request) (state : TransactionState) (known : Knowledge) (s t : Follow) → FollowAlike E s t →
    Agree E (told.discarding asked state known s) (told.discarding asked state known t)
discarding E terminate state known s t h = ending_agrees E (owed_between state) ends.Terminated ends.Terminated (inl refl)
discarding E sync state known s t h = readied E (outside_of s) (outside_of t) (beside E s t h) state known
discarding E _ state known s t h = h (phases.Discarding state) known

handled : (E : End → Type 0) → (asked : Request) (phase : Phase) (known : Knowledge) (s t : Follow) → FollowAlike E s t →
    Agree E (told.handled asked phase known s) (told.handled asked phase known t)
handled E asked phases.Startup known s t h = starting E asked known s t h
handled E asked (phases.Normal state) known s t h = serving E asked state known s t h
handled E asked (phases.Discarding state) known s t h = discarding E asked state known s t h

-- the same bytes are read by the one session and discarded by the other, which then needs a lack of memory
read_unread : (E : End → Type 0) → (asked : Message) (phase : Phase) (known : Knowledge) (s t : Follow) → FollowAlike E s t →
    Agree E (told.handled (query asked) phase known s) (told.handled unread_query phase known t)
read_unread E asked phases.Startup known s t h = (lost_agrees E)
read_unread E asked (phases.Normal state) known s t h =
    never_right E (told.serving (query asked) state known s) (told.serving unread_query state known t) (unread_never state known t)
    (serving E (query asked) state known s t h).left
read_unread E asked (phases.Discarding state) known s t h = h (phases.Discarding state) known

unread_read : (E : End → Type 0) → (asked : Message) (phase : Phase) (known : Knowledge) (s t : Follow) → FollowAlike E s t →
    Agree E (told.handled unread_query phase known s) (told.handled (query asked) phase known t)
unread_read E asked phases.Startup known s t h = (lost_agrees E)
unread_read E asked (phases.Normal state) known s t h =
    never_left E (told.serving unread_query state known s) (told.serving (query asked) state known t) (unread_never state known s)
    (serving E (query asked) state known s t h).right
unread_read E asked (phases.Discarding state) known s t h = h (phases.Discarding state) known

-- two readings of one message
same_asks : (E : End → Type 0) → (a b : Request) (phase : Phase) (known : Knowledge) (s t : Follow) → FollowAlike E s t → a ≡ b →
    Agree E (told.handled a phase known s) (told.handled b phase known t)
same_asks E a b phase known s t h same =
    subst (λ (x : Request). Agree E (told.handled a phase known s) (told.handled x phase known t)) same (handled E a phase known s t h)

-- a front that asks for one thing, and what it is
abbrev IsPlain : FrontendMessage → Type 0
IsPlain (Startup pairs) = ⊥
IsPlain (Query text) = ⊥
IsPlain _ = Unit {0}

abbrev ask_of : FrontendMessage → Request
ask_of Ssl = encryption
ask_of Gss = encryption
ask_of (Cancel pid secret) = cancel
ask_of (Version code) = version
ask_of Terminate = terminate
ask_of Sync = sync
ask_of Flush = nothing
ask_of (Copy part) = nothing
ask_of (Extended step) = extended
ask_of FunctionCall = function
ask_of _ = nothing

only_ask : (front : FrontendMessage) (a : Request) → IsPlain front → Says front a → a ≡ ask_of front
only_ask (Startup pairs) a plain x = absurd plain
only_ask (Query text) a plain x = absurd plain
only_ask Ssl encryption plain x = refl
only_ask Gss encryption plain x = refl
only_ask (Cancel pid secret) cancel plain x = refl
only_ask (Version code) version plain x = refl
only_ask Terminate terminate plain x = refl
only_ask Sync sync plain x = refl
only_ask Flush nothing plain x = refl
only_ask (Copy part) nothing plain x = refl
only_ask (Extended step) extended plain x = refl
only_ask FunctionCall function plain x = refl
only_ask _ _ plain x = absurd x

-- what a startup asks for
start_asks : (pairs : List ((List ℕ) × (List ℕ))) (a : Request) → Says (Startup pairs) a →
    ((a ≡ start) × HasUser pairs) ⊎ ((a ≡ userless) × (¬ (HasUser pairs)))
start_asks pairs start x = inl (refl, x)
start_asks pairs userless x = inr (refl, x)
start_asks pairs _ x = absurd x

one_start : (pairs : List ((List ℕ) × (List ℕ))) (a b : Request) → ((a ≡ start) × HasUser pairs) ⊎ ((a ≡ userless) × (¬ (HasUser pairs))) →
    ((b ≡ start) × HasUser pairs) ⊎ ((b ≡ userless) × (¬ (HasUser pairs))) → a ≡ b
one_start pairs a b (inl x) (inl y) = x.0 ∙ sym y.0
one_start pairs a b (inl x) (inr y) = absurd (y.1 x.1)
one_start pairs a b (inr x) (inl y) = absurd (x.1 y.1)
one_start pairs a b (inr x) (inr y) = x.0 ∙ sym y.0

-- what a query asks for
abbrev QueryAsks : List ℕ → Request → Type 0
QueryAsks text a = ((m : Message) × (a ≡ query m) × IsMessage text m) ⊎ (a ≡ unread_query)

query_asks : (text : List ℕ) (a : Request) → Says (Query text) a → QueryAsks text a
query_asks text (query m) x = inl (m, refl, x)
query_asks text unread_query x = inr refl
query_asks text _ x = absurd x

both_ask : (E : End → Type 0) → (a b c d : Request) (phase : Phase) (known : Knowledge) (s t : Follow) → a ≡ c → b ≡ d →
    Agree E (told.handled c phase known s) (told.handled d phase known t) →
    Agree E (told.handled a phase known s) (told.handled b phase known t)
both_ask E a b c d phase known s t left right agree =
    subst (λ (x : Request). Agree E (told.handled x phase known s) (told.handled b phase known t)) (sym left)
    (subst (λ (x : Request). Agree E (told.handled c phase known s) (told.handled x phase known t)) (sym right) agree)

one_query : (E : End → Type 0) → (text : List ℕ) (a b : Request) (phase : Phase) (known : Knowledge) (s t : Follow) → FollowAlike E s t →
    QueryAsks text a → QueryAsks text b → Agree E (told.handled a phase known s) (told.handled b phase known t)
one_query E text a b phase known s t h (inl x) (inl y) =
    same_asks E a b phase known s t h (x.1 ∙ ap (λ (z : Message). query z) (one_message text x.0 y.0 x.2 y.2) ∙ sym y.1)
one_query E text a b phase known s t h (inl x) (inr y) =
    both_ask E a b (query x.0) unread_query phase known s t x.1 y (read_unread E x.0 phase known s t h)
one_query E text a b phase known s t h (inr x) (inl y) =
    both_ask E a b unread_query (query y.0) phase known s t x y.1 (unread_read E y.0 phase known s t h)
one_query E text a b phase known s t h (inr x) (inr y) = same_asks E a b phase known s t h (x ∙ sym y)

asked_alike : (E : End → Type 0) → (front : FrontendMessage) (a b : Request) (phase : Phase) (known : Knowledge) (s t : Follow) → FollowAlike E s t →
    Says front a → Says front b → Agree E (told.handled a phase known s) (told.handled b phase known t)
asked_alike E (Query text) a b phase known s t h x y = one_query E text a b phase known s t h (query_asks text a x) (query_asks text b y)
asked_alike E (Startup pairs) a b phase known s t h x y =
    same_asks E a b phase known s t h (one_start pairs a b (start_asks pairs a x) (start_asks pairs b y))
asked_alike E front a b phase known s t h x y =
    same_asks E a b phase known s t h (only_ask front a tt x ∙ sym (only_ask front b tt y))

-- ---- no more bytes come

more_ended : (a out : Said) (end : End) → ◌≡◌ {A = Said × Next} (a, more) (out, ended end) → ⊥
more_ended a out end is = let both : more ≡ ended end = ap (λ (x : Said × Next). x.1) is in cc

wants_either : (b : Bool) → WantsMore (cond b ends.Closed ends.Cut)
wants_either true = tt
wants_either false = tt

stop_wants : (cause : Stop) (held : ℕ) → WantsMore (stop_end cause held)
stop_wants stops.EndOfInput held = wants_either (held == 0)
stop_wants stops.ReadFault held = tt
stop_wants stops.Spent held = tt

-- an end of input is neither a failed read nor the limit of bytes
not_fault : (b : Bool) → cond b ends.Closed ends.Cut ≡ ends.ReadFault → ⊥
not_fault true is = let h : ends.Closed ≡ ends.ReadFault = is in cc
not_fault false is = let h : ends.Cut ≡ ends.ReadFault = is in cc

not_spent : (b : Bool) → cond b ends.Closed ends.Cut ≡ ends.Spent → ⊥
not_spent true is = let h : ends.Closed ≡ ends.Spent = is in cc
not_spent false is = let h : ends.Cut ≡ ends.Spent = is in cc

two_stops : (one other : Stop) (held : ℕ) → (stop_end one held ≡ stop_end other held → ⊥) →
    ReadsPart (stop_end one held) ⊎ ReadsPart (stop_end other held) → AreAlike (stop_end one held) (stop_end other held)
two_stops one other held apart cause =
    inr record { apart = apart; first = stop_wants one held; second = stop_wants other held; cause = cause }

-- two stops where so many bytes are held end alike
stops_alike : (one other : Stop) (held : ℕ) → AreAlike (stop_end one held) (stop_end other held)
stops_alike stops.EndOfInput stops.EndOfInput held = inl refl
stops_alike stops.EndOfInput stops.ReadFault held = two_stops stops.EndOfInput stops.ReadFault held (not_fault (held == 0)) (inr (inl refl))
stops_alike stops.EndOfInput stops.Spent held = two_stops stops.EndOfInput stops.Spent held (not_spent (held == 0)) (inr (inr refl))
stops_alike stops.ReadFault stops.EndOfInput held =
    two_stops stops.ReadFault stops.EndOfInput held (λ is. not_fault (held == 0) (sym is)) (inl (inl refl))
stops_alike stops.ReadFault stops.ReadFault held = inl refl
stops_alike stops.ReadFault stops.Spent held =
    two_stops stops.ReadFault stops.Spent held (λ is. let same : ends.ReadFault ≡ ends.Spent = is in cc) (inl (inl refl))
stops_alike stops.Spent stops.EndOfInput held =
    two_stops stops.Spent stops.EndOfInput held (λ is. not_spent (held == 0) (sym is)) (inl (inr refl))
stops_alike stops.Spent stops.ReadFault held =
    two_stops stops.Spent stops.ReadFault held (λ is. let same : ends.Spent ≡ ends.ReadFault = is in cc) (inl (inr refl))
stops_alike stops.Spent stops.Spent held = inl refl

waits_grows : (phase : Phase) (held : ℕ) → Grows (waiting phase held)
waits_grows phase held said [] out end goes = absurd (more_ended said out end goes.is)
waits_grows phase held said (stop cause ∷ es) out end goes =
    (ending_agrees (λ (e : End). ⊥) (owed_by phase) (stop_end cause held) (stop_end cause held) (inl refl)).left said es out end
    (record { is = goes.is; at_rest = goes.at_rest; written = goes.written })
waits_grows phase held said (did a e ∷ es) out end goes = absurd (astray_ended said out end goes.is)
waits_grows phase held said (refused why ∷ es) out end goes = absurd (astray_ended said out end goes.is)
waits_grows phase held said (short final n ∷ es) out end goes = absurd (astray_ended said out end goes.is)
waits_grows phase held said (unsent n ∷ es) out end goes = absurd (astray_ended said out end goes.is)

-- a ride that waits goes on after the stop
pub record Halted (phase : Phase) (held : ℕ) (said : Said) (p : Past) (v : List ℕ) (out : Said) (end : End) (q : Past) (w : List ℕ) : Type 0 where
  pub cause : Stop
  pub es : List Entry
  pub rides : Rides (ending (owed_by phase) (stop_end cause held)) said es p v out end q w

valid_after : (p : Past) (v : List ℕ) (cs : List Call) (cause : Stop) (es : List Entry) (q : Past) (w : List ℕ) →
    IsValidRecord DrawsFirst p v cs (stop cause ∷ es) q w → IsValidRecord DrawsFirst p v cs es q w
valid_after p v [] cause es q w l = l
valid_after p v (c ∷ cs) cause es q w l = l

halted : (phase : Phase) (held : ℕ) (said : Said) (es : List Entry) (p : Past) (v : List ℕ) (out : Said) (end : End) (q : Past) (w : List ℕ) →
    Rides (waiting phase held) said es p v out end q w → Halted phase held said p v out end q w
halted phase held said [] p v out end q w rides = absurd (more_ended said out end rides.goes.is)
halted phase held said (stop cause ∷ es) p v out end q w rides = record {
  cause = cause;
  es = es;
  rides = record {
    goes = record { is = rides.goes.is; at_rest = rides.goes.at_rest; written = rides.goes.written };
    calls = rides.calls;
    asked = rides.asked;
    valid = valid_after p v rides.calls cause es q w rides.valid;
    alone = rides.alone;
    last = rides.last;
  };
}
halted phase held said (did a e ∷ es) p v out end q w rides = absurd (astray_ended said out end rides.goes.is)
halted phase held said (refused why ∷ es) p v out end q w rides = absurd (astray_ended said out end rides.goes.is)
halted phase held said (short final n ∷ es) p v out end q w rides = absurd (astray_ended said out end rides.goes.is)
halted phase held said (unsent n ∷ es) p v out end q w rides = absurd (astray_ended said out end rides.goes.is)

waits : (E : End → Type 0) → (phase : Phase) (held : ℕ) → Agree E (waiting phase held) (waiting phase held)
waits E phase held = record {
  left = waits_grows phase held;
  right = waits_grows phase held;
  same = λ said ds es a b v x y m n q r w u one two near.
      let left = halted phase held said ds a v x m q w one in
      let right = halted phase held said es b v y n r u two in
      (ending_agrees E (owed_by phase) (stop_end left.cause held) (stop_end right.cause held) (stops_alike left.cause right.cause held)).same
      said left.es right.es a b v x y m n q r w u left.rides right.rides near;
}

-- ---- the whole stream

at_rest_memory : (E : End → Type 0) → (phase : Phase) (s t : Script) → Agree E s t → Agree E (unless_memory_ends phase s) (unless_memory_ends phase t)
at_rest_memory E phase s t agree = at_rest_agrees E true (ending (owed_by phase) ends.Memory) (ending (owed_by phase) ends.Memory) s t agree

-- a session agrees with itself
pub session_itself : (E : End → Type 0) → (phase : Phase) (known : Knowledge) (requests : Requests) →
    Agree E (told.session phase known requests) (told.session phase known requests)
session_itself E phase known (asks asked requests) =
    at_rest_memory E phase (told.handled asked phase known (λ p k. told.session p k requests))
    (told.handled asked phase known (λ p k. told.session p k requests))
    (handled E asked phase known (λ p k. told.session p k requests) (λ p k. told.session p k requests)
    (λ p k. session_itself E p k requests))
session_itself E phase known (partial rest) =
    at_rest_memory E phase (waiting phase (length rest)) (waiting phase (length rest)) (waits E phase (length rest))
session_itself E phase known (faulty fault) =
    at_rest_memory E phase (ending (owed_by phase) (ends.Protocol fault)) (ending (owed_by phase) (ends.Protocol fault))
    (ending_agrees E (owed_by phase) (ends.Protocol fault) (ends.Protocol fault) (inl refl))
session_itself E phase known unread = at_rest_memory E phase lost lost (lost_agrees E)

-- bytes that nobody has looked at take no session to its end
unheard : (phase : Phase) (known : Knowledge) → IsNever (told.session phase known unread)
unheard phase known said es out end goes =
    lost_never said es out end
    (at_rest_on true (ending (owed_by phase) ends.Memory) lost said es out end (record { is = goes.is; at_rest = goes.at_rest; written = goes.written }))

-- ---- the one session may hear more

-- more bytes follow, and the session ended since it wanted more
abbrev pub IsSpared : List ℕ → End → Type 0
IsSpared [] end = ⊥
IsSpared (x ∷ xs) end = WantsMore end

-- a session that waits ends since it wants more
waits_want : (phase : Phase) (held : ℕ) (said : Said) (es : List Entry) (out : Said) (end : End) → Goes (waiting phase held) said es out end →
    WantsMore end
waits_want phase held said [] out end goes = absurd (more_ended said out end goes.is)
waits_want phase held said (stop cause ∷ es) out end goes =
    let to : end ≡ stop_end cause held = ending_end (owed_by phase) (stop_end cause held) said es out end
    (record { is = goes.is; at_rest = goes.at_rest; written = goes.written }) in
    subst WantsMore (sym to) (stop_wants cause held)
waits_want phase held said (did a e ∷ es) out end goes = absurd (astray_ended said out end goes.is)
waits_want phase held said (refused why ∷ es) out end goes = absurd (astray_ended said out end goes.is)
waits_want phase held said (short final n ∷ es) out end goes = absurd (astray_ended said out end goes.is)
waits_want phase held said (unsent n ∷ es) out end goes = absurd (astray_ended said out end goes.is)

partial_wants : (phase : Phase) (known : Knowledge) (rest : List ℕ) (said : Said) (es : List Entry) (out : Said) (end : End) →
    Goes (told.session phase known (partial rest)) said es out end → WantsMore end
partial_wants phase known rest said es out end goes =
    waits_want phase (length rest) said es out end
    (at_rest_on true (ending (owed_by phase) ends.Memory) (waiting phase (length rest)) said es out end
    (record { is = goes.is; at_rest = goes.at_rest; written = goes.written }))

-- bytes of no whole message, which no more follow
last_agrees : (E : End → Type 0) → (phase : Phase) (known : Knowledge) (started : Bool) (bytes rest : List ℕ) (other : Requests) →
    AreRequests started bytes (partial rest) → AreRequests started bytes other →
    Agree E (told.session phase known (partial rest)) (told.session phase known other)
last_agrees E phase known started bytes rest unread a b =
    never_right E (told.session phase known (partial rest)) (told.session phase known unread) (unheard phase known)
    (session_itself E phase known (partial rest)).left
last_agrees E phase known started bytes rest (asks y other) a b = absurd (a.1.no_front b.0 b.1 b.2)
last_agrees E phase known started bytes rest (partial other) a b =
    subst (λ (n : ℕ). Agree E (told.session phase known (partial rest)) (unless_memory_ends phase (waiting phase n))) (ap length (a.0 ∙ sym b.0))
    (session_itself E phase known (partial rest))
last_agrees E phase known started bytes rest (faulty fault) a b = absurd (a.1.no_fault fault b)

partial_agrees : (extra : List ℕ) (phase : Phase) (known : Knowledge) (started : Bool) (bytes rest : List ℕ) (other : Requests) →
    AreRequests started bytes (partial rest) → AreRequests started (bytes ++ extra) other →
    Agree (IsSpared extra) (told.session phase known (partial rest)) (told.session phase known other)
partial_agrees [] phase known started bytes rest other a b =
    last_agrees (IsSpared []) phase known started bytes rest other a (subst (λ (bs : List ℕ). AreRequests started bs other) (append-nil bytes) b)
partial_agrees (z ∷ zs) phase known started bytes rest other a b = record {
  left = (session_itself (IsSpared (z ∷ zs)) phase known (partial rest)).left;
  right = (session_itself (IsSpared (z ∷ zs)) phase known other).right;
  same = λ said ds es p q v x y m n o r w u one two near. inl (partial_wants phase known rest said ds x m one.goes);
}

-- a message stands at the front, whatever follows
takes_further : (started : Bool) (bytes extra : List ℕ) (front : FrontendMessage) (following : List ℕ) → TakesFront started bytes front following →
    TakesFront started (bytes ++ extra) front (following ++ extra)
takes_further started bytes extra front following takes = record {
  taken = takes.taken;
  spelled = takes.spelled;
  whole = ap (λ (bs : List ℕ). bs ++ extra) takes.whole ∙ append_assoc takes.taken following extra;
}

-- two request_streams, of the same bytes and of more
pub sessions_agree : (extra : List ℕ) (phase : Phase) (known : Knowledge) (started : Bool) (bytes : List ℕ) (one other : Requests) →
    AreRequests started bytes one → AreRequests started (bytes ++ extra) other →
    Agree (IsSpared extra) (told.session phase known one) (told.session phase known other)
sessions_agree extra phase known started bytes unread other a b =
    never_left (IsSpared extra) (told.session phase known unread) (told.session phase known other) (unheard phase known)
    (session_itself (IsSpared extra) phase known other).left
sessions_agree extra phase known started bytes (partial rest) other a b =
    partial_agrees extra phase known started bytes rest other a b
sessions_agree extra phase known started bytes (asks x one) unread a b =
    never_right (IsSpared extra) (told.session phase known (asks x one)) (told.session phase known unread) (unheard phase known)
    (session_itself (IsSpared extra) phase known (asks x one)).left
sessions_agree extra phase known started bytes (asks x one) (asks y other) a b =
    let further = takes_further started bytes extra a.0 a.1 a.2 in
    let front : a.0 ≡ b.0 = front_unique started a.0 b.0 (bytes ++ extra) (a.1 ++ extra) b.1 further b.2 in
    let following : a.1 ++ extra ≡ b.1 = after_unique started a.0 b.0 (bytes ++ extra) (a.1 ++ extra) b.1 further b.2 in
    let says : Says a.0 y = subst (λ (f : FrontendMessage). Says f y) (sym front) b.3 in
    let after : AreRequests (phase_after started a.0) b.1 other =
    subst (λ (f : FrontendMessage). AreRequests (phase_after started f) b.1 other) (sym front) b.4 in
    let rest : AreRequests (phase_after started a.0) (a.1 ++ extra) other =
    subst (λ (bs : List ℕ). AreRequests (phase_after started a.0) bs other) (sym following) after in
    at_rest_memory (IsSpared extra) phase (told.handled x phase known (λ p k. told.session p k one))
    (told.handled y phase known (λ p k. told.session p k other))
    (asked_alike (IsSpared extra) a.0 x y phase known (λ p k. told.session p k one) (λ p k. told.session p k other)
    (λ p k. sessions_agree extra p k (phase_after started a.0) a.1 one other a.4 rest) a.3 says)
sessions_agree extra phase known started bytes (asks x one) (partial rest) a b =
    absurd (b.1.no_front a.0 (a.1 ++ extra) (takes_further started bytes extra a.0 a.1 a.2))
sessions_agree extra phase known started bytes (asks x one) (faulty fault) a b =
    absurd (front_no_fault started a.0 fault (bytes ++ extra) (a.1 ++ extra) (takes_further started bytes extra a.0 a.1 a.2) b)
sessions_agree extra phase known started bytes (faulty fault) unread a b =
    never_right (IsSpared extra) (told.session phase known (faulty fault)) (told.session phase known unread) (unheard phase known)
    (session_itself (IsSpared extra) phase known (faulty fault)).left
sessions_agree extra phase known started bytes (faulty fault) (asks y other) a b =
    absurd (front_no_fault started b.0 fault (bytes ++ extra) b.1 b.2 (fault_stays started bytes extra fault a))
sessions_agree extra phase known started bytes (faulty fault) (partial rest) a b =
    absurd (b.1.no_fault fault (fault_stays started bytes extra fault a))
sessions_agree extra phase known started bytes (faulty fault) (faulty other) a b =
    let same : fault ≡ other = fault_unique started (bytes ++ extra) fault other (fault_stays started bytes extra fault a) b in
    at_rest_memory (IsSpared extra) phase (ending (owed_by phase) (ends.Protocol fault)) (ending (owed_by phase) (ends.Protocol other))
    (ending_agrees (IsSpared extra) (owed_by phase) (ends.Protocol fault) (ends.Protocol other) (inl (ap (λ (f : FrameFault). ends.Protocol f) same)))
