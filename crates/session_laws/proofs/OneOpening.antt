-- A session asks its opening once, nothing before it and nothing after its close.
use Rattle.std.proofs.Common.{◌≡◌, inl, inr, ◌⊎◌, false, ℕ, List, [], ◌∷◌, All, Option, Some, None, length, refl, sym, ◌∙◌, ap, subst}
use Rattle.std.proofs.lemmas.List.Elements.{All-nil, All-cons}
use Rattle.cell_base.specs.declared.level.Level.{Level}
use Rattle.history_core.specs.declared.event.Event.{Event}
use Rattle.history_core.specs.declared.event.Event.TheVariants.{Open}
use Rattle.history_core.specs.declared.fault.BookFault.{BookFault}
use Rattle.history_core.specs.declared.fault.BookFault.TheVariants as faults
use Rattle.history_core.specs.declared.fault.DefineAnswer.TheVariants as defines
use Rattle.history_core.specs.Events.{session_in, is_open_event}
use Rattle.history_book.specs.Book.{Past, SessionState, session_of}
use Rattle.block_machine.specs.Calls.{Call}
use Rattle.block_machine.specs.Calls as calls
use Rattle.block_machine.specs.Knowledge.{at_start}
use Rattle.block_machine.specs.Script.{Entry, did, refused, short, unsent, stop, Said, Next}
use Rattle.block_machine.specs.declared.call.Answer.{Answer}
use Rattle.block_machine.specs.declared.call.Answer.TheVariants as answers
use Rattle.session_core.specs.declared.phase.Phase.TheVariants as phases
use Rattle.session_core.specs.Requests.{Requests}
use Rattle.session_core.specs.Told.{told, opened_after, opened_from, opened_in}
use Rattle.session_core.specs.Record.{Happens, Declines, may_be_refused, StateAfter, IsValidRecord, events_of}
use Rattle.session_laws.specs.Openings.{AreOfOneSession}
use Rattle.session_laws.proofs.Rules.{Rules, Obeys, AreFit}
use Rattle.session_laws.proofs.SessionsKept.{session_keeps}

-- no session was opened yet, one is open, or it was closed
pub data Stage : Type 0 where
  early : Stage
  within : Stage
  late : Stage

abbrev pub MayAsk : Stage → Call → Type 0
MayAsk early calls.Open = Unit {0}
MayAsk early _ = ⊥
MayAsk within calls.Open = ⊥
MayAsk within _ = Unit {0}
MayAsk late _ = ⊥

abbrev pub goes_to : Stage → Call → Answer → Stage
goes_to early calls.Open (answers.Opened session) = within
goes_to within calls.Close a = late
goes_to s _ _ = s

abbrev pub IsEarly : Stage → Type 0
IsEarly early = Unit {0}
IsEarly within = ⊥
IsEarly late = ⊥

abbrev pub IsWithin : Stage → Type 0
IsWithin early = ⊥
IsWithin within = Unit {0}
IsWithin late = ⊥

abbrev pub once : Rules
once = record { State = Stage; may = MayAsk; next = goes_to; Fresh = λ s k. IsEarly s; Resting = λ s k. IsWithin s; Runs = λ s k c. IsWithin s }

-- neither the opening of the session nor its close
abbrev pub IsPlain : Call → Type 0
IsPlain calls.Open = ⊥
IsPlain calls.Close = ⊥
IsPlain _ = Unit {0}

stays_within : (c : Call) (a : Answer) → IsPlain c → goes_to within c a ≡ within
stays_within calls.Open a is = absurd is
stays_within calls.Close a is = absurd is
stays_within (calls.Look known) a is = refl
stays_within (calls.Define table) a is = refl
stays_within (calls.Begin level) a is = refl
stays_within (calls.Scan table) a is = refl
stays_within (calls.Touch cell) a is = refl
stays_within (calls.Write cell value) a is = refl
stays_within calls.Commit a is = refl
stays_within calls.Rollback a is = refl
stays_within calls.Show a is = refl

may_within : (c : Call) → IsPlain c → MayAsk within c
may_within calls.Open is = absurd is
may_within calls.Close is = absurd is
may_within (calls.Look known) is = tt
may_within (calls.Define table) is = tt
may_within (calls.Begin level) is = tt
may_within (calls.Scan table) is = tt
may_within (calls.Touch cell) is = tt
may_within (calls.Write cell value) is = tt
may_within calls.Commit is = tt
may_within calls.Rollback is = tt
may_within calls.Show is = tt

plain : (c : Call) → IsPlain c → (s : Stage) → IsWithin s → MayAsk s c × ((a : Answer) → IsWithin (goes_to s c a))
plain c is early resting = absurd resting
plain c is within resting = (may_within c is, λ a. subst IsWithin (sym (stays_within c a is)) tt)
plain c is late resting = absurd resting

opens : (s : Stage) → IsEarly s → MayAsk s calls.Open × ((session : ℕ) → IsWithin (goes_to s calls.Open (answers.Opened session)))
opens early is = (tt, λ session. tt)
opens within is = absurd is
opens late is = absurd is

closes : (s : Stage) → IsWithin s → MayAsk s calls.Close
closes early resting = absurd resting
closes within resting = tt
closes late resting = absurd resting

once_fit : AreFit once
once_fit = record {
  opens = λ s k fresh. opens s fresh;
  closes = λ s k resting. closes s resting;
  looks = λ s k resting. plain (calls.Look (length k.tables)) tt s resting;
  looked = λ s k tables resting. (plain (calls.Look (length k.tables)) tt s resting).1 (answers.Looked tables);
  levels = λ s k level resting. resting;
  defines = λ s k table resting. plain (calls.Define table) tt s resting;
  begins = λ s k level resting. plain (calls.Begin level) tt s resting;
  commits = λ s k resting. plain calls.Commit tt s resting;
  rolls_back = λ s k resting. plain calls.Rollback tt s resting;
  shows = λ s k resting. plain calls.Show tt s resting;
  runs = λ s k statement t resting is. resting;
  scans = λ s k table rest resting.
      let asks = plain (calls.Scan table) tt s resting in
      (asks.0, λ keys. asks.1 (answers.Listed keys), λ why. plain calls.Rollback tt (goes_to s (calls.Scan table) (answers.Refused why)) (asks.1 (answers.Refused why)));
  touches = λ s k cell rest resting.
      let asks = plain (calls.Touch cell) tt s resting in
      (asks.0, λ value. asks.1 (answers.Found value), λ why. plain calls.Rollback tt (goes_to s (calls.Touch cell) (answers.Refused why)) (asks.1 (answers.Refused why)));
  writes = λ s k cell value rest resting.
      let asks = plain (calls.Write cell value) tt s resting in
      (asks.0, asks.1 answers.Written, λ why. plain calls.Rollback tt (goes_to s (calls.Write cell value) (answers.Refused why)) (asks.1 (answers.Refused why)));
  finishes = λ s k outcome resting. resting;
  breaks = λ s k c resting. plain calls.Rollback tt s resting;
}

-- ---- the events of such a record

-- an answer to another call than the opening
record Made (old new : SessionState) (c : Call) (a : Answer) (e : Event) : Type 0 where
  session : session_in e ≡ session_of old
  plain : is_open_event e ≡ false
  number : (n : Option ℕ) → opened_after n a ≡ n
  kept : IsPlain c → session_of new ≡ session_of old

made : (p : Past) (c : Call) (a : Answer) (e : Event) (m : Past) → MayAsk within c → Happens p c a e m → StateAfter c a p.state m.state →
    Made p.state m.state c a e
made p calls.Close answers.Closed e m may h k =
    record { session = ap session_in h.0; plain = ap is_open_event h.0; number = λ n. refl; kept = λ is. absurd is }
made p (calls.Look known) (answers.Looked tables) e m may h k =
    record { session = ap session_in h.0; plain = ap is_open_event h.0; number = λ n. refl; kept = λ is. ap session_of k }
made p (calls.Define table) (answers.Defined (defines.Defined n)) e m may h k =
    record { session = ap session_in h.0; plain = ap is_open_event h.0; number = λ n. refl; kept = λ is. ap session_of k }
made p (calls.Define table) (answers.Defined (defines.Taken n)) e m may h k =
    record { session = ap session_in h.0; plain = ap is_open_event h.0; number = λ n. refl; kept = λ is. ap session_of k }
made p (calls.Begin level) (answers.Begun n) e m may h k =
    record { session = ap session_in h.0; plain = ap is_open_event h.0; number = λ n. refl; kept = λ is. ap session_of k }
made p (calls.Scan table) (answers.Listed keys) e m may h k =
    record { session = ap session_in h.0; plain = ap is_open_event h.0; number = λ n. refl; kept = λ is. ap session_of k }
made p (calls.Touch cell) (answers.Found value) e m may h k = record {
  session = elim h.0 [ inl back ↦ ap session_in back.event_is | inr from ↦ ap session_in from.event_is ];
  plain = elim h.0 [ inl back ↦ ap is_open_event back.event_is | inr from ↦ ap is_open_event from.event_is ];
  number = λ n. refl;
  kept = λ is. ap session_of k;
}
made p (calls.Write cell value) answers.Written e m may h k =
    record { session = ap session_in h.0; plain = ap is_open_event h.0; number = λ n. refl; kept = λ is. ap session_of k }
made p calls.Commit answers.Committed e m may h k =
    record { session = ap session_in h.0; plain = ap is_open_event h.0; number = λ n. refl; kept = λ is. ap session_of k }
made p calls.Rollback answers.RolledBack e m may h k =
    record { session = ap session_in h.0; plain = ap is_open_event h.0; number = λ n. refl; kept = λ is. ap session_of k }
made p calls.Show (answers.Shown n) e m may h k =
    record { session = ap session_in h.0; plain = ap is_open_event h.0; number = λ n. refl; kept = λ is. ap session_of k }
made p calls.Open _ e m may h k = absurd may
made p _ _ e m may h k = absurd h

plain_refused : (c : Call) → MayAsk within c → may_be_refused c → IsPlain c
plain_refused calls.Open may is = may
plain_refused calls.Close may is = is
plain_refused (calls.Look known) may is = tt
plain_refused (calls.Define table) may is = tt
plain_refused (calls.Begin level) may is = tt
plain_refused (calls.Scan table) may is = tt
plain_refused (calls.Touch cell) may is = tt
plain_refused (calls.Write cell value) may is = tt
plain_refused calls.Commit may is = tt
plain_refused calls.Rollback may is = tt
plain_refused calls.Show may is = tt

-- a refusal leaves the session of the book, and isn't one of a close
declined : (p : Past) (c : Call) (why : BookFault) (m : Past) → MayAsk within c → Declines p c why m → IsPlain c × (m.state ≡ p.state)
declined p c (faults.Full limit) m may declines = (plain_refused c may declines.0, declines.1.state)
declined p c faults.Memory m may declines = (plain_refused c may declines.0, declines.1.state)

-- after the close nothing is asked
record IsSilent (es : List Entry) : Type 0 where
  none : events_of es ≡ []
  number : (n : Option ℕ) → opened_from n es ≡ n

unasked : {W : Type 0} (gives : W → ℕ → W → Type 0) (p : Past) (v : W) (es : List Entry) (q : Past) (w : W) → IsValidRecord gives p v [] es q w → IsSilent es
unasked gives p v [] q w valid = record { none = refl; number = λ n. refl }
unasked gives p v (did a e ∷ es) q w valid = absurd valid
unasked gives p v (refused why ∷ es) q w valid = absurd valid
unasked gives p v (short final n ∷ es) q w valid = let on = unasked gives p v es q w valid in record { none = on.none; number = on.number }
unasked gives p v (unsent n ∷ es) q w valid = let on = unasked gives p v es q w valid in record { none = on.none; number = on.number }
unasked gives p v (stop cause ∷ es) q w valid = let on = unasked gives p v es q w valid in record { none = on.none; number = on.number }

silent : {W : Type 0} (gives : W → ℕ → W → Type 0) (p : Past) (v : W) (cs : List Call) (es : List Entry) (q : Past) (w : W) →
    IsValidRecord gives p v cs es q w → Obeys once late cs es → IsSilent es
silent gives p v [] es q w valid obeys = unasked gives p v es q w valid
silent gives p v (c ∷ cs) [] q w valid obeys = absurd valid
silent gives p v (c ∷ cs) (did a e ∷ es) q w valid obeys = absurd obeys.0
silent gives p v (c ∷ cs) (refused why ∷ es) q w valid obeys = absurd obeys.0
silent gives p v (c ∷ cs) (short final n ∷ es) q w valid obeys =
    let on = silent gives p v (c ∷ cs) es q w valid obeys in record { none = on.none; number = on.number }
silent gives p v (c ∷ cs) (unsent n ∷ es) q w valid obeys =
    let on = silent gives p v (c ∷ cs) es q w valid obeys in record { none = on.none; number = on.number }
silent gives p v (c ∷ cs) (stop cause ∷ es) q w valid obeys =
    let on = silent gives p v (c ∷ cs) es q w valid obeys in record { none = on.none; number = on.number }

-- an event of the session that opens none
abbrev Is : ℕ → Event → Type 0
Is session e = (session_in e ≡ session) × (is_open_event e ≡ false)

-- while the session is open
record IsOfIt (session : ℕ) (es : List Entry) : Type 0 where
  of_it : All (Is session) (events_of es)
  number : (n : Option ℕ) → opened_from n es ≡ n

silent_one : (session : ℕ) (es : List Entry) → IsSilent es → IsOfIt session es
silent_one session es is = record {
  of_it = subst (λ (xs : List Event). All (Is session) xs) (sym is.none) (All-nil (Is session));
  number = is.number;
}

one_more : (session : ℕ) (old new : SessionState) (c : Call) (a : Answer) (e : Event) (es : List Entry) → session_of old ≡ session → Made old new c a e →
    IsOfIt session es → IsOfIt session (did a e ∷ es)
one_more session old new c a e es at step on = record {
  of_it = All-cons (Is session) e (events_of es) (step.session ∙ at, step.plain) on.of_it;
  number = λ n. ap (λ (x : Option ℕ). opened_from x es) (step.number n) ∙ on.number n;
}

plain_or_close : (c : Call) → MayAsk within c → IsPlain c ⊎ (c ≡ calls.Close)
plain_or_close calls.Open may = absurd may
plain_or_close calls.Close may = inr refl
plain_or_close (calls.Look known) may = inl tt
plain_or_close (calls.Define table) may = inl tt
plain_or_close (calls.Begin level) may = inl tt
plain_or_close (calls.Scan table) may = inl tt
plain_or_close (calls.Touch cell) may = inl tt
plain_or_close (calls.Write cell value) may = inl tt
plain_or_close calls.Commit may = inl tt
plain_or_close calls.Rollback may = inl tt
plain_or_close calls.Show may = inl tt

inside : {W : Type 0} (gives : W → ℕ → W → Type 0) (session : ℕ) (p : Past) (v : W) (cs : List Call) (es : List Entry) (q : Past) (w : W) →
    IsValidRecord gives p v cs es q w → Obeys once within cs es → session_of p.state ≡ session → IsOfIt session es
inside gives session p v [] es q w valid obeys at = silent_one session es (unasked gives p v es q w valid)
inside gives session p v (c ∷ cs) [] q w valid obeys at = absurd valid
inside gives session p v (c ∷ cs) (did a e ∷ es) q w valid obeys at =
    let step = made p c a e valid.0 obeys.0 valid.2 valid.5 in
    one_more session p.state valid.0.state c a e es at step (elim (plain_or_close c obeys.0) [
      | inl is ↦
          inside gives session valid.0 valid.1 cs es q w valid.4
          (subst (λ (s : Stage). Obeys once s cs es) (stays_within c a is) obeys.1) (step.kept is ∙ at)
      | inr close ↦
          silent_one session es (silent gives valid.0 valid.1 cs es q w valid.4
          (subst (λ (d : Call). Obeys once (goes_to within d a) cs es) close obeys.1))
    ])
inside gives session p v (c ∷ cs) (refused why ∷ es) q w valid obeys at =
    let step = declined p c why valid.0 obeys.0 valid.2 in
    let on = inside gives session valid.0 valid.1 cs es q w valid.4
    (subst (λ (s : Stage). Obeys once s cs es) (stays_within c (answers.Refused why) step.0) obeys.1) (ap session_of step.1 ∙ at) in
    record { of_it = on.of_it; number = on.number }
inside gives session p v (c ∷ cs) (short final n ∷ es) q w valid obeys at =
    let on = inside gives session p v (c ∷ cs) es q w valid obeys at in record { of_it = on.of_it; number = on.number }
inside gives session p v (c ∷ cs) (unsent n ∷ es) q w valid obeys at =
    let on = inside gives session p v (c ∷ cs) es q w valid obeys at in record { of_it = on.of_it; number = on.number }
inside gives session p v (c ∷ cs) (stop cause ∷ es) q w valid obeys at =
    let on = inside gives session p v (c ∷ cs) es q w valid obeys at in record { of_it = on.of_it; number = on.number }

-- the opening, and what comes after it
begins : (session : ℕ) (a : Answer) (e : Event) (es : List Entry) → a ≡ answers.Opened session → e ≡ Open session → IsOfIt session es →
    AreOfOneSession (opened_from None (did a e ∷ es)) (events_of (did a e ∷ es))
begins session a e es answer event on =
    let number : opened_from None (did a e ∷ es) ≡ Some session =
    ap (λ (x : Answer). opened_from (opened_after None x) es) answer ∙ on.number (Some session) in
    subst (λ (n : Option ℕ). AreOfOneSession n (e ∷ events_of es)) (sym number) (record {
      later = events_of es;
      events_are = ap (λ (x : Event). x ∷ events_of es) event;
      of_it = on.of_it;
    })

none_opened : (es : List Entry) → IsSilent es → AreOfOneSession (opened_in es) (events_of es)
none_opened es is = subst (λ (n : Option ℕ). AreOfOneSession n (events_of es)) (sym (is.number None)) is.none

opened_by : (p : Past) (a : Answer) (e : Event) (m : Past) → Happens p calls.Open a e m → StateAfter calls.Open a p.state m.state →
    (session : ℕ) × ((a ≡ answers.Opened session) × (e ≡ Open session) × (session_of m.state ≡ session))
opened_by p (answers.Opened session) e m h k = (session, (refl, h.0, ap session_of k))
opened_by p _ e m h k = absurd h

outside : {W : Type 0} (gives : W → ℕ → W → Type 0) (p : Past) (v : W) (cs : List Call) (es : List Entry) (q : Past) (w : W) →
    IsValidRecord gives p v cs es q w → Obeys once early cs es → AreOfOneSession (opened_in es) (events_of es)
outside gives p v [] es q w valid obeys = none_opened es (unasked gives p v es q w valid)
outside gives p v (c ∷ cs) [] q w valid obeys = absurd valid
outside gives p v (calls.Open ∷ cs) (did a e ∷ es) q w valid obeys =
    let step = opened_by p a e valid.0 valid.2 valid.5 in
    begins step.0 a e es step.1.0 step.1.1
    (inside gives step.0 valid.0 valid.1 cs es q w valid.4
    (subst (λ (x : Answer). Obeys once (goes_to early calls.Open x) cs es) step.1.0 obeys.1) step.1.2)
outside gives p v (_ ∷ cs) (did a e ∷ es) q w valid obeys = absurd obeys.0
outside gives p v (calls.Open ∷ cs) (refused why ∷ es) q w valid obeys = outside gives valid.0 valid.1 cs es q w valid.4 obeys.1
outside gives p v (_ ∷ cs) (refused why ∷ es) q w valid obeys = absurd obeys.0
outside gives p v (c ∷ cs) (short final n ∷ es) q w valid obeys = outside gives p v (c ∷ cs) es q w valid obeys
outside gives p v (c ∷ cs) (unsent n ∷ es) q w valid obeys = outside gives p v (c ∷ cs) es q w valid obeys
outside gives p v (c ∷ cs) (stop cause ∷ es) q w valid obeys = outside gives p v (c ∷ cs) es q w valid obeys

told_asks : (level : Level) (requests : Requests) (entries : List Entry) (said : Said) (next : Next) → told level requests entries ≡ (said, next) →
    Obeys once early said.calls entries
unfolding told
told_asks level requests entries said next is =
    let asked = (session_keeps once once_fit requests early phases.Startup (at_start level) tt).asks (record { bytes = []; calls = [] }) entries in
    let calls_are : said.calls ≡ asked.more = ap (λ (x : Said × Next). x.0.calls) (sym is) ∙ asked.whole in
    subst (λ (cs : List Call). Obeys once early cs entries) (sym calls_are) asked.obeys

pub one_session : {W : Type 0} (gives : W → ℕ → W → Type 0) (level : Level) (requests : Requests) (said : Said) (next : Next) (entries : List Entry)
    (p : Past) (v : W) (q : Past) (w : W) → told level requests entries ≡ (said, next) → IsValidRecord gives p v said.calls entries q w →
    AreOfOneSession (opened_in entries) (events_of entries)
one_session gives level requests said next entries p v q w is valid =
    outside gives p v said.calls entries q w valid (told_asks level requests entries said next is)
