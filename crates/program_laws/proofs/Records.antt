-- The fields that the events of a session's record write are those of the history's tables.
use Rattle.std.proofs.Common.{◌≡◌, inl, inr, ℕ, ◌≤◌, List, [], ◌∷◌, ◌++◌, length, take, refl, sym, ap, subst, ◌∙◌}
use Rattle.std.specs.List.{AllByRecursion}
use Rattle.cell_base.specs.declared.level.Level.{Level}
use Rattle.sql_tree.specs.declared.table.Table.{Table}
use Rattle.history_core.specs.declared.event.Event.{Event}
use Rattle.history_core.specs.declared.event.Event.TheVariants as events
use Rattle.history_core.specs.declared.fault.BookFault.{BookFault}
use Rattle.history_core.specs.declared.fault.DefineAnswer.TheVariants as defines
use Rattle.history_book.specs.Book.{Past, session_of, AnswersTables}
use Rattle.block_machine.specs.Calls.{Call}
use Rattle.block_machine.specs.Calls as calls
use Rattle.block_machine.specs.Knowledge.{at_start}
use Rattle.block_machine.specs.Script.{Entry, did, refused, short, unsent, stop, Said, Next}
use Rattle.block_machine.specs.declared.call.Answer.{Answer}
use Rattle.block_machine.specs.declared.call.Answer.TheVariants as answers
use Rattle.session_core.specs.declared.phase.Phase.TheVariants as phases
use Rattle.session_core.specs.Requests.{Requests}
use Rattle.session_core.specs.Told.{told}
use Rattle.session_core.specs.Record.{Happens, IsValidRecord, events_of}
use Rattle.session_laws.proofs.Rules.{Obeys}
use Rattle.session_laws.proofs.SessionsKept.{session_keeps}
use Rattle.session_laws.specs.Alone.{AreFirst}
use Rattle.session_laws.proofs.Fronts.{first_all, first_then, looked}
use Rattle.session_laws.proofs.Records.{happens_first, declines_first, valid_first}
use Rattle.program_laws.proofs.FieldsWritten.{IsFieldIn}
use Rattle.program_laws.proofs.Writing.{MayCall, following, fields, fields_fit, cell_first}

-- a field that the event writes is one of its table
abbrev pub WritesField : List Table → Event → Type 0
WritesField tables (events.Write session cell value) = IsFieldIn tables cell
WritesField tables _ = Unit {0}

-- ---- one call

look_shown : (p m : Past) (shown : List Table) (known : ℕ) (tables : List Table) → AreFirst shown p.seen.tables → known ≤ length shown →
    AnswersTables p known tables m → AreFirst (take known shown ++ tables) m.seen.tables
look_shown p m shown known tables first within answered =
    let all = first_then shown p.seen.tables m.seen.tables first (record { more = answered.adds.more; whole = answered.adds.tables }) in
    subst (λ (ts : List Table). AreFirst (take known shown ++ tables) ts)
    (looked shown answered.before tables all.more m.seen.tables known all.whole answered.whole answered.known_is within) (first_all (take known shown ++ tables))

-- after a call the tables that the session was shown are the first that its book has seen
shown_first : (p : Past) (c : Call) (a : Answer) (e : Event) (m : Past) (shown : List Table) → Happens p c a e m → MayCall shown c →
    AreFirst shown p.seen.tables → AreFirst shown m.seen.tables → AreFirst (following shown c a) m.seen.tables
shown_first p (calls.Look known) (answers.Looked tables) e m shown h may first on = look_shown p m shown known tables first may h.1
shown_first p (calls.Look known) (answers.Opened n) e m shown h may first on = on
shown_first p (calls.Look known) answers.Closed e m shown h may first on = on
shown_first p (calls.Look known) (answers.Defined answer) e m shown h may first on = on
shown_first p (calls.Look known) (answers.Begun n) e m shown h may first on = on
shown_first p (calls.Look known) (answers.Listed keys) e m shown h may first on = on
shown_first p (calls.Look known) (answers.Found value) e m shown h may first on = on
shown_first p (calls.Look known) answers.Written e m shown h may first on = on
shown_first p (calls.Look known) answers.Committed e m shown h may first on = on
shown_first p (calls.Look known) answers.RolledBack e m shown h may first on = on
shown_first p (calls.Look known) (answers.Shown n) e m shown h may first on = on
shown_first p (calls.Look known) (answers.Refused why) e m shown h may first on = on
shown_first p _ a e m shown h may first on = on

-- of the event that the call makes
event_as : (tables : List Table) (e f : Event) → e ≡ f → WritesField tables f → WritesField tables e
event_as tables e f is writes = subst (λ (x : Event). WritesField tables x) (sym is) writes

event_fits : (tables : List Table) (p : Past) (c : Call) (a : Answer) (e : Event) (m : Past) (shown : List Table) → Happens p c a e m → MayCall shown c →
    AreFirst shown tables → WritesField tables e
event_fits tables p calls.Open (answers.Opened n) e m shown h may all = event_as tables e (events.Open n) h.0 tt
event_fits tables p calls.Close answers.Closed e m shown h may all = event_as tables e (events.Close (session_of p.state)) h.0 tt
event_fits tables p (calls.Look known) (answers.Looked found) e m shown h may all =
    event_as tables e (events.Look (session_of p.state) (length m.seen.tables)) h.0 tt
event_fits tables p (calls.Define table) (answers.Defined (defines.Defined n)) e m shown h may all =
    event_as tables e (events.Define (session_of p.state) table.name) h.0 tt
event_fits tables p (calls.Define table) (answers.Defined (defines.Taken n)) e m shown h may all =
    event_as tables e (events.Look (session_of p.state) n) h.0 tt
event_fits tables p (calls.Begin level) (answers.Begun n) e m shown h may all = event_as tables e (events.Begin (session_of p.state) level) h.0 tt
event_fits tables p (calls.Scan table) (answers.Listed keys) e m shown h may all = event_as tables e (events.Scan (session_of p.state) table keys) h.0 tt
event_fits tables p (calls.Touch cell) (answers.Found value) e m shown h may all = elim h.0 [
  | inl back ↦ event_as tables e (events.Own (session_of p.state) cell value) back.event_is tt
  | inr from ↦ event_as tables e (events.Read (session_of p.state) cell from.source from.count from.word value) from.event_is tt
]
event_fits tables p (calls.Write cell value) answers.Written e m shown h may all =
    event_as tables e (events.Write (session_of p.state) cell value) h.0 (cell_first shown tables cell all may)
event_fits tables p calls.Commit answers.Committed e m shown h may all = event_as tables e (events.Commit (session_of p.state)) h.0 tt
event_fits tables p calls.Rollback answers.RolledBack e m shown h may all = event_as tables e (events.Rollback (session_of p.state)) h.0 tt
event_fits tables p calls.Show (answers.Shown n) e m shown h may all = event_as tables e (events.Show (session_of p.state) n) h.0 tt
event_fits tables p _ _ e m shown h may all = absurd h

refused_same : (c : Call) (why : BookFault) (shown : List Table) → following shown c (answers.Refused why) ≡ shown
refused_same (calls.Look known) why shown = refl
refused_same calls.Open why shown = refl
refused_same calls.Close why shown = refl
refused_same (calls.Define table) why shown = refl
refused_same (calls.Begin level) why shown = refl
refused_same (calls.Scan table) why shown = refl
refused_same (calls.Touch cell) why shown = refl
refused_same (calls.Write cell value) why shown = refl
refused_same calls.Commit why shown = refl
refused_same calls.Rollback why shown = refl
refused_same calls.Show why shown = refl

-- ---- the record

record_fits : {W : Type 0} (gives : W → ℕ → W → Type 0) (tables shown : List Table) (p : Past) (v : W) (cs : List Call) (es : List Entry) (q : Past) (w : W) →
    IsValidRecord gives p v cs es q w → Obeys fields shown cs es → AreFirst shown p.seen.tables → AreFirst q.seen.tables tables →
    AllByRecursion (WritesField tables) (events_of es)
record_fits gives tables shown p v [] [] q w valid obeys first last = tt
record_fits gives tables shown p v [] (did a e ∷ es) q w valid obeys first last = absurd valid
record_fits gives tables shown p v [] (refused why ∷ es) q w valid obeys first last = absurd valid
record_fits gives tables shown p v [] (short final n ∷ es) q w valid obeys first last = record_fits gives tables shown p v [] es q w valid tt first last
record_fits gives tables shown p v [] (unsent n ∷ es) q w valid obeys first last = record_fits gives tables shown p v [] es q w valid tt first last
record_fits gives tables shown p v [] (stop cause ∷ es) q w valid obeys first last = record_fits gives tables shown p v [] es q w valid tt first last
record_fits gives tables shown p v (c ∷ cs) [] q w valid obeys first last = absurd valid
record_fits gives tables shown p v (c ∷ cs) (did a e ∷ es) q w valid obeys first last =
    let m : Past = valid.0 in
    let rest = first_then m.seen.tables q.seen.tables tables (valid_first gives m valid.1 cs es q w valid.4) last in
    let on = first_then shown p.seen.tables m.seen.tables first (happens_first p c a e m valid.2) in (
      event_fits tables p c a e m shown valid.2 obeys.0 (first_then shown m.seen.tables tables on rest),
      record_fits gives tables (following shown c a) m valid.1 cs es q w valid.4 obeys.1 (shown_first p c a e m shown valid.2 obeys.0 first on) last,
    )
record_fits gives tables shown p v (c ∷ cs) (refused why ∷ es) q w valid obeys first last =
    let m : Past = valid.0 in
    record_fits gives tables shown m valid.1 cs es q w valid.4
    (subst (λ (ts : List Table). Obeys fields ts cs es) (refused_same c why shown) obeys.1)
    (first_then shown p.seen.tables m.seen.tables first (declines_first p c why m valid.2)) last
record_fits gives tables shown p v (c ∷ cs) (short final n ∷ es) q w valid obeys first last =
    record_fits gives tables shown p v (c ∷ cs) es q w valid obeys first last
record_fits gives tables shown p v (c ∷ cs) (unsent n ∷ es) q w valid obeys first last =
    record_fits gives tables shown p v (c ∷ cs) es q w valid obeys first last
record_fits gives tables shown p v (c ∷ cs) (stop cause ∷ es) q w valid obeys first last =
    record_fits gives tables shown p v (c ∷ cs) es q w valid obeys first last

told_obeys : (level : Level) (requests : Requests) (entries : List Entry) (said : Said) (next : Next) → told level requests entries ≡ (said, next) →
    Obeys fields [] said.calls entries
unfolding told
told_obeys level requests entries said next is =
    let asked =
    (session_keeps fields fields_fit requests [] phases.Startup (at_start level) (first_all [])).asks (record { bytes = []; calls = [] }) entries in
    let calls_are : said.calls ≡ asked.more = ap (λ (x : Said × Next). x.0.calls) (sym is) ∙ asked.whole in
    subst (λ (cs : List Call). Obeys fields [] cs entries) (sym calls_are) asked.obeys

pub told_fits : {W : Type 0} (gives : W → ℕ → W → Type 0) (level : Level) (requests : Requests) (said : Said) (next : Next) (entries : List Entry)
    (p : Past) (v : W) (q : Past) (w : W) (tables : List Table) → told level requests entries ≡ (said, next) →
    IsValidRecord gives p v said.calls entries q w → AreFirst q.seen.tables tables → AllByRecursion (WritesField tables) (events_of entries)
told_fits gives level requests said next entries p v q w tables is valid last =
    record_fits gives tables [] p v said.calls entries q w valid (told_obeys level requests entries said next is)
    (record { more = p.seen.tables; whole = refl }) last
