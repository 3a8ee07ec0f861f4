-- The events of a session's record keep rows whole.
use Rattle.std.proofs.Common.{◌≡◌, inl, inr, ℕ, ◌≤◌, List, [], ◌∷◌, ◌++◌, length, take, refl, sym, ap, subst, ◌∙◌}
use Rattle.cell_base.specs.declared.cell.Cell.{Cell}
use Rattle.cell_base.specs.declared.key.Key.{Key}
use Rattle.cell_base.specs.declared.level.Level.{Level}
use Rattle.cell_base.specs.declared.value.Value.{Value}
use Rattle.sql_tree.specs.declared.table.Table.{Table}
use Rattle.history_core.specs.declared.event.Event.{Event}
use Rattle.history_core.specs.declared.event.Event.TheVariants as events
use Rattle.history_core.specs.declared.fault.BookFault.{BookFault}
use Rattle.history_core.specs.declared.fault.BookFault.TheVariants as faults
use Rattle.history_core.specs.declared.fault.DefineAnswer.TheVariants as defines
use Rattle.history_book.specs.Book.{Past, session_of, Adds, AnswersTables}
use Rattle.block_machine.specs.Calls.{Call}
use Rattle.block_machine.specs.Calls as calls
use Rattle.block_machine.specs.Knowledge.{at_start}
use Rattle.block_machine.specs.Script.{Entry, did, refused, short, unsent, stop, Said, Next}
use Rattle.block_machine.specs.declared.call.Answer.{Answer}
use Rattle.block_machine.specs.declared.call.Answer.TheVariants as answers
use Rattle.session_core.specs.declared.phase.Phase.TheVariants as phases
use Rattle.session_core.specs.Requests.{Requests}
use Rattle.session_core.specs.Told.{told}
use Rattle.session_core.specs.Record.{Happens, Declines, may_be_refused, IsValidRecord, events_of}
use Rattle.session_laws.proofs.Rules.{Obeys}
use Rattle.session_laws.proofs.SessionsKept.{session_keeps}
use Rattle.session_laws.specs.Alone.{AreFirst, MayFollow, shown_following, owed_following, KeepsRowsFrom, KeepsRowsAlone}
use Rattle.session_laws.proofs.Fronts.{first_all, first_then, ask_first, write_first, owed_first, looked}
use Rattle.session_laws.proofs.Standings.{Standing, MayCall, following, rows, rows_fit}

-- ---- the tables that a book has seen

adds_first : (p : Past) (e : Event) (m : Past) → Adds p e m → AreFirst p.seen.tables m.seen.tables
adds_first p e m adds = record { more = adds.more; whole = adds.tables }

pub happens_first : (p : Past) (c : Call) (a : Answer) (e : Event) (m : Past) → Happens p c a e m → AreFirst p.seen.tables m.seen.tables
happens_first p calls.Open (answers.Opened s) e m h = adds_first p e m h.1
happens_first p calls.Close answers.Closed e m h = adds_first p e m h.1
happens_first p (calls.Look known) (answers.Looked tables) e m h = adds_first p (events.Look (session_of p.state) (length m.seen.tables)) m h.1.adds
happens_first p (calls.Define table) (answers.Defined (defines.Defined n)) e m h = adds_first p (events.Define (session_of p.state) table.name) m h.1.3
happens_first p (calls.Define table) (answers.Defined (defines.Taken n)) e m h = adds_first p (events.Look (session_of p.state) n) m h.1.2
happens_first p (calls.Begin level) (answers.Begun n) e m h = adds_first p e m h.1
happens_first p (calls.Scan table) (answers.Listed keys) e m h = adds_first p e m h.1
happens_first p (calls.Touch cell) (answers.Found value) e m h = adds_first p e m h.1
happens_first p (calls.Write cell value) answers.Written e m h = adds_first p e m h.1
happens_first p calls.Commit answers.Committed e m h = adds_first p e m h.1
happens_first p calls.Rollback answers.RolledBack e m h = adds_first p e m h.1
happens_first p calls.Show (answers.Shown n) e m h = adds_first p e m h.1
happens_first p _ _ e m h = absurd h

pub declines_first : (p : Past) (c : Call) (why : BookFault) (m : Past) → Declines p c why m → AreFirst p.seen.tables m.seen.tables
declines_first p c (faults.Full limit) m declines = record { more = declines.1.more; whole = declines.1.tables }
declines_first p c faults.Memory m declines = record { more = declines.1.more; whole = declines.1.tables }

pub valid_first : {W : Type 0} (gives : W → ℕ → W → Type 0) (p : Past) (v : W) (cs : List Call) (es : List Entry) (q : Past) (w : W) →
    IsValidRecord gives p v cs es q w → AreFirst p.seen.tables q.seen.tables
valid_first gives p v [] [] q w valid = subst (λ (x : Past). AreFirst p.seen.tables x.seen.tables) (sym valid.0) (first_all p.seen.tables)
valid_first gives p v (c ∷ cs) [] q w valid = absurd valid
valid_first gives p v [] (did a e ∷ es) q w valid = absurd valid
valid_first gives p v (c ∷ cs) (did a e ∷ es) q w valid =
    first_then p.seen.tables valid.0.seen.tables q.seen.tables (happens_first p c a e valid.0 valid.2) (valid_first gives valid.0 valid.1 cs es q w valid.4)
valid_first gives p v [] (refused why ∷ es) q w valid = absurd valid
valid_first gives p v (c ∷ cs) (refused why ∷ es) q w valid =
    first_then p.seen.tables valid.0.seen.tables q.seen.tables (declines_first p c why valid.0 valid.2) (valid_first gives valid.0 valid.1 cs es q w valid.4)
valid_first gives p v [] (short final n ∷ es) q w valid = valid_first gives p v [] es q w valid
valid_first gives p v (c ∷ cs) (short final n ∷ es) q w valid = valid_first gives p v (c ∷ cs) es q w valid
valid_first gives p v [] (unsent n ∷ es) q w valid = valid_first gives p v [] es q w valid
valid_first gives p v (c ∷ cs) (unsent n ∷ es) q w valid = valid_first gives p v (c ∷ cs) es q w valid
valid_first gives p v [] (stop cause ∷ es) q w valid = valid_first gives p v [] es q w valid
valid_first gives p v (c ∷ cs) (stop cause ∷ es) q w valid = valid_first gives p v (c ∷ cs) es q w valid

-- ---- one call

-- the event of a call that keeps to the rules keeps rows whole, and leads where the rules say
record Follows (tables : List Table) (s t : Standing) (e : Event) (seen : List Table) : Type 0 where
  may : MayFollow tables s.shown s.owed e
  shown : t.shown ≡ shown_following s.shown e
  owed : t.owed ≡ owed_following tables s.owed e
  known : AreFirst t.known seen

-- of the event that the call makes
follows_as : (tables : List Table) (s t : Standing) (e f : Event) (seen : List Table) → e ≡ f → Follows tables s t f seen → Follows tables s t e seen
follows_as tables s t e f seen is follows = subst (λ (x : Event). Follows tables s t x seen) (sym is) follows

look_known : (p m : Past) (s : Standing) (known : ℕ) (tables : List Table) → AreFirst s.known p.seen.tables → known ≤ length s.known →
    AnswersTables p known tables m → AreFirst (take known s.known ++ tables) m.seen.tables
look_known p m s known tables first within answered =
    let all = first_then s.known p.seen.tables m.seen.tables first (record { more = answered.adds.more; whole = answered.adds.tables }) in
    subst (λ (ts : List Table). AreFirst (take known s.known ++ tables) ts)
    (looked s.known answered.before tables all.more m.seen.tables known all.whole answered.whole answered.known_is within) (first_all (take known s.known ++ tables))

-- the tables around a call: those that the session knows are the first that the book has seen, and those the first of all
record Around (tables known seen : List Table) : Type 0 where
  on : AreFirst known seen
  all : AreFirst known tables

touched : (tables : List Table) (p : Past) (cell : Cell) (value : Value) (e : Event) (m : Past) (s : Standing) → Happens p (calls.Touch cell) (answers.Found value) e m →
    MayCall s (calls.Touch cell) → Around tables s.known m.seen.tables → Follows tables s (following s (calls.Touch cell) (answers.Found value)) e m.seen.tables
touched tables p cell value e m s h may around = elim h.0 [
  | inl back ↦
      follows_as tables s (following s (calls.Touch cell) (answers.Found value)) e (events.Own (session_of p.state) cell value) m.seen.tables back.event_is
      (record { may = may.0; shown = refl; owed = refl; known = around.on })
  | inr from ↦
      follows_as tables s (following s (calls.Touch cell) (answers.Found value)) e (events.Read (session_of p.state) cell from.source from.count from.word value) m.seen.tables
      from.event_is (record { may = (may.0, ask_first s.known tables s.shown cell around.all may.1); shown = refl; owed = refl; known = around.on })
]

follows : (tables : List Table) (p : Past) (c : Call) (a : Answer) (e : Event) (m : Past) (s : Standing) → Happens p c a e m → MayCall s c →
    AreFirst s.known p.seen.tables → Around tables s.known m.seen.tables → Follows tables s (following s c a) e m.seen.tables
follows tables p calls.Open (answers.Opened n) e m s h may first around =
    follows_as tables s s e (events.Open n) m.seen.tables h.0 (record { may = may; shown = refl; owed = refl; known = around.on })
follows tables p calls.Close answers.Closed e m s h may first around =
    follows_as tables s s e (events.Close (session_of p.state)) m.seen.tables h.0 (record { may = may; shown = refl; owed = refl; known = around.on })
follows tables p (calls.Look known) (answers.Looked shown) e m s h may first around =
    follows_as tables s (following s (calls.Look known) (answers.Looked shown)) e (events.Look (session_of p.state) (length m.seen.tables)) m.seen.tables h.0
    (record { may = may.0; shown = refl; owed = refl; known = look_known p m s known shown first may.1 h.1 })
follows tables p (calls.Define table) (answers.Defined (defines.Defined n)) e m s h may first around =
    follows_as tables s s e (events.Define (session_of p.state) table.name) m.seen.tables h.0 (record { may = may; shown = refl; owed = refl; known = around.on })
follows tables p (calls.Define table) (answers.Defined (defines.Taken n)) e m s h may first around =
    follows_as tables s s e (events.Look (session_of p.state) n) m.seen.tables h.0 (record { may = may; shown = refl; owed = refl; known = around.on })
follows tables p (calls.Begin level) (answers.Begun n) e m s h may first around =
    follows_as tables s (following s (calls.Begin level) (answers.Begun n)) e (events.Begin (session_of p.state) level) m.seen.tables h.0
    (record { may = may; shown = refl; owed = refl; known = around.on })
follows tables p (calls.Scan table) (answers.Listed keys) e m s h may first around =
    follows_as tables s s e (events.Scan (session_of p.state) table keys) m.seen.tables h.0 (record { may = may; shown = refl; owed = refl; known = around.on })
follows tables p (calls.Touch cell) (answers.Found value) e m s h may first around = touched tables p cell value e m s h may around
follows tables p (calls.Write cell value) answers.Written e m s h may first around =
    follows_as tables s (following s (calls.Write cell value) answers.Written) e (events.Write (session_of p.state) cell value) m.seen.tables h.0 (record {
      may = write_first s.known tables s.owed cell value around.all may;
      shown = refl;
      owed = owed_first s.known tables s.owed cell value around.all may;
      known = around.on;
    })
follows tables p calls.Commit answers.Committed e m s h may first around =
    follows_as tables s s e (events.Commit (session_of p.state)) m.seen.tables h.0 (record { may = may; shown = refl; owed = refl; known = around.on })
follows tables p calls.Rollback answers.RolledBack e m s h may first around =
    follows_as tables s (following s calls.Rollback answers.RolledBack) e (events.Rollback (session_of p.state)) m.seen.tables h.0
    (record { may = tt; shown = refl; owed = refl; known = around.on })
follows tables p calls.Show (answers.Shown n) e m s h may first around =
    follows_as tables s s e (events.Show (session_of p.state) n) m.seen.tables h.0 (record { may = may; shown = refl; owed = refl; known = around.on })
follows tables p _ _ e m s h may first around = absurd h

same : (c : Call) (why : BookFault) → may_be_refused c → (s : Standing) → following s c (answers.Refused why) ≡ s
same calls.Open why may s = refl
same calls.Close why may s = refl
same (calls.Look known) why may s = refl
same (calls.Define table) why may s = refl
same (calls.Begin level) why may s = refl
same (calls.Scan table) why may s = refl
same (calls.Touch cell) why may s = refl
same (calls.Write cell value) why may s = refl
same calls.Commit why may s = refl
same calls.Rollback why may s = absurd may
same calls.Show why may s = refl

-- a refused call leaves the session where it stands
refused_same : (p : Past) (c : Call) (why : BookFault) (m : Past) (s : Standing) → Declines p c why m → following s c (answers.Refused why) ≡ s
refused_same p c (faults.Full limit) m s declines = same c (faults.Full limit) declines.0 s
refused_same p c faults.Memory m s declines = same c faults.Memory declines.0 s

-- ---- the record

next_keeps : (tables : List Table) (s t : Standing) (e : Event) (seen : List Table) (more : List Event) → Follows tables s t e seen →
    KeepsRowsFrom tables t.shown t.owed more → KeepsRowsFrom tables s.shown s.owed (e ∷ more)
next_keeps tables s t e seen more is keeps = (
  is.may,
  subst (λ (shown : List (ℕ × Key)). KeepsRowsFrom tables shown (owed_following tables s.owed e) more) is.shown
      (subst (λ (owed : List Cell). KeepsRowsFrom tables t.shown owed more) is.owed keeps),
)

record_keeps : {W : Type 0} (gives : W → ℕ → W → Type 0) (tables : List Table) (s : Standing) (p : Past) (v : W) (cs : List Call) (es : List Entry) (q : Past) (w : W) →
    IsValidRecord gives p v cs es q w → Obeys rows s cs es → AreFirst s.known p.seen.tables → AreFirst q.seen.tables tables →
    KeepsRowsFrom tables s.shown s.owed (events_of es)
record_keeps gives tables s p v [] [] q w valid obeys first last = tt
record_keeps gives tables s p v [] (did a e ∷ es) q w valid obeys first last = absurd valid
record_keeps gives tables s p v [] (refused why ∷ es) q w valid obeys first last = absurd valid
record_keeps gives tables s p v [] (short final n ∷ es) q w valid obeys first last = record_keeps gives tables s p v [] es q w valid tt first last
record_keeps gives tables s p v [] (unsent n ∷ es) q w valid obeys first last = record_keeps gives tables s p v [] es q w valid tt first last
record_keeps gives tables s p v [] (stop cause ∷ es) q w valid obeys first last = record_keeps gives tables s p v [] es q w valid tt first last
record_keeps gives tables s p v (c ∷ cs) [] q w valid obeys first last = absurd valid
record_keeps gives tables s p v (c ∷ cs) (did a e ∷ es) q w valid obeys first last =
    let m : Past = valid.0 in
    let step = happens_first p c a e m valid.2 in
    let rest = first_then m.seen.tables q.seen.tables tables (valid_first gives m valid.1 cs es q w valid.4) last in
    let on = first_then s.known p.seen.tables m.seen.tables first step in
    let is = follows tables p c a e m s valid.2 obeys.0 first (record { on = on; all = first_then s.known m.seen.tables tables on rest }) in
    next_keeps tables s (following s c a) e m.seen.tables (events_of es) is
    (record_keeps gives tables (following s c a) m valid.1 cs es q w valid.4 obeys.1 is.known last)
record_keeps gives tables s p v (c ∷ cs) (refused why ∷ es) q w valid obeys first last =
    let m : Past = valid.0 in
    record_keeps gives tables s m valid.1 cs es q w valid.4
    (subst (λ (t : Standing). Obeys rows t cs es) (refused_same p c why m s valid.2) obeys.1)
    (first_then s.known p.seen.tables m.seen.tables first (declines_first p c why m valid.2)) last
record_keeps gives tables s p v (c ∷ cs) (short final n ∷ es) q w valid obeys first last =
    record_keeps gives tables s p v (c ∷ cs) es q w valid obeys first last
record_keeps gives tables s p v (c ∷ cs) (unsent n ∷ es) q w valid obeys first last =
    record_keeps gives tables s p v (c ∷ cs) es q w valid obeys first last
record_keeps gives tables s p v (c ∷ cs) (stop cause ∷ es) q w valid obeys first last =
    record_keeps gives tables s p v (c ∷ cs) es q w valid obeys first last

-- ---- what a session was told

abbrev at_first : Standing
at_first = record { known = []; shown = []; owed = [] }

told_obeys : (level : Level) (requests : Requests) (entries : List Entry) (said : Said) (next : Next) → told level requests entries ≡ (said, next) →
    Obeys rows at_first said.calls entries
unfolding told
told_obeys level requests entries said next is =
    let asked =
    (session_keeps rows rows_fit requests at_first phases.Startup (at_start level) (refl, first_all [])).asks (record { bytes = []; calls = [] }) entries in
    let calls_are : said.calls ≡ asked.more = ap (λ (x : Said × Next). x.0.calls) (sym is) ∙ asked.whole in
    subst (λ (cs : List Call). Obeys rows at_first cs entries) (sym calls_are) asked.obeys

pub told_keeps : {W : Type 0} (gives : W → ℕ → W → Type 0) (level : Level) (requests : Requests) (said : Said) (next : Next) (entries : List Entry)
    (p : Past) (v : W) (q : Past) (w : W) (tables : List Table) → told level requests entries ≡ (said, next) →
    IsValidRecord gives p v said.calls entries q w → AreFirst q.seen.tables tables → KeepsRowsAlone tables (events_of entries)
told_keeps gives level requests said next entries p v q w tables is valid last =
    record_keeps gives tables at_first p v said.calls entries q w valid (told_obeys level requests entries said next is)
    (record { more = p.seen.tables; whole = refl }) last
