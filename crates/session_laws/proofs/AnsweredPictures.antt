-- What each call of a cell was answered stands in the history, and the keys of a scan are different.
use Rattle.std.proofs.Common.{◌≡◌, ℕ, inl, inr, ◌⊎◌, List, [], ◌∷◌, ◌++◌, length, Some, refl, sym, ap, subst, ◌∙◌, append_assoc}
use Rattle.std.specs.Prelude.{⊤, slice_get, take}
use Rattle.std.proofs.lemmas.List.{append-nil}
use Rattle.cell_base.specs.declared.cell.Cell.{Cell}
use Rattle.cell_base.specs.declared.key.Key.{Key}
use Rattle.cell_base.specs.declared.value.Value.{Value}
use Rattle.history_core.specs.declared.event.Event.{Event}
use Rattle.history_core.specs.declared.event.Event.TheVariants.{Scan}
use Rattle.history_core.specs.declared.fault.BookFault.{BookFault}
use Rattle.history_core.specs.declared.fault.BookFault.TheVariants as faults
use Rattle.history_core.specs.declared.fault.DefineAnswer.TheVariants as defined
use Rattle.history_book.specs.Book.{Past, Adds, GoesOn, session_of}
use Rattle.history_core.specs.Legal.{IsFormed, Follows}
use Rattle.sql_tree.specs.declared.table.Table.{Table}
use Rattle.block_machine.specs.Calls.{Call}
use Rattle.block_machine.specs.Calls as calls
use Rattle.block_machine.specs.Script.{Entry, did, refused, short, unsent, stop}
use Rattle.block_machine.specs.declared.call.Answer.{Answer}
use Rattle.block_machine.specs.declared.call.Answer.TheVariants as answers
use Rattle.session_core.specs.Record.{Happens, Declines, Draws, IsValidRecord, ReadsBack, ReadsFrom}
use Rattle.statement_course.specs.Laws.{AreDistinct}
use Rattle.statement_laws.specs.Runs.{lists, finds, puts}
use Rattle.session_laws.specs.Acts.{IsEventOf}
use Rattle.session_laws.proofs.KeyOrder.{ascending_distinct}

-- ---- whatever words were drawn

-- the entries are what came of these calls, one after another, from one past of the book on to another
abbrev pub IsAnswered : Past → List Call → List Entry → Past → Type 0
IsAnswered p asked entries q = IsValidRecord {W = Unit {0}} (λ before word after. ⊤) p tt asked entries q tt

any_draws : {W : Type 0} (gives : W → ℕ → W → Type 0) (p : Past) (v : W) (c : Call) (entry : Entry) (u : W) → Draws gives p v c entry u
    → Draws {W = Unit {0}} (λ before word after. ⊤) p tt c entry tt
any_draws gives p v (calls.Touch cell) entry u (inl back) = inl (back.0, refl)
any_draws gives p v (calls.Touch cell) entry u (inr drawn) = inr (drawn.0, (drawn.1.0, tt, drawn.1.2))
any_draws gives p v _ entry u same = refl

-- the record is valid, whatever words its reads drew
pub any_words : {W : Type 0} (gives : W → ℕ → W → Type 0) (p : Past) (v : W) (cs : List Call) (es : List Entry) (q : Past) (w : W)
    → IsValidRecord gives p v cs es q w → IsAnswered p cs es q
any_words gives p v [] [] q w l = (l.0, refl)
any_words gives p v (c ∷ cs) [] q w l = absurd l
any_words gives p v [] (did a e ∷ es) q w l = absurd l
any_words gives p v [] (refused why ∷ es) q w l = absurd l
any_words gives p v [] (short final n ∷ es) q w l = any_words gives p v [] es q w l
any_words gives p v [] (unsent n ∷ es) q w l = any_words gives p v [] es q w l
any_words gives p v [] (stop cause ∷ es) q w l = any_words gives p v [] es q w l
any_words gives p v (c ∷ cs) (did a e ∷ es) q w l =
    (l.0, tt, l.2, any_draws gives p v c (did a e) l.1 l.3, any_words gives l.0 l.1 cs es q w l.4, l.5)
any_words gives p v (c ∷ cs) (refused why ∷ es) q w l =
    (l.0, tt, l.2, any_draws gives p v c (refused why) l.1 l.3, any_words gives l.0 l.1 cs es q w l.4)
any_words gives p v (c ∷ cs) (short final n ∷ es) q w l = any_words gives p v (c ∷ cs) es q w l
any_words gives p v (c ∷ cs) (unsent n ∷ es) q w l = any_words gives p v (c ∷ cs) es q w l
any_words gives p v (c ∷ cs) (stop cause ∷ es) q w l = any_words gives p v (c ∷ cs) es q w l

-- ---- the history goes on

-- events and tables come after those that there were
pub record Extends (p q : Past) : Type 0 where
  pub further : List Event
  pub events : q.seen.events ≡ p.seen.events ++ further
  pub others : List Table
  pub tables : q.seen.tables ≡ p.seen.tables ++ others

extends_on : (p m q : Past) → Extends p m → Extends m q → Extends p q
extends_on p m q one other = record {
  further = one.further ++ other.further;
  events = other.events ∙ ap (λ (es : List Event). es ++ other.further) one.events ∙ append_assoc p.seen.events one.further other.further;
  others = one.others ++ other.others;
  tables = other.tables ∙ ap (λ (ts : List Table). ts ++ other.others) one.tables ∙ append_assoc p.seen.tables one.others other.others;
}

happens_adds : (p : Past) (c : Call) (a : Answer) (e : Event) (q : Past) → Happens p c a e q → Adds p e q
happens_adds p calls.Open (answers.Opened s) e q h = h.1
happens_adds p calls.Close answers.Closed e q h = h.1
happens_adds p (calls.Look known) (answers.Looked tables) e q h = subst (λ (x : Event). Adds p x q) (sym h.0) h.1.adds
happens_adds p (calls.Define t) (answers.Defined (defined.Defined n)) e q h = subst (λ (x : Event). Adds p x q) (sym h.0) h.1.3
happens_adds p (calls.Define t) (answers.Defined (defined.Taken n)) e q h = subst (λ (x : Event). Adds p x q) (sym h.0) h.1.2
happens_adds p (calls.Begin level) (answers.Begun n) e q h = h.1
happens_adds p (calls.Scan table) (answers.Listed keys) e q h = h.1
happens_adds p (calls.Touch cell) (answers.Found value) e q h = h.1
happens_adds p (calls.Write cell value) answers.Written e q h = h.1
happens_adds p calls.Commit answers.Committed e q h = h.1
happens_adds p calls.Rollback answers.RolledBack e q h = h.1
happens_adds p calls.Show (answers.Shown n) e q h = h.1
happens_adds p _ _ e q h = absurd h

adds_extends : (p : Past) (e : Event) (q : Past) → Adds p e q → Extends p q
adds_extends p e q adds = record {
  further = adds.others ++ e ∷ [];
  events = adds.seen ∙ append_assoc p.seen.events adds.others (e ∷ []);
  others = adds.more;
  tables = adds.tables;
}

goes_extends : (p q : Past) → GoesOn p q → Extends p q
goes_extends p q goes = record { further = goes.others; events = goes.seen; others = goes.more; tables = goes.tables }

pub declines_extends : (p : Past) (c : Call) (why : BookFault) (q : Past) → Declines p c why q → Extends p q
declines_extends p c (faults.Full limit) q h = goes_extends p q h.1
declines_extends p c faults.Memory q h = goes_extends p q h.1

pub happens_extends : (p : Past) (c : Call) (a : Answer) (e : Event) (q : Past) → Happens p c a e q → Extends p q
happens_extends p c a e q h = adds_extends p e q (happens_adds p c a e q h)

pub extends_to : (p : Past) (cs : List Call) (es : List Entry) (q : Past) → IsAnswered p cs es q → Extends p q
extends_to p [] [] q l = record {
  further = [];
  events = ap (λ (x : Past). x.seen.events) l.0 ∙ sym (append-nil p.seen.events);
  others = [];
  tables = ap (λ (x : Past). x.seen.tables) l.0 ∙ sym (append-nil p.seen.tables);
}
extends_to p (c ∷ cs) [] q l = absurd l
extends_to p [] (did a e ∷ es) q l = absurd l
extends_to p [] (refused why ∷ es) q l = absurd l
extends_to p [] (short final n ∷ es) q l = extends_to p [] es q l
extends_to p [] (unsent n ∷ es) q l = extends_to p [] es q l
extends_to p [] (stop cause ∷ es) q l = extends_to p [] es q l
extends_to p (c ∷ cs) (did a e ∷ es) q l =
    extends_on p l.0 q (happens_extends p c a e l.0 l.2) (extends_to l.0 cs es q l.4)
extends_to p (c ∷ cs) (refused why ∷ es) q l = extends_on p l.0 q (declines_extends p c why l.0 l.2) (extends_to l.0 cs es q l.4)
extends_to p (c ∷ cs) (short final n ∷ es) q l = extends_to p (c ∷ cs) es q l
extends_to p (c ∷ cs) (unsent n ∷ es) q l = extends_to p (c ∷ cs) es q l
extends_to p (c ∷ cs) (stop cause ∷ es) q l = extends_to p (c ∷ cs) es q l

-- ---- an event of the history fits what came before it

at_place : (front : List Event) (e : Event) (further : List Event) → slice_get ((front ++ e ∷ []) ++ further) (length front) ≡ Some e
at_place [] e further = refl
at_place (x ∷ xs) e further = at_place xs e further

fits : (initial : List (Cell × Value)) (p m q : Past) (e : Event) → Adds p e m → Extends m q → IsFormed initial q.seen.events
    → (before : List Event) × Follows initial before e
fits initial p m q e adds further formed =
    let front = p.seen.events ++ adds.others in
    let whole : q.seen.events ≡ (front ++ e ∷ []) ++ further.further = further.events ∙ ap (λ (es : List Event). es ++ further.further) adds.seen in
    let place = length front in
    let there : slice_get q.seen.events place ≡ Some e = ap (λ (events : List Event). slice_get events place) whole ∙ at_place front e further.further in
    (take place q.seen.events, (formed place e there).follows)

-- ---- calls of cells

-- what an answer to a call of a cell comes with
abbrev pub IsGood : Call → Answer → Event → Type 0
IsGood (calls.Scan table) (answers.Listed keys) e = AreDistinct keys × IsEventOf (lists table keys) e
IsGood (calls.Touch cell) (answers.Found value) e = IsEventOf (finds cell value) e
IsGood (calls.Write cell value) answers.Written e = IsEventOf (puts cell value) e
IsGood _ _ e = ⊤

scan_good : (initial : List (Cell × Value)) (session table : ℕ) (keys : List Key) (e : Event) → e ≡ Scan session table keys
    → (before : List Event) × Follows initial before e → AreDistinct keys × IsEventOf (lists table keys) e
scan_good initial session table keys e is there =
    let follows = subst (λ (x : Event). Follows initial there.0 x) is there.1 in (
      ascending_distinct keys follows.2.ascending,
      subst (λ (x : Event). IsEventOf (lists table keys) x) (sym is) (refl, refl),
    )

read_good : (p : Past) (cell : Cell) (value : Value) (e : Event) → ReadsBack p cell value e ⊎ ReadsFrom p cell value e → IsEventOf (finds cell value) e
read_good p cell value e (inl back) = subst (λ (x : Event). IsEventOf (finds cell value) x) (sym back.event_is) (refl, refl)
read_good p cell value e (inr from) = subst (λ (x : Event). IsEventOf (finds cell value) x) (sym from.event_is) (refl, refl)

is_good : (initial : List (Cell × Value)) (p m q : Past) (c : Call) (a : Answer) (e : Event) → Happens p c a e m → Extends m q
    → IsFormed initial q.seen.events → IsGood c a e
is_good initial p m q (calls.Scan table) (answers.Listed keys) e h further formed =
    scan_good initial (session_of p.state) table keys e h.0 (fits initial p m q e h.1 further formed)
is_good initial p m q (calls.Touch cell) (answers.Found value) e h further formed = read_good p cell value e h.0
is_good initial p m q (calls.Write cell value) answers.Written e h further formed =
    subst (λ (x : Event). IsEventOf (puts cell value) x) (sym h.0) (refl, refl)
is_good initial p m q _ _ e h further formed = tt

-- ---- the whole record

-- of each call of a cell that was answered
abbrev pub AreGood : List Call → List Entry → Type 0
AreGood cs [] = ⊤
AreGood cs (short final n ∷ es) = AreGood cs es
AreGood cs (unsent n ∷ es) = AreGood cs es
AreGood cs (stop cause ∷ es) = AreGood cs es
AreGood [] (did a e ∷ es) = ⊥
AreGood [] (refused why ∷ es) = ⊥
AreGood (c ∷ cs) (did a e ∷ es) = IsGood c a e × AreGood cs es
AreGood (c ∷ cs) (refused why ∷ es) = AreGood cs es

pub are_good : (initial : List (Cell × Value)) (p : Past) (cs : List Call) (es : List Entry) (q : Past) → IsAnswered p cs es q
    → IsFormed initial q.seen.events → AreGood cs es
are_good initial p [] [] q l formed = tt
are_good initial p (c ∷ cs) [] q l formed = tt
are_good initial p [] (did a e ∷ es) q l formed = absurd l
are_good initial p [] (refused why ∷ es) q l formed = absurd l
are_good initial p [] (short final n ∷ es) q l formed = are_good initial p [] es q l formed
are_good initial p [] (unsent n ∷ es) q l formed = are_good initial p [] es q l formed
are_good initial p [] (stop cause ∷ es) q l formed = are_good initial p [] es q l formed
are_good initial p (c ∷ cs) (did a e ∷ es) q l formed =
    (is_good initial p l.0 q c a e l.2 (extends_to l.0 cs es q l.4) formed, are_good initial l.0 cs es q l.4 formed)
are_good initial p (c ∷ cs) (refused why ∷ es) q l formed = are_good initial l.0 cs es q l.4 formed
are_good initial p (c ∷ cs) (short final n ∷ es) q l formed = are_good initial p (c ∷ cs) es q l formed
are_good initial p (c ∷ cs) (unsent n ∷ es) q l formed = are_good initial p (c ∷ cs) es q l formed
are_good initial p (c ∷ cs) (stop cause ∷ es) q l formed = are_good initial p (c ∷ cs) es q l formed
