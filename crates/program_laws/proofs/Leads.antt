-- Where a valid record leads, and what a book that is alone has added.
use Rattle.std.proofs.Common.{◌≡◌, ℕ, ◌+◌, ◌≤◌, List, [], ◌∷◌, ◌++◌, length, refl, sym, ◌∙◌, ap, subst, append_assoc, arith, length-append}
use Rattle.std.proofs.lemmas.List.{append-nil, take_at, nil_from_length}
use Rattle.cell_base.specs.declared.cell.Cell.{Cell}
use Rattle.cell_base.specs.declared.value.Value.{Value}
use Rattle.sql_tree.specs.declared.table.Table.{Table}
use Rattle.history_core.specs.declared.event.Event.{Event}
use Rattle.history_core.specs.declared.fault.DefineAnswer.TheVariants as defines
use Rattle.history_core.specs.Legal.{IsLegal, IsOffered, MayCome}
use Rattle.history_core.specs.Chronicle.{IsLegalChronicle}
use Rattle.history_book.specs.Book.{Past, Adds, GoesOn}
use Rattle.history_core.proofs.Prefixes.{legal_back}
use Rattle.history_core.proofs.Taken.{legal_take}
use Rattle.block_machine.specs.Calls.{Call}
use Rattle.block_machine.specs.Calls as calls
use Rattle.block_machine.specs.declared.call.Answer.{Answer}
use Rattle.block_machine.specs.declared.call.Answer.TheVariants as answers
use Rattle.block_machine.specs.Script.{Entry, did, refused, short, unsent, stop}
use Rattle.session_core.specs.Record.{Happens, IsValidRecord}
use Rattle.session_core.proofs.ValidRecords.{Declines-goes}

-- the one past goes on as the other: it adds as many events at least as the book adds
pub record Leads (p q : Past) : Type 0 where
  pub level : q.seen.level ≡ p.seen.level
  pub initial : q.seen.initial ≡ p.seen.initial
  pub events : List Event
  pub seen : q.seen.events ≡ p.seen.events ++ events
  pub more : List Table
  pub tables : q.seen.tables ≡ p.seen.tables ++ more
  pub counts : length p.seen.events + length q.own ≤ length q.seen.events + length p.own

pub leads_same : (p q : Past) → q ≡ p → Leads p q
leads_same p q same = subst (λ (x : Past). Leads p x) (sym same) record {
  level = refl;
  initial = refl;
  events = [];
  seen = sym (append-nil p.seen.events);
  more = [];
  tables = sym (append-nil p.seen.tables);
  counts = omega arith;
}

pub leads_on : (p m q : Past) → Leads p m → Leads m q → Leads p q
leads_on p m q one other = record {
  level = other.level ∙ one.level;
  initial = other.initial ∙ one.initial;
  events = one.events ++ other.events;
  seen = other.seen ∙ ap (λ (es : List Event). es ++ other.events) one.seen ∙ append_assoc p.seen.events one.events other.events;
  more = one.more ++ other.more;
  tables = other.tables ∙ ap (λ (ts : List Table). ts ++ other.more) one.tables ∙ append_assoc p.seen.tables one.more other.more;
  counts = let a = one.counts in let b = other.counts in omega arith;
}

pub leads_adds : (p q : Past) (e : Event) → Adds p e q → Leads p q
leads_adds p q e adds = record {
  level = adds.level;
  initial = adds.initial;
  events = adds.others ++ e ∷ [];
  seen = adds.seen ∙ append_assoc p.seen.events adds.others (e ∷ []);
  more = adds.more;
  tables = adds.tables;
  counts =
      let a : length q.seen.events ≡ length (p.seen.events ++ adds.others) + 1 =
      ap length adds.seen ∙ length-append (p.seen.events ++ adds.others) (e ∷ []) in
      let b : length (p.seen.events ++ adds.others) ≡ length p.seen.events + length adds.others = length-append p.seen.events adds.others in
      let c : length q.own ≡ length p.own + 1 = ap length adds.own ∙ length-append p.own (e ∷ []) in
      omega arith;
}

pub leads_goes : (p q : Past) → GoesOn p q → Leads p q
leads_goes p q goes = record {
  level = goes.level;
  initial = goes.initial;
  events = goes.others;
  seen = goes.seen;
  more = goes.more;
  tables = goes.tables;
  counts =
      let a : length q.seen.events ≡ length p.seen.events + length goes.others = ap length goes.seen ∙ length-append p.seen.events goes.others in
      let c : length q.own ≡ length p.own = ap length goes.own in
      omega arith;
}

-- the event that an answer holds was added
pub happens_adds : (p : Past) (c : Call) (a : Answer) (e : Event) (q : Past) → Happens p c a e q → Adds p e q
happens_adds p calls.Open (answers.Opened s) e q h = h.1
happens_adds p calls.Close answers.Closed e q h = h.1
happens_adds p (calls.Look known) (answers.Looked tables) e q h = subst (λ (x : Event). Adds p x q) (sym h.0) h.1.adds
happens_adds p (calls.Define t) (answers.Defined (defines.Defined n)) e q h = subst (λ (x : Event). Adds p x q) (sym h.0) h.1.3
happens_adds p (calls.Define t) (answers.Defined (defines.Taken n)) e q h = subst (λ (x : Event). Adds p x q) (sym h.0) h.1.2
happens_adds p (calls.Begin level) (answers.Begun n) e q h = h.1
happens_adds p (calls.Scan table) (answers.Listed keys) e q h = h.1
happens_adds p (calls.Touch cell) (answers.Found value) e q h = h.1
happens_adds p (calls.Write cell value) answers.Written e q h = h.1
happens_adds p calls.Commit answers.Committed e q h = h.1
happens_adds p calls.Rollback answers.RolledBack e q h = h.1
happens_adds p calls.Show (answers.Shown n) e q h = h.1
happens_adds p _ _ e q h = absurd h

pub valid_leads : {W : Type 0} (gives : W → ℕ → W → Type 0) (p : Past) (v : W) (cs : List Call) (es : List Entry) (q : Past) (w : W) →
    IsValidRecord gives p v cs es q w → Leads p q
valid_leads gives p v [] [] q w l = leads_same p q l.0
valid_leads gives p v (c ∷ cs) [] q w l = absurd l
valid_leads gives p v [] (did a e ∷ es) q w l = absurd l
valid_leads gives p v [] (refused why ∷ es) q w l = absurd l
valid_leads gives p v [] (short final n ∷ es) q w l = valid_leads gives p v [] es q w l
valid_leads gives p v [] (unsent n ∷ es) q w l = valid_leads gives p v [] es q w l
valid_leads gives p v [] (stop cause ∷ es) q w l = valid_leads gives p v [] es q w l
valid_leads gives p v (c ∷ cs) (did a e ∷ es) q w l =
    leads_on p l.0 q (leads_adds p l.0 e (happens_adds p c a e l.0 l.2)) (valid_leads gives l.0 l.1 cs es q w l.4)
valid_leads gives p v (c ∷ cs) (refused why ∷ es) q w l =
    leads_on p l.0 q (leads_goes p l.0 (Declines-goes p c why l.0 l.2)) (valid_leads gives l.0 l.1 cs es q w l.4)
valid_leads gives p v (c ∷ cs) (short final n ∷ es) q w l = valid_leads gives p v (c ∷ cs) es q w l
valid_leads gives p v (c ∷ cs) (unsent n ∷ es) q w l = valid_leads gives p v (c ∷ cs) es q w l
valid_leads gives p v (c ∷ cs) (stop cause ∷ es) q w l = valid_leads gives p v (c ∷ cs) es q w l

-- a book that is alone at its beginning and at its end is alone in between
pub alone_between : (p m q : Past) → length p.seen.events ≡ length p.own → length q.seen.events ≡ length q.own → Leads p m → Leads m q →
    length m.seen.events ≡ length m.own
alone_between p m q first last one other = let a = one.counts in let b = other.counts in omega arith

-- it adds its event, and nothing else
pub adds_alone : (p m : Past) (e : Event) → length p.seen.events ≡ length p.own → length m.seen.events ≡ length m.own → Adds p e m →
    m.seen.events ≡ p.seen.events ++ e ∷ []
adds_alone p m e old new adds =
    let a : length m.seen.events ≡ length (p.seen.events ++ adds.others) + 1 =
    ap length adds.seen ∙ length-append (p.seen.events ++ adds.others) (e ∷ []) in
    let b : length (p.seen.events ++ adds.others) ≡ length p.seen.events + length adds.others = length-append p.seen.events adds.others in
    let c : length m.own ≡ length p.own + 1 = ap length adds.own ∙ length-append p.own (e ∷ []) in
    let none : adds.others ≡ [] = nil_from_length adds.others (omega arith) in
    adds.seen ∙ ap (λ (es : List Event). es ++ e ∷ []) (ap (λ (xs : List Event). p.seen.events ++ xs) none ∙ append-nil p.seen.events)

pub goes_alone : (p m : Past) → length p.seen.events ≡ length p.own → length m.seen.events ≡ length m.own → GoesOn p m →
    m.seen.events ≡ p.seen.events
goes_alone p m old new goes =
    let a : length m.seen.events ≡ length p.seen.events + length goes.others = ap length goes.seen ∙ length-append p.seen.events goes.others in
    let c : length m.own ≡ length p.own = ap length goes.own in
    let none : goes.others ≡ [] = nil_from_length goes.others (omega arith) in
    goes.seen ∙ ap (λ (es : List Event). p.seen.events ++ es) none ∙ append-nil p.seen.events

-- what comes before a legal history's end is legal
pub legal_front : (initial : List (Cell × Value)) (xs ys : List Event) → IsLegal initial (xs ++ ys) → IsLegal initial xs
legal_front initial xs ys legal =
    subst (λ (es : List Event). IsLegal initial es) (take_at xs ys (length xs) refl) (legal_take initial (xs ++ ys) (length xs) legal)

pub legal_before : (m q : Past) → Leads m q → IsLegalChronicle q.seen → IsLegal m.seen.initial m.seen.events
legal_before m q leads legal =
    legal_front m.seen.initial m.seen.events leads.events
    (subst (λ (cells : List (Cell × Value)). IsLegal cells (m.seen.events ++ leads.events)) leads.initial
    (subst (λ (es : List Event). IsLegal q.seen.initial es) leads.seen legal.legal))

-- what is known of the event that a lone book added
pub record Made (p m : Past) (e : Event) : Type 0 where
  pub seen : m.seen.events ≡ p.seen.events ++ e ∷ []
  pub may : MayCome p.seen.initial p.seen.events e
  pub offered : IsOffered p.seen.events e

pub made_of : (p m q : Past) (e : Event) → length p.seen.events ≡ length p.own → length q.seen.events ≡ length q.own →
    IsLegalChronicle q.seen → Adds p e m → Leads m q → Made p m e
made_of p m q e first last legal adds leads =
    let there = alone_between p m q first last (leads_adds p m e adds) leads in
    let seen : m.seen.events ≡ p.seen.events ++ e ∷ [] = adds_alone p m e first there adds in
    let whole : IsLegal p.seen.initial (p.seen.events ++ e ∷ []) =
    subst (λ (cells : List (Cell × Value)). IsLegal cells (p.seen.events ++ e ∷ [])) adds.initial
    (subst (λ (es : List Event). IsLegal m.seen.initial es) seen (legal_before m q leads legal)) in
    let back = legal_back p.seen.initial p.seen.events e whole in
    record { seen = seen; may = back.1.0; offered = back.1.1 }
