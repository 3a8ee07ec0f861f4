-- Two rides over one call get one answer, and stand at one past after it.
use Rattle.std.proofs.Common.{◌≡◌, inl, inr, ◌⊎◌, ℕ, ◌+◌, List, [], ◌∷◌, ◌++◌, None, length, take, refl, sym, ◌∙◌, ap, subst, arith}
use Rattle.std.proofs.lemmas.List.{length_push}
use Rattle.cell_base.specs.declared.cell.Cell.{Cell}
use Rattle.cell_base.specs.declared.value.Value.{Value}
use Rattle.sql_tree.specs.declared.table.Table.{Table}
use Rattle.history_core.specs.declared.event.Event.{Event}
use Rattle.history_core.specs.declared.event.Event.TheVariants.{Define}
use Rattle.history_core.specs.declared.fault.Limit.{Limit}
use Rattle.history_core.specs.declared.fault.BookFault.{BookFault}
use Rattle.history_core.specs.declared.fault.BookFault.TheVariants as faults
use Rattle.history_core.specs.declared.fault.DefineAnswer.TheVariants as defines
use Rattle.history_core.specs.Events.{names, defined, defined_name}
use Rattle.history_book.specs.Book.{Past, SessionState, session_of, IsUnwritten}
use Rattle.history_core.proofs.KeptLemmas.{names-push}
use Rattle.block_machine.specs.Calls.{Call}
use Rattle.block_machine.specs.Calls as calls
use Rattle.block_machine.specs.Script.{Entry, refused, Said, with_call, Script, ask}
use Rattle.block_machine.specs.declared.call.Answer.{Answer}
use Rattle.block_machine.specs.declared.call.Answer.TheVariants as answers
use Rattle.block_machine.specs.declared.end.End.{End}
use Rattle.session_core.specs.Record.{Happens, Draws, StateAfter}
use Rattle.choice_stream.specs.Choices.{DrawsFirst}
use Rattle.committed_rows.proofs.Tables.{names-more}
use Rattle.program_laws.proofs.Leads.{Leads, made_of, valid_leads, happens_adds, goes_alone}
use Rattle.program_laws.proofs.Names.{placed}
use Rattle.program_laws.proofs.Values.{not_both}
use Rattle.program_laws.proofs.Known.{Known, Way, known}
use Rattle.program_laws.proofs.OneStep.{IsOne, known_one}
use Rattle.program_laws.proofs.Refusals.{not_refused, one_refusal}
use Rattle.program_laws.proofs.Rides.{IsLast, Rides, IsNear, Agree}
use Rattle.program_laws.proofs.Asking.{Answered, Stopped, turned, ask_grows}

-- ---- the state

state_same : (c : Call) (a : Answer) (old x y : SessionState) → StateAfter c a old x → StateAfter c a old y → x ≡ y
state_same calls.Open (answers.Opened s) old x y one two = one ∙ sym two
state_same calls.Close answers.Closed old x y one two = one ∙ sym two
state_same (calls.Begin level) (answers.Begun n) old x y one two = one ∙ sym two
state_same (calls.Write cell value) answers.Written old x y one two = one ∙ sym two
state_same calls.Commit answers.Committed old x y one two = one ∙ sym two
state_same calls.Rollback answers.RolledBack old x y one two = one ∙ sym two
state_same _ _ old x y one two = one ∙ sym two

-- ---- the tables

-- one more table is defined, which is the one that the call defines
pub record Grown (p m q : Past) (c : Call) : Type 0 where
  pub table : Table
  pub call : c ≡ calls.Define table
  pub count : defined m.seen.events ≡ defined p.seen.events + 1
  pub tables : take (defined p.seen.events + 1) q.seen.tables ≡ take (defined p.seen.events) q.seen.tables ++ table ∷ []

abbrev pub NextTables : Past → Past → Past → Call → Type 0
NextTables p m q c = (defined m.seen.events ≡ defined p.seen.events) ⊎ Grown p m q c

still : (p m : Past) (e f : Event) → m.seen.events ≡ p.seen.events ++ e ∷ [] → e ≡ f → defined_name f ≡ None → defined m.seen.events ≡ defined p.seen.events
still p m e f seen is none = ap defined (seen ∙ ap (λ (x : Event). p.seen.events ++ x ∷ []) is) ∙ ap length (names-push p.seen.events f none)

grown : (p m q : Past) (t : Table) (before : List Table) (e : Event) → Way p m q e → e ≡ Define (session_of p.state) t.name →
    m.seen.tables ≡ before ++ t ∷ [] → Grown p m q (calls.Define t)
grown p m q t before e way is tables =
    let seen : m.seen.events ≡ p.seen.events ++ Define (session_of p.state) t.name ∷ [] =
    way.made.seen ∙ ap (λ (x : Event). p.seen.events ++ x ∷ []) is in
    let at = placed p m q (session_of p.state) t before way.legal way.leads seen tables in
    record {
      table = t;
      call = refl;
      count = ap defined seen ∙ ap length (names-more p.seen.events (Define (session_of p.state) t.name ∷ [])) ∙ length_push (names p.seen.events) t.name;
      tables = at.next ∙ ap (λ (ts : List Table). ts ++ t ∷ []) (sym at.there);
    }

next_tables : (p m q : Past) (c : Call) (a : Answer) (e : Event) → Way p m q e → Happens p c a e m → NextTables p m q c
next_tables p m q calls.Open (answers.Opened s) e way h = inl (still p m e _ way.made.seen h.0 refl)
next_tables p m q calls.Close answers.Closed e way h = inl (still p m e _ way.made.seen h.0 refl)
next_tables p m q (calls.Look many) (answers.Looked tables) e way h = inl (still p m e _ way.made.seen h.0 refl)
next_tables p m q (calls.Define t) (answers.Defined (defines.Defined n)) e way h = inr (grown p m q t h.1.0 e way h.0 h.1.1)
next_tables p m q (calls.Define t) (answers.Defined (defines.Taken n)) e way h = inl (still p m e _ way.made.seen h.0 refl)
next_tables p m q (calls.Begin level) (answers.Begun n) e way h = inl (still p m e _ way.made.seen h.0 refl)
next_tables p m q (calls.Scan table) (answers.Listed keys) e way h = inl (still p m e _ way.made.seen h.0 refl)
next_tables p m q (calls.Touch cell) (answers.Found value) e way h = elim h.0 [
  | inl back ↦ inl (still p m e _ way.made.seen back.event_is refl)
  | inr from ↦ inl (still p m e _ way.made.seen from.event_is refl)
]
next_tables p m q (calls.Write cell value) answers.Written e way h = inl (still p m e _ way.made.seen h.0 refl)
next_tables p m q calls.Commit answers.Committed e way h = inl (still p m e _ way.made.seen h.0 refl)
next_tables p m q calls.Rollback answers.RolledBack e way h = inl (still p m e _ way.made.seen h.0 refl)
next_tables p m q calls.Show (answers.Shown n) e way h = inl (still p m e _ way.made.seen h.0 refl)
next_tables p m q _ _ e way h = absurd h

tables_near : (a b m n q r : Past) (c : Call) → IsNear a b q r → m.seen.events ≡ n.seen.events → NextTables a m q c → NextTables b n r c →
    take (defined m.seen.events) q.seen.tables ≡ take (defined m.seen.events) r.seen.tables
tables_near a b m n q r c near same (inl one) (inl two) =
    ap (λ (k : ℕ). take k q.seen.tables) one ∙ near.tables ∙ sym (ap (λ (k : ℕ). take k r.seen.tables) one)
tables_near a b m n q r c near same (inl one) (inr two) =
    let before : defined a.seen.events ≡ defined b.seen.events = ap defined near.events in
    let following : defined m.seen.events ≡ defined n.seen.events = ap defined same in
    let h = two.count in absurd (omega (arith, one))
tables_near a b m n q r c near same (inr one) (inl two) =
    let before : defined a.seen.events ≡ defined b.seen.events = ap defined near.events in
    let following : defined m.seen.events ≡ defined n.seen.events = ap defined same in
    let h = one.count in absurd (omega (arith, two))
tables_near a b m n q r c near same (inr one) (inr two) =
    let before : defined a.seen.events ≡ defined b.seen.events = ap defined near.events in
    let calls_are : calls.Define one.table ≡ calls.Define two.table = sym one.call ∙ two.call in
    let table : one.table ≡ two.table = cc in
    ap (λ (k : ℕ). take k q.seen.tables) one.count ∙ one.tables ∙ ap (λ (ts : List Table). ts ++ one.table ∷ []) near.tables
    ∙ ap (λ (t : Table). take (defined a.seen.events) r.seen.tables ++ t ∷ []) table
    ∙ ap (λ (k : ℕ). take k r.seen.tables ++ two.table ∷ []) before ∙ sym two.tables
    ∙ ap (λ (k : ℕ). take (k + 1) r.seen.tables) (sym before) ∙ ap (λ (k : ℕ). take k r.seen.tables) (sym one.count)

-- ---- one step

-- a step was made by an answer, and this is what is known of it
way_of : (p m q : Past) (v : List ℕ) (c : Call) (a : Answer) (u : List ℕ) → length p.seen.events ≡ length p.own → IsLast q → Leads m q →
    (took : Answered p v c a m u) → Way p m q took.event
way_of p m q v c a u alone last leads took =
    let adds = happens_adds p c a took.event m took.happens in
    record {
      made = made_of p m q took.event alone last.alone last.legal adds leads;
      level = adds.level;
      initial = adds.initial;
      legal = last.legal;
      leads = leads;
    }

known_near : (a b q r : Past) (v : List ℕ) (c : Call) (x : Answer) (f : Event) (w : List ℕ) → IsNear a b q r →
    Known b.seen.initial b.seen.events b.state (take (defined b.seen.events) r.seen.tables) v c x f w →
    Known a.seen.initial a.seen.events a.state (take (defined a.seen.events) q.seen.tables) v c x f w
known_near a b q r v c x f w near is =
    let one : Known b.seen.initial a.seen.events b.state (take (defined a.seen.events) r.seen.tables) v c x f w =
    subst (λ (es : List Event). Known b.seen.initial es b.state (take (defined es) r.seen.tables) v c x f w) (sym near.events) is in
    let two : Known a.seen.initial a.seen.events b.state (take (defined a.seen.events) r.seen.tables) v c x f w =
    subst (λ (cells : List (Cell × Value)). Known cells a.seen.events b.state (take (defined a.seen.events) r.seen.tables) v c x f w) (sym near.initial)
    one in
    let three : Known a.seen.initial a.seen.events a.state (take (defined a.seen.events) r.seen.tables) v c x f w =
    subst (λ (s : SessionState). Known a.seen.initial a.seen.events s (take (defined a.seen.events) r.seen.tables) v c x f w) (sym near.state) two in
    subst (λ (ts : List Table). Known a.seen.initial a.seen.events a.state ts v c x f w) (sym near.tables) three

-- the same answer, the same words, and pasts that are near again
pub record Steps (x y : Answer) (u w : List ℕ) (m n q r : Past) : Type 0 where
  pub answers : x ≡ y
  pub words : u ≡ w
  pub near : IsNear m n q r

both_answered : (a b m n q r : Past) (v u w : List ℕ) (c : Call) (x y : Answer) → IsNear a b q r → length a.seen.events ≡ length a.own →
    length b.seen.events ≡ length b.own → IsLast q → IsLast r → Leads m q → Leads n r → Answered a v c x m u → Answered b v c y n w →
    Steps x y u w m n q r
both_answered a b m n q r v u w c x y near alone lone last end to on one two =
    let left : Way a m q one.event = way_of a m q v c x u alone last to one in
    let right : Way b n r two.event = way_of b n r v c y w lone end on two in
    let is = known a m q v u c x one.event left one.happens one.draws in
    let also = known_near a b q r v c y two.event w near (known b n r v w c y two.event right two.happens two.draws) in
    let same : IsOne x y one.event two.event u w =
    known_one a.seen.initial a.seen.events a.state (take (defined a.seen.events) q.seen.tables) v c x y one.event two.event u w is also in
    let events : m.seen.events ≡ n.seen.events =
    left.made.seen ∙ ap (λ (es : List Event). es ++ one.event ∷ []) near.events
    ∙ ap (λ (e : Event). b.seen.events ++ e ∷ []) same.events ∙ sym right.made.seen in
    record {
      answers = same.answers;
      words = same.words;
      near = record {
        level = left.level ∙ near.level ∙ sym right.level;
        initial = left.initial ∙ near.initial ∙ sym right.initial;
        events = events;
        state = state_same c x a.state m.state n.state one.state
            (subst (λ (s : SessionState). StateAfter c x s n.state) (sym near.state) (subst (λ (z : Answer). StateAfter c z b.state n.state) (sym same.answers) two.state));
        tables = tables_near a b m n q r c near events (next_tables a m q c x one.event left one.happens) (next_tables b n r c y two.event right two.happens);
      };
    }

refused_words : (a b : Past) (v u w : List ℕ) (c : Call) (x y : BookFault) → a.state ≡ b.state → Draws DrawsFirst a v c (refused x) u →
    Draws DrawsFirst b v c (refused y) w → u ≡ w
refused_words a b v u w (calls.Touch cell) x y same (inl one) (inl two) = one.1 ∙ sym two.1
refused_words a b v u w (calls.Touch cell) x y same (inl one) (inr two) =
    absurd (not_both cell a.state one.0 (subst (λ (s : SessionState). IsUnwritten cell s) (sym same) two.0))
refused_words a b v u w (calls.Touch cell) x y same (inr one) (inl two) =
    absurd (not_both cell b.state two.0 (subst (λ (s : SessionState). IsUnwritten cell s) same one.0))
refused_words a b v u w (calls.Touch cell) x y same (inr one) (inr two) = one.1.1.1 ∙ sym two.1.1.1
refused_words a b v u w _ x y same one two = one ∙ sym two

both_stopped : (a b m n q r : Past) (v u w : List ℕ) (c : Call) (x y : Answer) → IsNear a b q r → length a.seen.events ≡ length a.own →
    length b.seen.events ≡ length b.own → length m.seen.events ≡ length m.own → length n.seen.events ≡ length n.own →
    Stopped a v c x m u → Stopped b v c y n w → Steps x y u w m n q r
both_stopped a b m n q r v u w c x y near alone lone after following one two =
    let left : m.seen.events ≡ a.seen.events = goes_alone a m alone after one.declines.1 in
    let right : n.seen.events ≡ a.seen.events = goes_alone b n lone following two.declines.1 ∙ sym near.events in
    let begun : m.seen.initial ≡ n.seen.initial = one.declines.1.initial ∙ near.initial ∙ sym two.declines.1.initial in
    let limits : one.limit ≡ two.limit = one_refusal m n c one.limit two.limit begun (left ∙ sym right) one.declines.2 two.declines.2 in
    record {
      answers = one.is ∙ ap (λ (l : Limit). answers.Refused (faults.Full l)) limits ∙ sym two.is;
      words = refused_words a b v u w c (faults.Full one.limit) (faults.Full two.limit) near.state one.draws two.draws;
      near = record {
        level = one.declines.1.level ∙ near.level ∙ sym two.declines.1.level;
        initial = begun;
        events = left ∙ sym right;
        state = one.declines.1.state ∙ near.state ∙ sym two.declines.1.state;
        tables = ap (λ (es : List Event). take (defined es) q.seen.tables) left ∙ near.tables
            ∙ sym (ap (λ (es : List Event). take (defined es) r.seen.tables) left);
      };
    }

never_apart : (a b m n q r : Past) (v u w : List ℕ) (c : Call) (x y : Answer) → a.seen.initial ≡ b.seen.initial → a.seen.events ≡ b.seen.events → length a.seen.events ≡ length a.own →
    length b.seen.events ≡ length b.own → length n.seen.events ≡ length n.own → IsLast q → Leads m q →
    Answered a v c x m u → Stopped b v c y n w → ⊥
never_apart a b m n q r v u w c x y begun same alone lone following last to one two =
    let left : Way a m q one.event = way_of a m q v c x u alone last to one in
    not_refused a.seen.initial a.seen.events a.state (take (defined a.seen.events) q.seen.tables) v u c x one.event
    (known a m q v u c x one.event left one.happens one.draws) left.made.may.fits b n two.limit (two.declines.1.initial ∙ sym begun)
    (goes_alone b n lone following two.declines.1 ∙ sym same) two.declines

one_step : (a b m n q r : Past) (v u w : List ℕ) (c : Call) (x y : Answer) → IsNear a b q r → length a.seen.events ≡ length a.own →
    length b.seen.events ≡ length b.own → length m.seen.events ≡ length m.own → length n.seen.events ≡ length n.own → IsLast q → IsLast r →
    Leads m q → Leads n r → Answered a v c x m u ⊎ Stopped a v c x m u → Answered b v c y n w ⊎ Stopped b v c y n w → Steps x y u w m n q r
one_step a b m n q r v u w c x y near alone lone after following last end to on (inl one) (inl two) =
    both_answered a b m n q r v u w c x y near alone lone last end to on one two
one_step a b m n q r v u w c x y near alone lone after following last end to on (inl one) (inr two) =
    absurd (never_apart a b m n q r v u w c x y near.initial near.events alone lone following last to one two)
one_step a b m n q r v u w c x y near alone lone after following last end to on (inr one) (inl two) =
    absurd (never_apart b a n m r q v w u c y x (sym near.initial) (sym near.events) lone alone after end on two one)
one_step a b m n q r v u w c x y near alone lone after following last end to on (inr one) (inr two) =
    both_stopped a b m n q r v u w c x y near alone lone after following one two

leads_last : (s : Script) (said : Said) (p : Past) (v : List ℕ) (q : Past) (w : List ℕ) (out : Said) (end : End) (es : List Entry) →
    Rides s said es p v out end q w → Leads p q
leads_last s said p v q w out end es rides = valid_leads DrawsFirst p v rides.calls es q w rides.valid

-- scripts that ask one call agree where they agree after each answer
pub ask_agrees : (E : End → Type 0) → (c : Call) (s t : Answer → Script) → ((a : Answer) → Agree E (s a) (t a)) → Agree E (ask c s) (ask c t)
ask_agrees E c s t agree = record {
  left = ask_grows c s (λ a. (agree a).left);
  right = ask_grows c t (λ a. (agree a).right);
  same = λ said ds es a b v x y m n q r w u one two near.
      let left = turned c s said ds a v x m q w (λ z. (agree z).left) one in
      let right = turned c t said es b v y n r u (λ z. (agree z).right) two in
      let step : Steps left.answer right.answer left.u right.u left.m right.m q r =
      one_step a b left.m right.m q r v left.u right.u c left.answer right.answer near one.alone two.alone left.rides.alone right.rides.alone
      one.last two.last (leads_last (s left.answer) (with_call said c) left.m left.u q w x m left.more left.rides)
      (leads_last (t right.answer) (with_call said c) right.m right.u r u y n right.more right.rides) left.took right.took in
      let following : Rides (t left.answer) (with_call said c) right.more right.m left.u y n r u =
      subst (λ (k : List ℕ). Rides (t left.answer) (with_call said c) right.more right.m k y n r u) (sym step.words)
      (subst (λ (z : Answer). Rides (t z) (with_call said c) right.more right.m right.u y n r u) (sym step.answers) right.rides) in
      (agree left.answer).same (with_call said c) left.more right.more left.m right.m left.u x y m n q r w u left.rides following step.near;
}
