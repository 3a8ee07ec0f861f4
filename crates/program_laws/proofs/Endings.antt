-- Two sessions that end leave the same where their ends are alike.
use Rattle.std.proofs.Common.{◌≡◌, inl, inr, ◌⊎◌, true, false, ℕ, List, [], ◌∷◌, ◌++◌, length, refl, sym, ◌∙◌, ap, subst, arith}
use Rattle.std.proofs.lemmas.List.{append-nil, take_all, length-map}
use Rattle.cell_base.specs.declared.sql_state.SqlState.{SqlState}
use Rattle.cell_base.specs.declared.sql_state.SqlState.TheVariants as states
use Rattle.history_core.specs.declared.fault.BookFault.TheVariants as faults
use Rattle.history_core.specs.Events.{defined}
use Rattle.history_core.specs.Chronicle.{Chronicle, IsLegalChronicle}
use Rattle.history_book.specs.Book.{Past}
use Rattle.block_machine.specs.Calls.{Call}
use Rattle.block_machine.specs.Calls as calls
use Rattle.block_machine.specs.Script.{Entry, did, refused, short, unsent, stop, Next, call, ended, Said, with_bytes, with_call, Script, ask}
use Rattle.block_machine.specs.declared.block.Owed.{Owed}
use Rattle.block_machine.specs.declared.block.Owed.TheVariants as owes
use Rattle.block_machine.specs.declared.call.Answer.{Answer}
use Rattle.block_machine.specs.declared.call.Answer.TheVariants as answers
use Rattle.block_machine.specs.declared.end.End.{End}
use Rattle.block_machine.specs.declared.end.End.TheVariants as ends
use Rattle.session_core.specs.Record.{IsValidRecord}
use Rattle.session_core.specs.Replies.{fatal_reply}
use Rattle.session_core.specs.Told.{done, fatal, closed, closing, ending, broken}
use Rattle.choice_stream.specs.Choices.{DrawsFirst}
use Rattle.program_laws.specs.OneHistory.{farewell, EndsApart, EndsAlike}
use Rattle.program_laws.proofs.Names.{name_of}
use Rattle.program_laws.proofs.Rides.{Goes, Grows, Rides, IsNear, Same, Agree, Breaks, astray_ended, tells_on}
use Rattle.program_laws.proofs.Turning.{ask_agrees}

-- ---- a session that is done

-- the record is at its end, where the bytes of this end were told
pub record IsDone (end : End) (said : Said) (es : List Entry) (out : Said) (to : End) : Type 0 where
  pub none : es ≡ []
  pub to_is : to ≡ end
  pub calls : out.calls ≡ said.calls
  pub bytes : out.bytes ≡ said.bytes ++ farewell end

two_ends : (a out : Said) (end to : End) → ◌≡◌ {A = Said × Next} (a, ended end) (out, ended to) → (to ≡ end) × (a ≡ out)
two_ends a out end to is =
    let both : ended end ≡ ended to = ap (λ (x : Said × Next). x.1) is in
    let same : end ≡ to = cc in
    (sym same, ap (λ (x : Said × Next). x.0) is)

-- the script says nothing, and ends so
done_goes : (end : End) (said : Said) (es : List Entry) (out : Said) (to : End) → Goes (done end) said es out to → (es ≡ []) × (to ≡ end) × (said ≡ out)
done_goes end said [] out to goes = let h = two_ends said out end to goes.is in (refl, h.0, h.1)
done_goes end said (e ∷ es) out to goes = absurd (astray_ended said out to goes.is)

silent : (end : End) → farewell end ≡ [] → (said : Said) (es : List Entry) (out : Said) (to : End) → Goes (done end) said es out to →
    IsDone end said es out to
silent end none said es out to goes =
    let h = done_goes end said es out to goes in
    record {
      none = h.0;
      to_is = h.1;
      calls = ap (λ (x : Said). x.calls) (sym h.2);
      bytes = ap (λ (x : Said). x.bytes) (sym h.2) ∙ sym (append-nil said.bytes) ∙ ap (λ (xs : List ℕ). said.bytes ++ xs) (sym none);
    }

done_breaks : Breaks (done ends.WriteFault)
done_breaks said [] out to is = (two_ends said out ends.WriteFault to is).0
done_breaks said (e ∷ es) out to is = absurd (astray_ended said out to is)

parted : (state : SqlState) (end : End) → farewell end ≡ fatal_reply state → (said : Said) (es : List Entry) (out : Said) (to : End) →
    Goes (fatal state end) said es out to → IsDone end said es out to
parted state end tells said es out to goes =
    let on = tells_on (fatal_reply state) (done ends.WriteFault) (done end) done_breaks said es out to
    (record { is = goes.is; at_rest = goes.at_rest; written = goes.written }) in
    let h = done_goes end (with_bytes said (fatal_reply state)) es out to on in
    record {
      none = h.0;
      to_is = h.1;
      calls = ap (λ (x : Said). x.calls) (sym h.2);
      bytes = ap (λ (x : Said). x.bytes) (sym h.2) ∙ ap (λ (xs : List ℕ). said.bytes ++ xs) (sym tells);
    }

closed_goes : (end : End) (said : Said) (es : List Entry) (out : Said) (to : End) → Goes (closed end) said es out to → IsDone end said es out to
closed_goes (ends.Protocol fault) said es out to goes = parted states.S08P01 (ends.Protocol fault) refl said es out to goes
closed_goes (ends.Refused state) said es out to goes = parted state (ends.Refused state) refl said es out to goes
closed_goes ends.Spent said es out to goes = parted states.S54000 ends.Spent refl said es out to goes
closed_goes ends.Terminated said es out to goes = silent ends.Terminated refl said es out to goes
closed_goes ends.Closed said es out to goes = silent ends.Closed refl said es out to goes
closed_goes ends.Cut said es out to goes = silent ends.Cut refl said es out to goes
closed_goes ends.Cancelled said es out to goes = silent ends.Cancelled refl said es out to goes
closed_goes ends.ReadFault said es out to goes = silent ends.ReadFault refl said es out to goes
closed_goes ends.WriteFault said es out to goes = silent ends.WriteFault refl said es out to goes
closed_goes ends.Memory said es out to goes = silent ends.Memory refl said es out to goes

-- ---- what two such sessions leave

tables_are : (q : Past) → IsLegalChronicle q.seen → length q.seen.tables ≡ defined q.seen.events
tables_are q legal = sym (length-map q.seen.tables name_of) ∙ ap length legal.tables.named

-- the record holds nothing more, so the past is the last one
at_last : (p : Past) (v : List ℕ) (cs : List Call) (es : List Entry) (q : Past) (w : List ℕ) → es ≡ [] → IsValidRecord DrawsFirst p v cs es q w → (q ≡ p) × (w ≡ v)
at_last p v cs es q w none valid = ends_so cs (subst (λ (xs : List Entry). IsValidRecord DrawsFirst p v cs xs q w) none valid)
  where
    ends_so : (cs : List Call) → IsValidRecord DrawsFirst p v cs [] q w → (q ≡ p) × (w ≡ v)
    ends_so [] l = l
    ends_so (c ∷ cs) l = absurd l

-- two pasts at their ends that are near have one history
one_history : (q r : Past) → IsLegalChronicle q.seen → IsLegalChronicle r.seen → IsNear q r q r → q.seen ≡ r.seen
one_history q r legal valid near =
    let count : defined q.seen.events ≡ defined r.seen.events = ap defined near.events in
    let tables : q.seen.tables ≡ r.seen.tables =
    sym (take_all (defined q.seen.events) q.seen.tables (omega (arith, tables_are q legal)))
    ∙ near.tables
    ∙ take_all (defined q.seen.events) r.seen.tables (omega (arith, tables_are r valid, count)) in
    chronicles q.seen r.seen near.level near.initial near.events tables
  where
    chronicles : (x y : Chronicle) → x.level ≡ y.level → x.initial ≡ y.initial → x.events ≡ y.events → x.tables ≡ y.tables → x ≡ y
    chronicles x y a b c d =
        ap (λ l. record { level = l; initial = x.initial; events = x.events; tables = x.tables }) a
        ∙ ap (λ cells. record { level = y.level; initial = cells; events = x.events; tables = x.tables }) b
        ∙ ap (λ es. record { level = y.level; initial = y.initial; events = es; tables = x.tables }) c
        ∙ ap (λ ts. record { level = y.level; initial = y.initial; events = y.events; tables = ts }) d

near_last : (a b q r : Past) → q ≡ a → r ≡ b → IsNear a b q r → IsNear q r q r
near_last a b q r left right near =
    subst (λ (x : Past). IsNear x r q r) (sym left) (subst (λ (x : Past). IsNear a x q r) (sym right) near)

-- two ends are one, or two for lack of bytes of which not the bytes made one
abbrev pub AreAlike : End → End → Type 0
AreAlike one other = (one ≡ other) ⊎ EndsApart one other

-- the same, and the bytes with them
ends_alike : (one other : End) (said x y : List ℕ) (m n : End) → AreAlike one other → m ≡ one → n ≡ other → x ≡ said ++ farewell one →
    y ≡ said ++ farewell other → EndsAlike x m y n
ends_alike one other said x y m n (inl same) left right first second =
    inl (left ∙ same ∙ sym right, first ∙ ap (λ (e : End). said ++ farewell e) same ∙ sym second)
ends_alike one other said x y m n (inr apart) left right first second =
    inr (
      subst (λ (e : End). EndsApart e n) (sym left) (subst (λ (e : End). EndsApart one e) (sym right) apart),
      record {
        common = said;
        first_is = first ∙ ap (λ (e : End). said ++ farewell e) (sym left);
        second_is = second ∙ ap (λ (e : End). said ++ farewell e) (sym right);
      },
    )

both_done : (one other : End) → AreAlike one other → (said : Said) (ds es : List Entry) (a b : Past) (v : List ℕ) (x y : Said) (m n : End) (q r : Past) (w u : List ℕ) →
    IsDone one said ds x m → IsDone other said es y n → Rides (closed one) said ds a v x m q w → Rides (closed other) said es b v y n r u →
    IsNear a b q r → Same x y m n q r w u
both_done one other alike said ds es a b v x y m n q r w u left right first second near =
    let ends_left = at_last a v first.calls ds q w left.none first.valid in
    let ends_right = at_last b v second.calls es r u right.none second.valid in
    record {
      history = one_history q r first.last.legal second.last.legal (near_last a b q r ends_left.0 ends_right.0 near);
      words = ends_left.1 ∙ sym ends_right.1;
      alike = ends_alike one other said.bytes x.bytes y.bytes m n alike left.to_is right.to_is left.bytes right.bytes;
    }

closed_grows : (end : End) → Grows (closed end)
closed_grows end said es out to goes = ([], (closed_goes end said es out to goes).calls ∙ sym (append-nil said.calls))

pub closed_agrees : (E : End → Type 0) → (one other : End) → AreAlike one other → Agree E (closed one) (closed other)
closed_agrees E one other alike = record {
  left = closed_grows one;
  right = closed_grows other;
  same = λ said ds es a b v x y m n q r w u first second near.
      inr (both_done one other alike said ds es a b v x y m n q r w u (closed_goes one said ds x m first.goes) (closed_goes other said es y n second.goes)
      first second near);
}

pub closing_agrees : (E : End → Type 0) → (one other : End) → AreAlike one other → Agree E (closing one) (closing other)
closing_agrees E one other alike = ask_agrees E calls.Close (λ _. closed one) (λ _. closed other) (λ _. closed_agrees E one other alike)

pub ending_agrees : (E : End → Type 0) → (owed : Owed) (one other : End) → AreAlike one other → Agree E (ending owed one) (ending owed other)
ending_agrees E owes.Nothing one other alike = closed_agrees E one other alike
ending_agrees E owes.Close one other alike = closing_agrees E one other alike
ending_agrees E owes.Rollback one other alike =
    ask_agrees E calls.Rollback (λ _. closing one) (λ _. closing other) (λ _. closing_agrees E one other alike)

-- ---- a session that ends by a failed write

no_call : (c : Call) (a out : Said) (end : End) → ◌≡◌ {A = Said × Next} (a, call c) (out, ended end) → ⊥
no_call c a out end is = let both : call c ≡ ended end = ap (λ (x : Said × Next). x.1) is in cc

call_breaks : (c : Call) (rest : Answer → Script) → ((a : Answer) → Breaks (rest a)) → Breaks (ask c rest)
call_breaks c rest breaks said [] out end is = absurd (no_call c said out end is)
call_breaks c rest breaks said (did a e ∷ es) out end is = breaks a (with_call said c) es out end is
call_breaks c rest breaks said (refused why ∷ es) out end is = breaks (answers.Refused why) (with_call said c) es out end is
call_breaks c rest breaks said (short final n ∷ es) out end is = absurd (astray_ended said out end is)
call_breaks c rest breaks said (unsent n ∷ es) out end is = absurd (astray_ended said out end is)
call_breaks c rest breaks said (stop cause ∷ es) out end is = absurd (astray_ended said out end is)

pub breaks : (owed : Owed) → Breaks (broken owed)
breaks owes.Nothing = done_breaks
breaks owes.Close = call_breaks calls.Close (λ _. done ends.WriteFault) (λ _. done_breaks)
breaks owes.Rollback = call_breaks calls.Rollback (λ _. closing ends.WriteFault) (λ _. call_breaks calls.Close (λ _. done ends.WriteFault) (λ _. done_breaks))

-- ---- the end to which a session comes

call_end : (c : Call) (rest : Answer → Script) (end : End) →
    ((a : Answer) (said : Said) (es : List Entry) (out : Said) (to : End) → Goes (rest a) said es out to → to ≡ end) →
    (said : Said) (es : List Entry) (out : Said) (to : End) → Goes (ask c rest) said es out to → to ≡ end
call_end c rest end on said [] out to goes = absurd (no_call c said out to goes.is)
call_end c rest end on said (did a e ∷ es) out to goes =
    on a (with_call said c) es out to (record { is = goes.is; at_rest = goes.at_rest; written = goes.written })
call_end c rest end on said (refused (faults.Full limit) ∷ es) out to goes =
    on (answers.Refused (faults.Full limit)) (with_call said c) es out to (record { is = goes.is; at_rest = goes.at_rest; written = goes.written })
call_end c rest end on said (refused faults.Memory ∷ es) out to goes = absurd (let h : true ≡ false = goes.at_rest in cc)
call_end c rest end on said (short final n ∷ es) out to goes = absurd (astray_ended said out to goes.is)
call_end c rest end on said (unsent n ∷ es) out to goes = absurd (astray_ended said out to goes.is)
call_end c rest end on said (stop cause ∷ es) out to goes = absurd (astray_ended said out to goes.is)

closed_end : (end : End) (said : Said) (es : List Entry) (out : Said) (to : End) → Goes (closed end) said es out to → to ≡ end
closed_end end said es out to goes = (closed_goes end said es out to goes).to_is

closing_end : (end : End) (said : Said) (es : List Entry) (out : Said) (to : End) → Goes (closing end) said es out to → to ≡ end
closing_end end said es out to goes = call_end calls.Close (λ _. closed end) end (λ _. closed_end end) said es out to goes

pub ending_end : (owed : Owed) (end : End) (said : Said) (es : List Entry) (out : Said) (to : End) → Goes (ending owed end) said es out to → to ≡ end
ending_end owes.Nothing end said es out to goes = closed_end end said es out to goes
ending_end owes.Close end said es out to goes = closing_end end said es out to goes
ending_end owes.Rollback end said es out to goes = call_end calls.Rollback (λ _. closing end) end (λ _. closing_end end) said es out to goes
