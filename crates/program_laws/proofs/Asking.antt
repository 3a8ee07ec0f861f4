-- A call is asked: two rides over it get the same answer, and go on from the same past.
use Rattle.std.proofs.Common.{◌≡◌, inl, inr, ◌⊎◌, true, false, ℕ, List, [], ◌∷◌, ◌++◌, length, refl, sym, ◌∙◌, ap, subst, append_assoc}
use Rattle.std.proofs.lemmas.List.{append_cancel_left}
use Rattle.history_core.specs.declared.event.Event.{Event}
use Rattle.history_core.specs.declared.fault.Limit.{Limit}
use Rattle.history_core.specs.declared.fault.BookFault.{BookFault}
use Rattle.history_core.specs.declared.fault.BookFault.TheVariants as faults
use Rattle.history_book.specs.Book.{Past}
use Rattle.block_machine.specs.Calls.{Call}
use Rattle.block_machine.specs.Calls as calls
use Rattle.block_machine.specs.Script.{Entry, did, refused, short, unsent, stop, Next, call, ended, Said, with_call, Script, ask}
use Rattle.block_machine.specs.declared.call.Answer.{Answer}
use Rattle.block_machine.specs.declared.call.Answer.TheVariants as answers
use Rattle.block_machine.specs.declared.end.End.{End}
use Rattle.session_core.specs.Record.{IsValidRecord, Happens, Declines, Draws, StateAfter}
use Rattle.session_core.proofs.ValidRecords.{Declines-goes}
use Rattle.choice_stream.specs.Choices.{DrawsFirst}
use Rattle.program_laws.proofs.Leads.{Leads, valid_leads, leads_adds, leads_goes, happens_adds, alone_between}
use Rattle.program_laws.proofs.Rides.{Goes, Grows, IsLast, Rides, astray_ended}

-- a call is never answered by a refusal that is an event
no_event : (p : Past) (c : Call) (why : BookFault) (e : Event) (m : Past) → Happens p c (answers.Refused why) e m → ⊥
no_event p calls.Open why e m h = h
no_event p calls.Close why e m h = h
no_event p (calls.Look known) why e m h = h
no_event p (calls.Define t) why e m h = h
no_event p (calls.Begin level) why e m h = h
no_event p (calls.Scan t) why e m h = h
no_event p (calls.Touch cell) why e m h = h
no_event p (calls.Write cell value) why e m h = h
no_event p calls.Commit why e m h = h
no_event p calls.Rollback why e m h = h
no_event p calls.Show why e m h = h

-- the call was answered
pub record Answered (p : Past) (v : List ℕ) (c : Call) (a : Answer) (m : Past) (u : List ℕ) : Type 0 where
  pub event : Event
  pub happens : Happens p c a event m
  pub draws : Draws DrawsFirst p v c (did a event) u
  pub state : StateAfter c a p.state m.state

-- the call was refused, since the history is full
pub record Stopped (p : Past) (v : List ℕ) (c : Call) (a : Answer) (m : Past) (u : List ℕ) : Type 0 where
  pub limit : Limit
  pub is : a ≡ answers.Refused (faults.Full limit)
  pub declines : Declines p c (faults.Full limit) m
  pub draws : Draws DrawsFirst p v c (refused (faults.Full limit)) u

-- a ride that asks a call goes on after its answer
pub record Turned (c : Call) (rest : Answer → Script) (said : Said) (p : Past) (v : List ℕ) (out : Said) (end : End) (q : Past) (w : List ℕ) : Type 0 where
  pub answer : Answer
  pub more : List Entry
  pub m : Past
  pub u : List ℕ
  pub leads : Leads p m
  pub took : Answered p v c answer m u ⊎ Stopped p v c answer m u
  pub rides : Rides (rest answer) (with_call said c) more m u out end q w

-- the calls that are left begin with this one
calls_split : (said : List Call) (c d : Call) (cs more : List Call) (out : List Call) → out ≡ said ++ d ∷ cs → out ≡ (said ++ c ∷ []) ++ more →
    (d ≡ c) × (out ≡ (said ++ c ∷ []) ++ cs)
calls_split said c d cs more out one two =
    let same : d ∷ cs ≡ c ∷ more = append_cancel_left said (d ∷ cs) (c ∷ more) (sym one ∙ two ∙ append_assoc said (c ∷ []) more) in
    let head : d ≡ c = cc in
    (head, one ∙ ap (λ (x : Call). said ++ x ∷ cs) head ∙ sym (append_assoc said (c ∷ []) cs))

turned_did : (c : Call) (rest : Answer → Script) (said : Said) (a : Answer) (e : Event) (es : List Entry) (p : Past) (v : List ℕ) (out : Said) (end : End)
    (q : Past) (w : List ℕ) (cs : List Call) → Grows (rest a) → Goes (rest a) (with_call said c) es out end → out.calls ≡ said.calls ++ cs →
    IsValidRecord DrawsFirst p v cs (did a e ∷ es) q w → length p.seen.events ≡ length p.own → IsLast q → Turned c rest said p v out end q w
turned_did c rest said a e es p v out end q w [] grows goes asked valid alone last = absurd valid
turned_did c rest said a e es p v out end q w (d ∷ cs) grows goes asked valid alone last =
    let on = grows (with_call said c) es out end goes in
    let split = calls_split said.calls c d cs on.0 out.calls asked on.1 in
    let happens : Happens p c a e valid.0 = subst (λ (x : Call). Happens p x a e valid.0) split.0 valid.2 in
    let to : Leads p valid.0 = leads_adds p valid.0 e (happens_adds p c a e valid.0 happens) in
    record {
      answer = a;
      more = es;
      m = valid.0;
      u = valid.1;
      leads = to;
      took = inl record {
        event = e;
        happens = happens;
        draws = subst (λ (x : Call). Draws DrawsFirst p v x (did a e) valid.1) split.0 valid.3;
        state = subst (λ (x : Call). StateAfter x a p.state valid.0.state) split.0 valid.5;
      };
      rides = record {
        goes = goes;
        calls = cs;
        asked = split.1;
        valid = valid.4;
        alone = alone_between p valid.0 q alone last.alone to (valid_leads DrawsFirst valid.0 valid.1 cs es q w valid.4);
        last = last;
      };
    }

turned_refused : (c : Call) (rest : Answer → Script) (said : Said) (limit : Limit) (es : List Entry) (p : Past) (v : List ℕ) (out : Said) (end : End)
    (q : Past) (w : List ℕ) (cs : List Call) → Grows (rest (answers.Refused (faults.Full limit))) →
    Goes (rest (answers.Refused (faults.Full limit))) (with_call said c) es out end → out.calls ≡ said.calls ++ cs →
    IsValidRecord DrawsFirst p v cs (refused (faults.Full limit) ∷ es) q w → length p.seen.events ≡ length p.own → IsLast q →
    Turned c rest said p v out end q w
turned_refused c rest said limit es p v out end q w [] grows goes asked valid alone last = absurd valid
turned_refused c rest said limit es p v out end q w (d ∷ cs) grows goes asked valid alone last =
    let on = grows (with_call said c) es out end goes in
    let split = calls_split said.calls c d cs on.0 out.calls asked on.1 in
    let declines : Declines p c (faults.Full limit) valid.0 = subst (λ (x : Call). Declines p x (faults.Full limit) valid.0) split.0 valid.2 in
    let to : Leads p valid.0 = leads_goes p valid.0 (Declines-goes p c (faults.Full limit) valid.0 declines) in
    record {
      answer = answers.Refused (faults.Full limit);
      more = es;
      m = valid.0;
      u = valid.1;
      leads = to;
      took = inr record {
        limit = limit;
        is = refl;
        declines = declines;
        draws = subst (λ (x : Call). Draws DrawsFirst p v x (refused (faults.Full limit)) valid.1) split.0 valid.3;
      };
      rides = record {
        goes = goes;
        calls = cs;
        asked = split.1;
        valid = valid.4;
        alone = alone_between p valid.0 q alone last.alone to (valid_leads DrawsFirst valid.0 valid.1 cs es q w valid.4);
        last = last;
      };
    }

call_ended : (c : Call) (a out : Said) (end : End) → ◌≡◌ {A = Said × Next} (a, call c) (out, ended end) → ⊥
call_ended c a out end is = let both : call c ≡ ended end = ap (λ (x : Said × Next). x.1) is in cc

pub turned : (c : Call) (rest : Answer → Script) (said : Said) (es : List Entry) (p : Past) (v : List ℕ) (out : Said) (end : End) (q : Past) (w : List ℕ) →
    ((a : Answer) → Grows (rest a)) → Rides (ask c rest) said es p v out end q w → Turned c rest said p v out end q w
turned c rest said [] p v out end q w grows rides = absurd (call_ended c said out end rides.goes.is)
turned c rest said (did a e ∷ es) p v out end q w grows rides =
    turned_did c rest said a e es p v out end q w rides.calls (grows a)
    (record { is = rides.goes.is; at_rest = rides.goes.at_rest; written = rides.goes.written }) rides.asked rides.valid rides.alone rides.last
turned c rest said (refused (faults.Full limit) ∷ es) p v out end q w grows rides =
    turned_refused c rest said limit es p v out end q w rides.calls (grows (answers.Refused (faults.Full limit)))
    (record { is = rides.goes.is; at_rest = rides.goes.at_rest; written = rides.goes.written }) rides.asked rides.valid rides.alone rides.last
turned c rest said (refused faults.Memory ∷ es) p v out end q w grows rides = absurd (let h : true ≡ false = rides.goes.at_rest in cc)
turned c rest said (short final n ∷ es) p v out end q w grows rides = absurd (astray_ended said out end rides.goes.is)
turned c rest said (unsent n ∷ es) p v out end q w grows rides = absurd (astray_ended said out end rides.goes.is)
turned c rest said (stop cause ∷ es) p v out end q w grows rides = absurd (astray_ended said out end rides.goes.is)

grows_answer : (c : Call) (rest : Answer → Script) (said : Said) (a : Answer) (es : List Entry) (out : Said) (end : End) → Grows (rest a) →
    Goes (rest a) (with_call said c) es out end → (more : List Call) × (out.calls ≡ said.calls ++ more)
grows_answer c rest said a es out end grows goes =
    let on = grows (with_call said c) es out end goes in
    (c ∷ on.0, on.1 ∙ append_assoc said.calls (c ∷ []) on.0)

pub ask_grows : (c : Call) (rest : Answer → Script) → ((a : Answer) → Grows (rest a)) → Grows (ask c rest)
ask_grows c rest grows said [] out end goes = absurd (call_ended c said out end goes.is)
ask_grows c rest grows said (did a e ∷ es) out end goes =
    grows_answer c rest said a es out end (grows a) (record { is = goes.is; at_rest = goes.at_rest; written = goes.written })
ask_grows c rest grows said (refused (faults.Full limit) ∷ es) out end goes =
    grows_answer c rest said (answers.Refused (faults.Full limit)) es out end (grows (answers.Refused (faults.Full limit)))
    (record { is = goes.is; at_rest = goes.at_rest; written = goes.written })
ask_grows c rest grows said (refused faults.Memory ∷ es) out end goes = absurd (let h : true ≡ false = goes.at_rest in cc)
ask_grows c rest grows said (short final n ∷ es) out end goes = absurd (astray_ended said out end goes.is)
ask_grows c rest grows said (unsent n ∷ es) out end goes = absurd (astray_ended said out end goes.is)
ask_grows c rest grows said (stop cause ∷ es) out end goes = absurd (astray_ended said out end goes.is)
