-- What a desk says to a caller of the book.
use Rattle.std.proofs.Common.{◌≡◌, ◌≢◌, ℕ, ◌≤◌, ◌%◌, Some, List, [], ◌∷◌, ◌++◌, Option, None, Ok, Err, Result, length, take, drop, ◌-◌, arith, refl, ap, sym, ◌∙◌, subst}
use Rattle.std.specs.Prelude.{IfOk, OnOk, OnErr, IfNone}
use Rattle.std.specs.List.{Contains}
use Rattle.std.proofs.lemmas.List.{append-nil, append_assoc, take-append-drop, take-append-le, drop-append-le, length-drop, take_all, drop_all, length-take-le}
use Rattle.cell_base.specs.declared.level.Level.{Level}
use Rattle.cell_base.specs.declared.cell.Cell.{Cell}
use Rattle.cell_base.specs.declared.value.Value.{Value}
use Rattle.sql_tree.specs.declared.table.Table.{Table}
use Rattle.history_core.specs.declared.event.Event.{Event}
use Rattle.history_core.specs.declared.event.Event.TheVariants.{Define, Look, Begin, Read, Write}
use Rattle.history_core.specs.declared.fault.DefineAnswer.{DefineAnswer}
use Rattle.history_core.specs.declared.fault.DefineAnswer.TheVariants.{Defined, Taken}
use Rattle.history_core.specs.Events.{names, session_in}
use Rattle.history_core.specs.Legal.{IsOffer}
use Rattle.std.specs.List.{slice_get}
use Rattle.valid_writes.proofs.Legality.{picked_writes}
use Rattle.history_core.specs.Chronicle.{Chronicle}
use Rattle.history_book.specs.Book.{no_session, in_session, pending, HasSession, IsIdle, IsInTransaction, session_of, writes_of, GoesOn, Adds, AddsRead, AnswersTables, AnswersDefine}
use Rattle.history_core.proofs.KeptLemmas.{names-push}
use Rattle.valid_writes.specs.declared.desk.Stage.{Stage}
use Rattle.valid_writes.specs.declared.desk.Stage.TheVariants.{NoSession, InSession, Pending}
use Rattle.valid_writes.specs.declared.desk.Desk.{Desk}
use Rattle.valid_writes.specs.Desk.{note, last_writes, state_of, given_events, own_since, past_of, IsChosen, IsDesk, GoesTo, Stays, ReadsTo, LooksTo, DefinesTo, AnswersTo}
use Rattle.valid_writes.proofs.Writes.{last_writes-push}

pub stage_idle : (stage : Stage) (s : ℕ) (events : List Event) → IsIdle (state_of stage s events) → stage ≡ InSession
stage_idle NoSession s events is = absurd is
stage_idle InSession s events is = refl
stage_idle Pending s events is = absurd is

pub stage_pending : (stage : Stage) (s : ℕ) (events : List Event) → IsInTransaction (state_of stage s events) → stage ≡ Pending
stage_pending NoSession s events is = absurd is
stage_pending InSession s events is = absurd is
stage_pending Pending s events is = refl

pub stage_open : (stage : Stage) (s : ℕ) (events : List Event) → HasSession (state_of stage s events) → stage ≢ NoSession
stage_open NoSession s events is = absurd is
stage_open InSession s events is = λ same. cc
stage_open Pending s events is = λ same. cc

pub session_is_in : (stage : Stage) (s : ℕ) (events : List Event) → stage ≢ NoSession → session_of (state_of stage s events) ≡ s
session_is_in NoSession s events open_is = absurd (open_is refl)
session_is_in InSession s events open_is = refl
session_is_in Pending s events open_is = refl

pub writes_pending : (stage : Stage) (s : ℕ) (events : List Event) → stage ≡ Pending → writes_of (state_of stage s events) ≡ last_writes events s
writes_pending NoSession s events is = cc
writes_pending InSession s events is = cc
writes_pending Pending s events is = refl

nothing_between : (es : List Event) (e : Event) → es ++ e ∷ [] ≡ es ++ [] ++ e ∷ []
nothing_between [] e = refl
nothing_between (f ∷ fs) e = ap (λ (es : List Event). f ∷ es) (nothing_between fs e)

state_same : (old new : Desk) → Stays old new → (past_of new).state ≡ (past_of old).state
state_same old new same =
    ap (λ (t : Stage). state_of t new.session new.store.history.events) same.stands
    ∙ ap (λ (n : ℕ). state_of old.stage n new.store.history.events) same.session
    ∙ ap (λ (h : Chronicle). state_of old.stage old.session h.events) same.history

-- the own events grow with the event
pub own_goes :
    (given : Option ℕ) (from : ℕ) (events : List Event) (e : Event) → from ≤ length events →
    own_since given from (events ++ e ∷ []) ≡ own_since given from events ++ e ∷ []
own_goes given from events e within =
    ap (λ (es : List Event). given_events given es ++ drop from (events ++ e ∷ [])) (take-append-le from events (e ∷ []) within)
    ∙ ap (λ (es : List Event). given_events given (take from events) ++ es) (drop-append-le from events (e ∷ []) within)
    ∙ sym (append_assoc (given_events given (take from events)) (drop from events) (e ∷ []))

pub own_since_same :
    (old new : Desk) → new.given ≡ old.given → new.from ≡ old.from →
    own_since new.given new.from new.store.history.events ≡ own_since old.given old.from new.store.history.events
own_since_same old new given from =
    ap (λ (g : Option ℕ). own_since g new.from new.store.history.events) given
    ∙ ap (λ (n : ℕ). own_since old.given n new.store.history.events) from

-- the event is added, and no other
pub adds_goes :
    (old new : Desk) (e : Event) (s : ℕ) (stage : Stage) → IsDesk old → GoesTo old e s stage new → Adds (past_of old) e (past_of new)
adds_goes old new e s stage was goes =
    let events : new.store.history.events ≡ old.store.history.events ++ e ∷ [] = ap (λ (h : Chronicle). h.events) goes.history in
    let tables : new.store.history.tables ≡ old.store.history.tables = ap (λ (h : Chronicle). h.tables) goes.history in
    record {
      level = ap (λ (h : Chronicle). h.level) goes.history;
      initial = ap (λ (h : Chronicle). h.initial) goes.history;
      others = [];
      seen = events ∙ nothing_between old.store.history.events _;
      foreign = λ k d within. absurd (omega arith);
      more = [];
      tables = tables ∙ sym (append-nil old.store.history.tables);
      own = own_since_same old new goes.given goes.from ∙ ap (λ (es : List Event). own_since old.given old.from es) events
          ∙ own_goes old.given old.from old.store.history.events e was.from;
    }

-- nothing changes
pub goes_same : (old new : Desk) → Stays old new → GoesOn (past_of old) (past_of new)
goes_same old new same = record {
  level = ap (λ (h : Chronicle). h.level) same.history;
  initial = ap (λ (h : Chronicle). h.initial) same.history;
  others = [];
  seen = ap (λ (h : Chronicle). h.events) same.history ∙ sym (append-nil old.store.history.events);
  foreign = λ k d within. absurd (omega arith);
  more = [];
  tables = ap (λ (h : Chronicle). h.tables) same.history ∙ sym (append-nil old.store.history.tables);
  own = own_since_same old new same.given same.from ∙ ap (λ (h : Chronicle). own_since old.given old.from h.events) same.history;
  state = state_same old new same;
}

-- where the session stands after the event
pub state_goes :
    (old new : Desk) (e : Event) (s : ℕ) (stage : Stage) → GoesTo old e s stage new → (past_of new).state ≡ state_of stage s (old.store.history.events ++ e ∷ [])
state_goes old new e s stage goes =
    ap (λ (t : Stage). state_of t new.session new.store.history.events) goes.stands
    ∙ ap (λ (n : ℕ). state_of stage n new.store.history.events) goes.session
    ∙ ap (λ (h : Chronicle). state_of stage s h.events) goes.history

-- an event of the session that notes no write leaves the state
pub state_still :
    (stage : Stage) (s : ℕ) (events : List Event) (e : Event) → session_in e ≡ s → ((writes : List (Cell × Value)) → note writes e ≡ writes) →
    state_of stage s (events ++ e ∷ []) ≡ state_of stage s events
state_still NoSession s events e same still = refl
state_still InSession s events e same still = refl
state_still Pending s events e same still = ap (λ (w : List (Cell × Value)). pending s w) (last_writes-push events s e same ∙ still (last_writes events s))

pub if_ok : {A E : Type 0} (P Q : A → Type 0) (r : Result A E) → ((a : A) → P a → Q a) → IfOk r P → IfOk r Q
if_ok P Q (Ok a) f h = f a h
if_ok P Q (Err e) f h = h

pub on_ok : {A E : Type 0} (P Q : Type 0) (r : Result A E) → (P → Q) → OnOk r P → OnOk r Q
on_ok P Q (Ok a) f h = f h
on_ok P Q (Err e) f h = h

pub on_err : {A E : Type 0} (P Q : Type 0) (r : Result A E) → (P → Q) → OnErr r P → OnErr r Q
on_err P Q (Ok a) f h = h
on_err P Q (Err e) f h = f h

pub err_goes : {A E : Type 0} (old new : Desk) (r : Result A E) → OnErr r (Stays old new) → OnErr r (GoesOn (past_of old) (past_of new))
err_goes old new (Ok a) h = h
err_goes old new (Err e) h = goes_same old new h

-- the event with the number of the session that the state names
pub adds_in_session :
    (old new : Desk) (f : ℕ → Event) (s : ℕ) (stage : Stage) → IsDesk old → old.stage ≢ NoSession → GoesTo old (f old.session) s stage new →
    Adds (past_of old) (f (session_of (state_of old.stage old.session old.store.history.events))) (past_of new)
adds_in_session old new f s stage was open_is goes =
    subst (λ (n : ℕ). Adds (past_of old) (f n) (past_of new)) (sym (session_is_in old.stage old.session old.store.history.events open_is))
    (adds_goes old new (f old.session) s stage was goes)

pub pending_open : (stage : Stage) → stage ≡ Pending → stage ≢ NoSession
pending_open stage is same = cc

pub in_session_open : (stage : Stage) → stage ≡ InSession → stage ≢ NoSession
in_session_open stage is same = cc

state_stays :
    (old new : Desk) (e : Event) (stage : Stage) → session_in e ≡ old.session → ((writes : List (Cell × Value)) → note writes e ≡ writes) → old.stage ≡ stage →
    GoesTo old e old.session stage new → (past_of new).state ≡ (past_of old).state
state_stays old new e stage same still is goes =
    state_goes old new e old.session stage goes
    ∙ state_still stage old.session old.store.history.events e same still
    ∙ ap (λ (t : Stage). state_of t old.session old.store.history.events) (sym is)

tables_same : (old new : Desk) (e : Event) (s : ℕ) (stage : Stage) → GoesTo old e s stage new → new.store.history.tables ≡ old.store.history.tables
tables_same old new e s stage goes = ap (λ (h : Chronicle). h.tables) goes.history

pub looks_answers :
    (old new : Desk) (known : ℕ) (tables : List Table) → IsDesk old → old.stage ≢ NoSession → LooksTo old known tables new →
    AnswersTables (past_of old) known tables (past_of new)
looks_answers old new known tables was open_is looks =
    let same : new.store.history.tables ≡ old.store.history.tables =
    tables_same old new (Look old.session (length old.store.history.tables)) old.session old.stage looks.goes in
    record {
      before = looks.before;
      whole = same ∙ looks.whole;
      known_is = looks.known_is;
      adds =
          subst (λ (n : ℕ). Adds (past_of old) (Look (session_of (state_of old.stage old.session old.store.history.events)) n) (past_of new)) (sym (ap length same))
          (adds_in_session old new (λ n. Look n (length old.store.history.tables)) old.session old.stage was open_is looks.goes);
    }

pub looks_state :
    {E : Type 0} (old new : Desk) (known : ℕ) (r : Result (List Table) E) → IfOk r (λ tables. LooksTo old known tables new) → OnErr r (Stays old new) →
    (past_of new).state ≡ (past_of old).state
looks_state old new known (Ok tables) looks same =
    state_stays old new (Look old.session (length old.store.history.tables)) old.stage refl (λ w. refl) refl looks.goes
looks_state old new known (Err e) looks same = state_same old new same

pub reads_adds :
    (old new : Desk) (cell : Cell) (word : ℕ) (value : Value) → IsDesk old → old.stage ≡ Pending → ReadsTo old cell word value new →
    AddsRead (past_of old) cell word value (past_of new)
reads_adds old new cell word value was is reads = record {
  source = reads.source;
  count = reads.count;
  adds = adds_in_session old new (λ n. Read n cell reads.source reads.count word value) old.session Pending was (pending_open old.stage is) reads.goes;
}

pub reads_state :
    {E : Type 0} (old new : Desk) (cell : Cell) (word : ℕ) (r : Result Value E) → old.stage ≡ Pending → IfOk r (λ value. ReadsTo old cell word value new) →
    OnErr r (Stays old new) → (past_of new).state ≡ (past_of old).state
reads_state old new cell word (Ok value) is reads same =
    state_stays old new (Read old.session cell reads.source reads.count word value) Pending refl (λ w. refl) is reads.goes
reads_state old new cell word (Err e) is reads same = state_same old new same

-- a call whose event notes no write leaves the state
pub call_state :
    {A E : Type 0} (old new : Desk) (f : A → Event) (stage : Stage) (r : Result A E) → ((a : A) → session_in (f a) ≡ old.session) → ((a : A) (writes : List (Cell × Value)) → note writes (f a) ≡ writes) →
    old.stage ≡ stage → IfOk r (λ a. GoesTo old (f a) old.session stage new) → OnErr r (Stays old new) → (past_of new).state ≡ (past_of old).state
call_state old new f stage (Ok a) own still is goes same = state_stays old new (f a) stage (own a) (still a) is goes
call_state old new f stage (Err e) own still is goes same = state_same old new same

defines_adds : (old new : Desk) (table : Table) → IsDesk old → DefinesTo old table new → Adds (past_of old) (Define old.session table.name) (past_of new)
defines_adds old new table was defines =
    let events : new.store.history.events ≡ old.store.history.events ++ Define old.session table.name ∷ [] = ap (λ (h : Chronicle). h.events) defines.history in
    record {
      level = ap (λ (h : Chronicle). h.level) defines.history;
      initial = ap (λ (h : Chronicle). h.initial) defines.history;
      others = [];
      seen = events ∙ nothing_between old.store.history.events _;
      foreign = λ k d within. absurd (omega arith);
      more = table ∷ [];
      tables = ap (λ (h : Chronicle). h.tables) defines.history;
      own = own_since_same old new defines.given defines.from ∙ ap (λ (es : List Event). own_since old.given old.from es) events
          ∙ own_goes old.given old.from old.store.history.events (Define old.session table.name) was.from;
    }

pub defines_answers :
    (old new : Desk) (table : Table) (answer : DefineAnswer) → IsDesk old → old.stage ≢ NoSession → AnswersTo old table answer new →
    AnswersDefine (past_of old) table answer (past_of new)
defines_answers old new table (Defined n) was open_is (count, defines) = (
  old.store.history.tables,
  ap (λ (h : Chronicle). h.tables) defines.history,
  sym count,
  subst (λ (s : ℕ). Adds (past_of old) (Define s table.name) (past_of new)) (sym (session_is_in old.stage old.session old.store.history.events open_is))
      (defines_adds old new table was defines),
)
defines_answers old new table (Taken n) was open_is (count, member, goes) =
    let same : new.store.history.tables ≡ old.store.history.tables = tables_same old new (Look old.session n) old.session old.stage goes in
    let named : names new.store.history.events ≡ names old.store.history.events =
    ap (λ (h : Chronicle). names h.events) goes.history ∙ names-push old.store.history.events (Look old.session n) refl in (
      count ∙ ap length (sym same),
      subst (λ (ns : List (List ℕ)). Contains ns table.name) (sym named) member,
      adds_in_session old new (λ s. Look s n) old.session old.stage was open_is goes,
    )

pub defines_state :
    {E : Type 0} (old new : Desk) (table : Table) (r : Result DefineAnswer E) → IfOk r (λ answer. AnswersTo old table answer new) → OnErr r (Stays old new) →
    (past_of new).state ≡ (past_of old).state
defines_state old new table (Ok (Defined n)) (count, defines) same =
    ap (λ (t : Stage). state_of t new.session new.store.history.events) defines.stands
    ∙ ap (λ (s : ℕ). state_of old.stage s new.store.history.events) defines.session
    ∙ ap (λ (h : Chronicle). state_of old.stage old.session h.events) defines.history
    ∙ state_still old.stage old.session old.store.history.events (Define old.session table.name) refl (λ w. refl)
defines_state old new table (Ok (Taken n)) (count, member, goes) same =
    state_stays old new (Look old.session n) old.stage refl (λ w. refl) refl goes
defines_state old new table (Err e) answers same = state_same old new same

-- the state after a Begin, and after a write
pub begin_state :
    (old new : Desk) (level : Level) → old.stage ≢ NoSession → GoesTo old (Begin old.session level) old.session Pending new →
    (past_of new).state ≡ pending (session_of (state_of old.stage old.session old.store.history.events)) []
begin_state old new level open_is goes =
    state_goes old new (Begin old.session level) old.session Pending goes
    ∙ ap (λ (w : List (Cell × Value)). pending old.session w) (last_writes-push old.store.history.events old.session (Begin old.session level) refl)
    ∙ ap (λ (s : ℕ). pending s []) (sym (session_is_in old.stage old.session old.store.history.events open_is))

pub write_state :
    (old new : Desk) (cell : Cell) (value : Value) → old.stage ≡ Pending → GoesTo old (Write old.session cell value) old.session Pending new →
    (past_of new).state
    ≡ pending (session_of (state_of old.stage old.session old.store.history.events)) (writes_of (state_of old.stage old.session old.store.history.events) ++ (cell, value) ∷ [])
write_state old new cell value is goes =
    state_goes old new (Write old.session cell value) old.session Pending goes
    ∙ ap (λ (w : List (Cell × Value)). pending old.session w) (last_writes-push old.store.history.events old.session (Write old.session cell value) refl)
    ∙ ap (λ (s : ℕ). pending s (last_writes old.store.history.events old.session ++ (cell, value) ∷ [])) (sym (session_is_in old.stage old.session old.store.history.events (pending_open old.stage is)))
    ∙ ap (λ (w : List (Cell × Value)). pending (session_of (state_of old.stage old.session old.store.history.events)) (w ++ (cell, value) ∷ []))
    (sym (writes_pending old.stage old.session old.store.history.events is))

-- the state after the session's or the transaction's end
pub end_state :
    (old new : Desk) (e : Event) → old.stage ≢ NoSession → GoesTo old e old.session InSession new →
    (past_of new).state ≡ in_session (session_of (state_of old.stage old.session old.store.history.events))
end_state old new e open_is goes =
    state_goes old new e old.session InSession goes
    ∙ ap (λ (s : ℕ). in_session s) (sym (session_is_in old.stage old.session old.store.history.events open_is))

-- what was copied are the tables from the known number on
pub looks_to :
    (old new : Desk) (seen : List Table) (known n : ℕ) (tables : List Table) → seen ≡ old.store.history.tables → known ≤ length old.store.history.tables →
    tables ≡ take (length seen - known) (drop known seen) → n ≡ length old.store.history.tables →
    GoesTo old (Look old.session n) old.session old.stage new → LooksTo old known tables new
looks_to old new seen known n tables same inside copied count goes =
    let short : length (drop known seen) ≡ length seen - known = length-drop known seen in
    let rest : tables ≡ drop known old.store.history.tables =
    copied ∙ take_all (length seen - known) (drop known seen) (omega arith) ∙ ap (λ (ts : List Table). drop known ts) same in
    record {
      before = take known old.store.history.tables;
      whole = sym (take-append-drop known old.store.history.tables) ∙ ap (λ (ts : List Table). take known old.store.history.tables ++ ts) (sym rest);
      known_is = length-take-le known old.store.history.tables inside;
      goes = subst (λ (m : ℕ). GoesTo old (Look old.session m) old.session old.stage new) count goes;
    }

-- what the word picks of an offer is chosen
pub chosen_tried :
    (history : Chronicle) (s : ℕ) (x : Cell) (offer first second : List ℕ) (word source : ℕ) → IsOffer history.events s x offer →
    first ≡ offer → second ≡ offer → slice_get first (word % length first) ≡ Some source →
    IsChosen history s x word (record { source = source; count = length second })
chosen_tried history s x offer first second word source is same_first same_second picked =
    let count : length second ≡ length offer = ap (λ (xs : List ℕ). length xs) same_second in
    let here : slice_get offer (word % length offer) ≡ Some source =
    ap (λ (xs : List ℕ). slice_get xs (word % length xs)) (sym same_first) ∙ picked in
    let there : slice_get offer (word % length second) ≡ Some source = ap (λ (n : ℕ). slice_get offer (word % n)) count ∙ here in
    record {
      offered = λ value. (offer, is, count, there);
      writes = picked_writes history.events s x offer (word % length offer) source is here;
    }

pub same_some : (a b : ℕ) → Some a ≡ Some b → a ≡ b
same_some a b same = cc

-- at the start the own events are those of the given session
pub own_at_start : (given : Option ℕ) (from : ℕ) (events : List Event) → from ≡ length events → own_since given from events ≡ given_events given events
own_at_start given from events all =
    ap (λ (es : List Event). given_events given es ++ drop from events) (take_all from events (omega arith))
    ∙ ap (λ (es : List Event). given_events given events ++ es) (drop_all from events (omega arith)) ∙ append-nil (given_events given events)

pub state_none : (given : Option ℕ) (number : ℕ) (stage : Stage) (events : List Event) → IfNone given (stage ≡ NoSession) → IfNone given (state_of stage number events ≡ no_session)
state_none None number stage events none = ap (λ (t : Stage). state_of t number events) none
state_none (Some s) number stage events none = tt

pub state_idle : (number s : ℕ) (stage : Stage) (events : List Event) → number ≡ s → stage ≡ InSession → state_of stage number events ≡ in_session s
state_idle number s stage events of is = ap (λ (t : Stage). state_of t number events) is ∙ ap (λ (n : ℕ). in_session n) of

pub state_pending : (number s : ℕ) (stage : Stage) (events : List Event) → number ≡ s → stage ≡ Pending → state_of stage number events ≡ pending s (last_writes events s)
state_pending number s stage events of is = ap (λ (t : Stage). state_of t number events) is ∙ ap (λ (n : ℕ). pending n (last_writes events n)) of
