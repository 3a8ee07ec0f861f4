-- Of each call of a book in a turn: that it adds one event or none, and where its session stands then.
use Rattle.std.proofs.Common.{◌≡◌, ℕ, ◌⊎◌, ⊎_elim, List, [], ◌∷◌, ◌++◌, refl, ap, sym, ◌∙◌, subst, arith, inl, inr, Result, Ok, Err}
use Rattle.std.specs.Prelude.{IfOk, OnOk, OnErr}
use Rattle.std.proofs.lemmas.List.{append-nil, append_cancel_left}
use Rattle.std.proofs.lemmas.List.Elements.{All-nil, All-cons}
use Rattle.cell_base.specs.declared.cell.Cell.{Cell}
use Rattle.cell_base.specs.declared.value.Value.{Value}
use Rattle.sql_tree.specs.declared.table.Table.{Table}
use Rattle.history_core.specs.declared.event.Event.{Event}
use Rattle.history_core.specs.declared.event.Event.TheVariants as events
use Rattle.history_core.specs.declared.fault.BookFault.{BookFault}
use Rattle.history_core.specs.declared.fault.DefineAnswer.{DefineAnswer}
use Rattle.history_core.specs.declared.fault.DefineAnswer.TheVariants.{Defined, Taken}
use Rattle.history_core.specs.Events.{session_in}
use Rattle.history_book.specs.Book.{Past, SessionState, no_session, in_session, pending, HasSession, IsIdle, IsInTransaction, session_of, GoesOn, Adds, AnswersDefine, AnswersTouch}
use Rattle.valid_writes.specs.Owning.{OwnsAllThatComes}
use Rattle.shared_book.specs.declared.place.Place.{Place}
use Rattle.shared_book.specs.declared.place.Place.TheVariants.{NoSession, InSession, Pending}
use Rattle.shared_book.specs.Places.{IsAt, place_opened, place_begun, begun_if, place_ended}
use Rattle.shared_book.specs.Turns.{AddsOne, IsOfSession}

pub idle_has : (state : SessionState) → IsIdle state → HasSession state
idle_has no_session is = absurd is
idle_has (in_session s) is = tt
idle_has (pending s ws) is = absurd is

pub pending_has : (state : SessionState) → IsInTransaction state → HasSession state
pending_has no_session is = absurd is
pending_has (in_session s) is = absurd is
pending_has (pending s ws) is = tt

pub on_any : {A E : Type 0} (r : Result A E) (P : Type 0) → P → OnOk r P
on_any (Ok a) P p = p
on_any (Err e) P p = tt

pub if_on : {A E : Type 0} (r : Result A E) (P : Type 0) → OnOk r P → IfOk r (λ _. P)
if_on (Ok a) P h = h
if_on (Err e) P h = h

pub on_same : {A E : Type 0} (r : Result A E) (old new next : SessionState) → session_of next ≡ session_of old → OnOk r (new ≡ next) → OnOk r (session_of new ≡ session_of old)
on_same (Ok a) old new next is h = ap session_of h ∙ is
on_same (Err e) old new next is h = h

module _ (old new : Past) (alone : OwnsAllThatComes old new) where
  one_event : (e : Event) → Adds old e new → IsOfSession old.state e →
      (HasSession new.state → (HasSession old.state × (session_of new.state ≡ session_of old.state)) ⊎ (e ≡ events.Open (session_of new.state))) → AddsOne old new
  one_event e adds of_session goes =
      let one : alone.added ≡ e ∷ [] = append_cancel_left old.own alone.added (e ∷ []) (sym alone.own ∙ adds.own) in
      record {
        level = adds.level;
        initial = adds.initial;
        added = e ∷ [];
        few = omega arith;
        seen = alone.seen ∙ ap (λ (l : List Event). old.seen.events ++ l) one;
        own = adds.own;
        more = adds.more;
        tables = adds.tables;
        of_session = All-cons (IsOfSession old.state) e [] of_session (All-nil (IsOfSession old.state));
        goes_on = λ is. ⊎_elim
            (λ (stays : HasSession old.state × (session_of new.state ≡ session_of old.state)). inl stays)
            (λ (opens : e ≡ events.Open (session_of new.state)). inr (0, omega arith, opens))
            (goes is);
      }

  -- no event was added
  pub none_added : GoesOn old new → AddsOne old new
  none_added goes =
      let none : alone.added ≡ [] = append_cancel_left old.own alone.added [] (sym alone.own ∙ goes.own ∙ sym (append-nil old.own)) in
      record {
        level = goes.level;
        initial = goes.initial;
        added = [];
        few = omega arith;
        seen = alone.seen ∙ ap (λ (l : List Event). old.seen.events ++ l) none;
        own = goes.own ∙ sym (append-nil old.own);
        more = goes.more;
        tables = goes.tables;
        of_session = All-nil (IsOfSession old.state);
        goes_on = λ is. inl (subst (λ (s : SessionState). HasSession s) goes.state is, ap session_of goes.state);
      }

  -- an event of the open session was added
  pub one_added : (e : Event) → Adds old e new → HasSession old.state → session_in e ≡ session_of old.state →
      (HasSession new.state → session_of new.state ≡ session_of old.state) → AddsOne old new
  one_added e adds has same goes = one_event e adds (inr (has, same)) (λ is. inl (has, goes is))

  -- a session was opened, or none
  pub opened_or_none : (r : Result ℕ BookFault) → IfOk r (λ s. Adds old (events.Open s) new) → IfOk r (λ s. new.state ≡ in_session s) →
      OnErr r (GoesOn old new) → AddsOne old new
  opened_or_none (Ok s) adds state goes = one_event (events.Open s) adds (inl refl) (λ is. inr (ap events.Open (ap session_of (sym state))))
  opened_or_none (Err fault) adds state goes = none_added goes

  -- an event of the open session was added, or none
  pub added_or_none : {A : Type 0} (r : Result A BookFault) (event : A → Event) → IfOk r (λ a. Adds old (event a) new) → OnErr r (GoesOn old new) →
      HasSession old.state → ((a : A) → session_in (event a) ≡ session_of old.state) → OnOk r (session_of new.state ≡ session_of old.state) → AddsOne old new
  added_or_none (Ok a) event adds goes has same state = one_added (event a) adds has (same a) (λ is. state)
  added_or_none (Err fault) event adds goes has same state = none_added goes

  -- the same, where the answer says more
  pub told_or_none : {A : Type 0} (r : Result A BookFault) (P : A → Type 0) → IfOk r P →
      ((a : A) → P a → (e : Event) × (session_in e ≡ session_of old.state) × Adds old e new) → OnErr r (GoesOn old new) →
      HasSession old.state → new.state ≡ old.state → AddsOne old new
  told_or_none (Ok a) P told adds goes has state =
      let one = adds a told in one_added one.0 one.2 has one.1 (λ is. ap session_of state)
  told_or_none (Err fault) P told adds goes has state = none_added goes

  -- a cell was touched, or that was refused
  pub touched_or_none : {W : Type 0} (gives : W → ℕ → W → Type 0) (v : W) (cell : Cell) (r : Result Value BookFault) (w : W) →
      AnswersTouch gives old v cell r new w → OnErr r (GoesOn old new) → HasSession old.state → new.state ≡ old.state → AddsOne old new
  touched_or_none gives v cell (Ok value) w (inl (back, same)) goes has state =
      one_added (events.Own (session_of old.state) cell value) back.ok has refl (λ is. ap session_of state)
  touched_or_none gives v cell (Ok value) w (inr (word, drawn, read)) goes has state =
      let one = read.ok in
      one_added (events.Read (session_of old.state) cell one.source one.count word value) one.adds has refl (λ is. ap session_of state)
  touched_or_none gives v cell (Err fault) w answers goes has state = none_added goes

  pub defined_event : (table : Table) (answer : DefineAnswer) → AnswersDefine old table answer new →
      (e : Event) × (session_in e ≡ session_of old.state) × Adds old e new
  defined_event table (Defined n) told = (events.Define (session_of old.state) table.name, refl, told.3)
  defined_event table (Taken n) told = (events.Look (session_of old.state) n, refl, told.2)

-- ---- where the session stands

pub at_same : (place : Place) (old new : SessionState) → new ≡ old → IsAt place old → IsAt place new
at_same place old new same at = subst (λ (s : SessionState). IsAt place s) (sym same) at

pub at_opened : (place : Place) (old new : Past) (r : Result ℕ BookFault) → IsAt place old.state → IfOk r (λ s. new.state ≡ in_session s) →
    OnErr r (GoesOn old new) → IsAt (place_opened r place) new.state
at_opened place old new (Ok s) at state goes = at_same (InSession s) (in_session s) new.state state refl
at_opened place old new (Err fault) at state goes = at_same place old.state new.state goes.state at

begun_at : (place : Place) (state : SessionState) → IsAt place state → IsIdle state → IsAt (place_begun place) (pending (session_of state) [])
begun_at NoSession no_session at idle = absurd idle
begun_at NoSession (in_session s) at idle = absurd at
begun_at NoSession (pending s ws) at idle = absurd at
begun_at (InSession n) no_session at idle = absurd at
begun_at (InSession n) (in_session s) at idle = at
begun_at (InSession n) (pending s ws) at idle = absurd at
begun_at (Pending n) no_session at idle = absurd at
begun_at (Pending n) (in_session s) at idle = absurd at
begun_at (Pending n) (pending s ws) at idle = absurd idle

pub at_begun : (place : Place) (old new : Past) (r : Result ℕ BookFault) → IsAt place old.state → IsIdle old.state →
    OnOk r (new.state ≡ pending (session_of old.state) []) → OnErr r (GoesOn old new) →
    IsAt (begun_if r place) new.state
at_begun place old new (Ok n) at idle state goes =
    at_same (place_begun place) (pending (session_of old.state) []) new.state state (begun_at place old.state at idle)
at_begun place old new (Err fault) at idle state goes = at_same place old.state new.state goes.state at

ended_at : (place : Place) (state : SessionState) → IsAt place state → IsInTransaction state → IsAt (place_ended place) (in_session (session_of state))
ended_at NoSession no_session at is = absurd is
ended_at NoSession (in_session s) at is = absurd at
ended_at NoSession (pending s ws) at is = absurd at
ended_at (InSession n) no_session at is = absurd at
ended_at (InSession n) (in_session s) at is = at
ended_at (InSession n) (pending s ws) at is = absurd at
ended_at (Pending n) no_session at is = absurd at
ended_at (Pending n) (in_session s) at is = absurd at
ended_at (Pending n) (pending s ws) at is = at

pub at_ended : (place : Place) (old new : SessionState) → IsAt place old → IsInTransaction old → new ≡ in_session (session_of old) → IsAt (place_ended place) new
at_ended place old new at is state = at_same (place_ended place) (in_session (session_of old)) new state (ended_at place old at is)

written_at : (place : Place) (state : SessionState) (ws : List (Cell × Value)) → IsAt place state → IsInTransaction state → IsAt place (pending (session_of state) ws)
written_at NoSession no_session ws at is = absurd is
written_at NoSession (in_session s) ws at is = absurd at
written_at NoSession (pending s vs) ws at is = absurd at
written_at (InSession n) no_session ws at is = absurd at
written_at (InSession n) (in_session s) ws at is = absurd is
written_at (InSession n) (pending s vs) ws at is = absurd at
written_at (Pending n) no_session ws at is = absurd at
written_at (Pending n) (in_session s) ws at is = absurd at
written_at (Pending n) (pending s vs) ws at is = at

pub at_written : (place : Place) (old new : Past) (r : Result (Unit {0}) BookFault) (ws : List (Cell × Value)) → IsAt place old.state → IsInTransaction old.state →
    OnOk r (new.state ≡ pending (session_of old.state) ws) → OnErr r (GoesOn old new) → IsAt place new.state
at_written place old new (Ok u) ws at is state goes = at_same place (pending (session_of old.state) ws) new.state state (written_at place old.state ws at is)
at_written place old new (Err fault) ws at is state goes = at_same place old.state new.state goes.state at
