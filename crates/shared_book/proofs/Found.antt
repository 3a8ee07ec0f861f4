-- What a book's turn finds, and what it leaves.
use Rattle.std.proofs.Common.{◌≡◌, ◌≢◌, ℕ, ◌+◌, ◌<◌, ◌≤◌, ◌||◌, zero, suc, ⊎_elim, Bool, true, false, List, [], ◌∷◌, ◌++◌, length, refl, ap, sym, ◌∙◌, subst, arith, inl, inr, length-append, eq-eqb, ne_eqb, Option}
use Rattle.std.specs.List.{All, Contains}
use Rattle.std.proofs.lemmas.List.{append-nil, append_cancel_left}
use Rattle.std.proofs.lemmas.List.Elements.{All-head, All-tail, All-contains}
use mathlib.Core.List.{IsPrefix}
use Rattle.cell_base.specs.declared.cell.Cell.{Cell}
use Rattle.cell_base.specs.declared.value.Value.{Value}
use Rattle.sql_tree.specs.declared.table.Table.{Table}
use Rattle.history_core.specs.declared.event.Event.{Event}
use Rattle.history_core.specs.declared.event.Event.TheVariants.{Open}
use Rattle.history_core.specs.Events.{session_in, opened, defined, defined_name}
use Rattle.history_core.specs.Legal.{IsFormed, Follows}
use Rattle.history_core.specs.Chronicle.{Chronicle, IsLegalChronicle}
use Rattle.history_book.specs.Book.{Past, SessionState, no_session, in_session, pending, HasSession, session_of}
use Rattle.history_core.proofs.TablesFew.{formed_of, tables_defined}
use Rattle.history_core.proofs.Prefixes.{formed_back}
use Rattle.valid_writes.specs.Desk.{last_writes}
use Rattle.valid_writes.specs.Seats.{StandsIn}
use Rattle.valid_writes.proofs.OtherSessions.{stands_others, numbered, fresh}
use Rattle.turn_lock.specs.Entries.{has_key, HasKey, IsComplete, IsNewOrOwn, AddsAtMostOne}
use Rattle.turn_lock.specs.Passes.{LockValue, PassValue, MayFind, TookTurn}
use Rattle.turn_lock.proofs.Keys.{has_key-append}
use Rattle.shared_book.specs.declared.entry.Entry.{Entry}
use Rattle.shared_book.specs.declared.entry.Entry.TheVariants.{Start, Happened}
use Rattle.shared_book.specs.declared.place.Place.{Place}
use Rattle.shared_book.specs.declared.place.Place.TheVariants.{NoSession, InSession, Pending}
use Rattle.shared_book.specs.Entries.{key_of, table_for, left_for, with_tables, entries_of, events_of, tables_of, level_of, initial_of, chronicle_of}
use Rattle.shared_book.specs.Places.{state_at, IsAt}
use Rattle.shared_book.specs.Books.{IsBook, HasAllOf, StartsLegal, past_of}
use Rattle.shared_book.specs.Turns.{AddsOne, IsOfSession, LiesBetween, Turned, past_with}
use Rattle.shared_book.proofs.Listing.{joined, same_history, events_with, events_join, tables_join, level_front, initial_front, rest_foreign, tables_with}

-- the tables of a legal history are those that it defines
pub legal_tables : (h : Chronicle) → IsLegalChronicle h → length h.tables ≡ defined h.events
legal_tables h legal = tables_defined h (formed_of h legal)

pub legal_same : (h : Chronicle) → IsLegalChronicle h → chronicle_of (entries_of h) ≡ h
legal_same h legal = same_history h (legal_tables h legal)

-- a session that stands so in one history and, by what it wrote, in another
pub state_same : (place : Place) (es fs : List Event) → StandsIn (state_at place es) fs → state_at place es ≡ state_at place fs
state_same NoSession es fs stands = refl
state_same (InSession s) es fs stands = refl
state_same (Pending s) es fs stands = ap (λ (ws : List (Cell × Value)). pending s ws) stands.2

-- what was added at a place and what is at it
pub state_is : (place : Place) (state : SessionState) (es : List Event) → IsAt place state → StandsIn state es → state ≡ state_at place es
state_is NoSession no_session es at stands = refl
state_is NoSession (in_session s) es at stands = absurd at
state_is NoSession (pending s ws) es at stands = absurd at
state_is (InSession n) no_session es at stands = absurd at
state_is (InSession n) (in_session s) es at stands = ap in_session at
state_is (InSession n) (pending s ws) es at stands = absurd at
state_is (Pending n) no_session es at stands = absurd at
state_is (Pending n) (in_session s) es at stands = absurd at
state_is (Pending n) (pending s ws) es at stands =
    ap (λ (l : List (Cell × Value)). pending s l) stands.2 ∙ ap (λ (m : ℕ). pending m (last_writes es m)) at

-- what holds of all of a list holds of its end
back_of : {X : Type 0} (P : X → Type 0) (xs ys : List X) → All P (xs ++ ys) → All P ys
back_of P [] ys all = all
back_of P (x ∷ xs) ys all = back_of P xs ys (All-tail P x (xs ++ ys) all)

pub some_of : (start : List Entry) → StartsLegal start → 0 < length start
some_of start legal =
    let size : length start ≡ length (entries_of legal.history) = ap length legal.is in
    omega (arith, size)

some_start : (start seen : List Entry) → StartsLegal start → IsPrefix start seen → 0 < length seen
some_start start seen legal begins = omega (arith, some_of start legal, ap length begins.1, length-append start begins.0)

foreign_at : (state : SessionState) (pass : PassValue Entry) (rest : List Entry) (initial : List (Cell × Value)) (events : List Event) →
    IsFormed initial events → events ≡ events_of pass.seen ++ events_of rest → HasAllOf pass state → IsComplete key_of (pass.seen ++ rest) pass.own →
    All (λ (e : Event). session_in e ≢ session_of state) (events_of rest)
foreign_at no_session pass rest initial events formed is has whole =
    back_of (λ (e : Event). session_in e ≢ 0) (events_of pass.seen) (events_of rest)
    (subst (λ (l : List Event). All (λ (e : Event). session_in e ≢ 0) l) is (numbered initial events formed))
foreign_at (in_session s) pass rest initial events formed is has whole = rest_foreign s pass.seen rest pass.own has.0 has.1 whole
foreign_at (pending s ws) pass rest initial events formed is has whole = rest_foreign s pass.seen rest pass.own has.0 has.1 whole

only_one : (xs : List Event) (e : Event) → length xs ≤ 1 → Contains xs e → xs ≡ e ∷ []
only_one [] e few has = absurd (omega (arith, has.1))
only_one (x ∷ []) e few (zero, within, is) = ap (λ (y : Event). y ∷ []) is
only_one (x ∷ []) e few (suc k, within, is) = absurd (omega (arith, within))
only_one (x ∷ y ∷ ys) e few has = absurd (omega (arith, few))

one_more : (xs ys : List Entry) (added : List Event) (more : List Table) → length added ≤ 1 → ys ≡ xs ++ with_tables added more → AddsAtMostOne xs ys
one_more xs ys [] more few grown = inl (grown ∙ append-nil xs)
one_more xs ys (e ∷ []) more few grown = inr (Happened e (table_for (defined_name e) more), grown)
one_more xs ys (e ∷ f ∷ es) more few grown = absurd (omega (arith, few))

-- what a turn adds to a history
module _ (x y : Chronicle) (legal : IsLegalChronicle x) (legal_after : IsLegalChronicle y) (mine ours : List Event) (state then : SessionState)
    (adds : AddsOne (past_with x mine state) (past_with y ours then)) where
  pub grown : entries_of y ≡ entries_of x ++ with_tables adds.added adds.more
  grown =
      let told : with_tables y.events y.tables ≡ with_tables x.events x.tables ++ with_tables adds.added adds.more =
      (λ i. with_tables (adds.seen i) (adds.tables i)) ∙ joined x.events adds.added x.tables adds.more (legal_tables x legal) in
      λ i. Start (adds.level i) (adds.initial i) ∷ told i

  pub adds_at_most_one : AddsAtMostOne (entries_of x) (entries_of y)
  adds_at_most_one = one_more (entries_of x) (entries_of y) adds.added adds.more adds.few grown

  -- a session that is opened has the next number
  new_number : (e : Event) → Contains adds.added e → e ≡ Open (session_in e) → session_in e ≡ opened x.events + 1
  new_number e has opens =
      let at_end : y.events ≡ x.events ++ e ∷ [] = adds.seen ∙ ap (λ (l : List Event). x.events ++ l) (only_one adds.added e adds.few has) in
      let formed : IsFormed x.initial (x.events ++ e ∷ []) =
      subst (λ (z : List (Cell × Value) × List Event). IsFormed z.0 z.1) (λ i. (adds.initial i, at_end i)) legal_after.legal.formed in
      let follows = (formed_back x.initial x.events e formed).1.follows in
      subst (λ (z : Event). Follows x.initial x.events z) opens follows

  -- and no event is of it before
  nobody : (e : Event) → Contains adds.added e → e ≡ Open (session_in e) → All (λ (z : Event). session_in z ≢ session_in e) x.events
  nobody e has opens = fresh x.initial x.events (session_in e) legal.legal.formed (new_number e has opens)

no_key : (s : ℕ) (es : List Event) (ts : List Table) → All (λ (e : Event). session_in e ≢ s) es → has_key key_of s (with_tables es ts) ≡ false
no_key s [] ts none = refl
no_key s (e ∷ es) ts none =
    ap (λ (b : Bool). b || has_key key_of s (with_tables es (left_for (defined_name e) ts))) (ne_eqb (session_in e) s (All-head (λ (z : Event). session_in z ≢ s) e es none))
    ∙ no_key s es (left_for (defined_name e) ts) (All-tail (λ (z : Event). session_in z ≢ s) e es none)

own_key : (pass : PassValue Entry) (state : SessionState) → HasSession state → HasAllOf pass state → HasKey key_of (session_of state) pass.own
own_key pass no_session is has = absurd is
own_key pass (in_session s) is has = has.0
own_key pass (pending s ws) is has = has.0

has_all_of : (pass : PassValue Entry) (state : SessionState) → (HasSession state → HasKey key_of (session_of state) pass.own) →
    IsComplete key_of pass.seen pass.own → HasAllOf pass state
has_all_of pass no_session has whole = tt
has_all_of pass (in_session s) has whole = (has tt, whole)
has_all_of pass (pending s ws) has whole = (has tt, whole)

pub or_left : (a b : Bool) → a ≡ true → (a || b) ≡ true
or_left true b h = refl
or_left false b h = absurd (cc h)

pub or_right : (a b : Bool) → b ≡ true → (a || b) ≡ true
or_right true b h = refl
or_right false b h = h

-- a book of this pass finds the history x
module _ (lock : LockValue Entry) (pass : PassValue Entry) (place : Place) (book : IsBook lock pass place) (x : Chronicle) (legal : IsLegalChronicle x)
    (may : MayFind key_of pass (entries_of x)) where
  abbrev rest : List Entry
  rest = may.1.0.0

  log_is : entries_of x ≡ pass.seen ++ rest
  log_is = sym may.1.0.1

  some : 0 < length pass.seen
  some = some_start lock.start pass.seen book.start book.begins

  events_is : x.events ≡ events_of pass.seen ++ events_of rest
  events_is = sym (events_with x.events x.tables) ∙ ap events_of log_is ∙ events_join pass.seen rest

  tables_is : x.tables ≡ tables_of pass.seen ++ tables_of rest
  tables_is = sym (tables_with x.events x.tables (legal_tables x legal)) ∙ ap tables_of log_is ∙ tables_join pass.seen rest

  level_is : x.level ≡ level_of pass.seen
  level_is = ap level_of log_is ∙ level_front pass.seen rest some

  initial_is : x.initial ≡ initial_of pass.seen
  initial_is = ap initial_of log_is ∙ initial_front pass.seen rest some

  abbrev before : SessionState
  before = state_at place (events_of pass.seen)

  abbrev state : SessionState
  state = state_at place x.events

  foreign : All (λ (e : Event). session_in e ≢ session_of before) (events_of rest)
  foreign = foreign_at before pass rest x.initial x.events legal.legal.formed events_is book.has_all
      (subst (λ (l : List Entry). IsComplete key_of l pass.own) log_is may.1.1)

  stands_before : StandsIn before x.events
  stands_before = subst (λ (l : List Event). StandsIn before l) (sym events_is)
      (stands_others before (events_of pass.seen) (events_of rest) foreign book.stands)

  pub same_state : before ≡ state
  same_state = state_same place (events_of pass.seen) x.events stands_before

  stands : StandsIn state x.events
  stands = subst (λ (s : SessionState). StandsIn s x.events) same_state stands_before

  -- what was asked before others added to the history may be asked still
  pub needs : (ask : ℕ → SessionState → Type 0) → ((few many : ℕ) (s : SessionState) → few ≤ many → ask few s → ask many s) →
      ask (length (tables_of pass.seen)) before → StandsIn state x.events × ask (length x.tables) state
  needs ask later asked = (
    stands,
    subst (λ (s : SessionState). ask (length x.tables) s) same_state
        (later (length (tables_of pass.seen)) (length x.tables) before
        (omega (arith, ap length tables_is, length-append (tables_of pass.seen) (tables_of rest))) asked),
  )

  module _ (y : Chronicle) (legal_after : IsLegalChronicle y) (mine ours : List Event) (then : SessionState)
      (adds : AddsOne (past_with x mine state) (past_with y ours then)) where
    is_new_or_own : (e : Event) (t : Option Table) → Contains adds.added e → IsNewOrOwn key_of (entries_of x) pass.own (Happened e t)
    is_new_or_own e t has = ⊎_elim
        (λ (opens : e ≡ Open (session_in e)).
        let number = new_number x y legal legal_after mine ours state then adds e has opens in
        inl (ap (λ (b : Bool). b || has_key key_of (session_in e) (with_tables x.events x.tables)) (ne_eqb 0 (session_in e) (λ same. absurd (omega (arith, number, same))))
        ∙ no_key (session_in e) x.events x.tables (nobody x y legal legal_after mine ours state then adds e has opens)))
        (λ (of_it : HasSession state × (session_in e ≡ session_of state)).
        inr (subst (λ (n : ℕ). HasKey key_of n pass.own) (sym of_it.1)
        (own_key pass state of_it.0 (subst (λ (s : SessionState). HasAllOf pass s) same_state book.has_all))))
        (All-contains (IsOfSession state) adds.added e adds.of_session has)

    -- an entry that was added has a key that is new or the book's own
    pub new_or_own : (e : Entry) → entries_of y ≡ entries_of x ++ e ∷ [] → IsNewOrOwn key_of (entries_of x) pass.own e
    new_or_own e ends = by_list adds.added adds.more (λ z t has. is_new_or_own z t has)
        (append_cancel_left (entries_of x) (with_tables adds.added adds.more) (e ∷ [])
        (sym (grown x y legal legal_after mine ours state then adds) ∙ ends))
      where
        by_list : (es : List Event) (ts : List Table) → ((z : Event) (t : Option Table) → Contains es z → IsNewOrOwn key_of (entries_of x) pass.own (Happened z t)) →
            with_tables es ts ≡ e ∷ [] → IsNewOrOwn key_of (entries_of x) pass.own e
        by_list [] ts each is = absurd (cc is)
        by_list (z ∷ zs) ts each is =
            let head : Happened z (table_for (defined_name z) ts) ≡ e = cc is in
            subst (λ (w : Entry). IsNewOrOwn key_of (entries_of x) pass.own w) head
            (each z (table_for (defined_name z) ts) (0, omega arith, refl))

    pub lies : LiesBetween (chronicle_of pass.seen) x y state adds.added
    lies = record {
      level = level_is;
      initial = initial_is;
      others = events_of rest;
      seen = events_is;
      foreign = subst (λ (s : SessionState). All (λ (e : Event). session_in e ≢ session_of s) (events_of rest)) same_state foreign;
      apart = λ e has. ⊎_elim
          (λ (opens : e ≡ Open (session_in e)). back_of (λ (z : Event). session_in z ≢ session_in e) (events_of pass.seen) (events_of rest)
          (subst (λ (l : List Event). All (λ (z : Event). session_in z ≢ session_in e) l) events_is (nobody x y legal legal_after mine ours state then adds e has opens)))
          (λ (of_it : HasSession state × (session_in e ≡ session_of state)).
          subst (λ (n : ℕ). All (λ (z : Event). session_in z ≢ n) (events_of rest)) (ap session_of same_state ∙ sym of_it.1) foreign)
          (All-contains (IsOfSession state) adds.added e adds.of_session has);
      more = tables_of rest;
      tables = tables_is;
      grown = adds.seen;
    }

  -- what the turn leaves
  module _ {A : Type 0} (does : Past → A → Past → Type 0) (y : Chronicle) (after : Place) (answer : A) (turned : Turned place does x after answer y)
      (left : PassValue Entry) (took : TookTurn key_of pass left (entries_of x) (entries_of y)) where
    abbrev then : SessionState
    then = state_at after y.events

    pub seen_is : chronicle_of left.seen ≡ y
    seen_is = ap chronicle_of took.seen ∙ legal_same y turned.legal_after

    entries_added : took.added ≡ with_tables turned.adds.added turned.adds.more
    entries_added = append_cancel_left (entries_of x) took.added (with_tables turned.adds.added turned.adds.more)
        (sym took.grown ∙ grown x y legal turned.legal_after turned.mine turned.ours state then turned.adds)

    own_is : events_of left.own ≡ events_of pass.own ++ turned.adds.added
    own_is = ap events_of took.own ∙ events_join pass.own took.added
        ∙ ap (λ (l : List Event). events_of pass.own ++ l) (ap events_of entries_added ∙ events_with turned.adds.added turned.adds.more)

    pub past_is : past_of (record { pass = left; state = state_at after (events_of left.seen) }) ≡ past_with y (events_of pass.own ++ turned.adds.added) then
    past_is = λ i. record { seen = seen_is i; own = own_is i; state = state_at after ((seen_is i).events) }

    pub did : ((mine added : List Event) → LiesBetween (chronicle_of pass.seen) x y state added → does (past_with x mine state) answer (past_with y (mine ++ added) then) →
        does (past_with (chronicle_of pass.seen) (events_of pass.own) state) answer (past_with y (events_of pass.own ++ added) then)) →
        does (past_of (record { pass = pass; state = before })) answer (past_of (record { pass = left; state = state_at after (events_of left.seen) }))
    did lift =
        let added = turned.adds.added in
        let found : does (past_with x turned.mine state) answer (past_with y (turned.mine ++ added) then) =
        subst (λ (l : List Event). does (past_with x turned.mine state) answer (past_with y l then)) turned.adds.own turned.did in
        let lifted = lift turned.mine added (lies y turned.legal_after turned.mine turned.ours then turned.adds) found in
        subst (λ (p : Past). does (past_of (record { pass = pass; state = before })) answer p) (sym past_is)
        (subst (λ (s : SessionState). does (past_with (chronicle_of pass.seen) (events_of pass.own) s) answer (past_with y (events_of pass.own ++ added) then)) (sym same_state) lifted)

    own_has : HasSession then → HasKey key_of (session_of then) left.own
    own_has is =
        let both : left.own ≡ pass.own ++ with_tables turned.adds.added turned.adds.more = took.own ∙ ap (λ (l : List Entry). pass.own ++ l) entries_added in
        let split = has_key-append key_of (session_of then) pass.own (with_tables turned.adds.added turned.adds.more) in
        subst (λ (l : List Entry). has_key key_of (session_of then) l ≡ true) (sym both) (split ∙ ⊎_elim
        (λ (stayed : HasSession state × (session_of then ≡ session_of state)). or_left _ _
        (subst (λ (n : ℕ). HasKey key_of n pass.own) (sym stayed.1)
        (own_key pass state stayed.0 (subst (λ (s : SessionState). HasAllOf pass s) same_state book.has_all))))
        (λ (opened_now : Contains turned.adds.added (Open (session_of then))). or_right _ _
        (new_key (session_of then) turned.adds.added turned.adds.more (only_one turned.adds.added (Open (session_of then)) turned.adds.few opened_now)))
        (turned.adds.goes_on is))
      where
        new_key : (s : ℕ) (es : List Event) (ts : List Table) → es ≡ Open s ∷ [] → has_key key_of s (with_tables es ts) ≡ true
        new_key s es ts is = subst (λ (l : List Event). has_key key_of s (with_tables l ts) ≡ true) (sym is)
            (ap (λ (b : Bool). b || false) (eq-eqb s s refl))

    pub still_book : IsBook lock left after
    still_book = record {
      lock_is = took.same.0 ∙ book.lock_is;
      start = book.start;
      begins = subst (λ (l : LockValue Entry). IsPrefix l.start left.seen) (took.same.0 ∙ book.lock_is) took.sees_start;
      has_all = subst (λ (h : Chronicle). HasAllOf left (state_at after h.events)) (sym seen_is) (has_all_of left then own_has
          (subst (λ (l : List Entry). IsComplete key_of l left.own) (sym took.seen)
          (All-head (IsComplete key_of (entries_of y)) left.own left.kept took.whole)));
      stands = subst (λ (h : Chronicle). StandsIn (state_at after h.events) h.events) (sym seen_is) turned.stands;
    }

    pub seen_legal : IsLegalChronicle (chronicle_of left.seen)
    seen_legal = subst (λ (h : Chronicle). IsLegalChronicle h) (sym seen_is) turned.legal_after
