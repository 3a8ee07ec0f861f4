-- What the end of a shared history tells of the events of each book.
use Rattle.std.proofs.Common.{◌≡◌, ℕ, zero, suc, ◌<◌, ◌≤◌, ◌==◌, ⊎_elim, List, [], ◌∷◌, length, refl, ap, sym, ◌∙◌, subst, arith, eq-eqb, Option, Some, None}
use Rattle.std.specs.List.{Any, Contains, slice_get}
use Rattle.std.specs.Prelude.{map}
use Rattle.std.proofs.lemmas.List.Elements.{All-map, All-weaker}
use Rattle.sql_tree.specs.declared.table.Table.{Table}
use Rattle.history_core.specs.declared.event.Event.{Event}
use Rattle.history_core.specs.Events.{session_in}
use Rattle.history_core.specs.Chronicle.{Chronicle, IsLegalChronicle, own_events}
use Rattle.turn_lock.specs.Entries.{one_if, has_key, HasKey, IsCompleteByKey, holder_count}
use Rattle.turn_lock.specs.Passes.{LockValue, PassValue, Closed, lists_of}
use Rattle.turn_lock.proofs.Holders.{Contains-cases, Contains-head, Contains-tail, Any-head, Any-tail, Any-cases}
use Rattle.turn_lock.proofs.Stages.{one_if_bound}
use Rattle.shared_book.specs.declared.entry.Entry.{Entry}
use Rattle.shared_book.specs.declared.entry.Entry.TheVariants.{Start, Happened}
use Rattle.shared_book.specs.Entries.{key_of, entries_of, events_of, tables_of, level_of, initial_of, chronicle_of, event_lists}
use Rattle.shared_book.specs.Books.{StartsLegal}
use Rattle.shared_book.specs.Finish.{HasEventOf, Finished}
use Rattle.shared_book.proofs.Listing.{events_with, tables_with, events_join, tables_join, level_front, initial_front, keyed_events}
use Rattle.shared_book.proofs.Found.{legal_tables, some_of, or_left, or_right}

-- where an event of the session is, an entry has its key
pub has_entry : (s : ℕ) (l : List Entry) → HasEventOf s (events_of l) → HasKey key_of s l
has_entry s [] has = absurd (omega (arith, has.2))
has_entry s (Start level initial ∷ xs) has = or_right (0 == s) (has_key key_of s xs) (has_entry s xs has)
has_entry s (Happened e t ∷ xs) has = ⊎_elim
    (λ (here : session_in e ≡ s). or_left (session_in e == s) (has_key key_of s xs) (eq-eqb (session_in e) s here))
    (λ (later : HasEventOf s (events_of xs)). or_right (session_in e == s) (has_key key_of s xs) (has_entry s xs later))
    (Any-cases (λ (z : Event). session_in z ≡ s) e (events_of xs) has)

-- the entry of an event
pub entry_of : (l : List Entry) (e : Event) → Contains (events_of l) e → (t : Option Table) × Contains l (Happened e t)
entry_of [] e has = absurd (omega (arith, has.1))
entry_of (Start level initial ∷ xs) e has =
    let there = entry_of xs e has in (there.0, Contains-tail (Start level initial) (Happened e there.0) xs there.1)
entry_of (Happened z t ∷ xs) e has = ⊎_elim
    (λ (here : z ≡ e). (t, subst (λ (y : Event). Contains (Happened z t ∷ xs) (Happened y t)) here (Contains-head (Happened z t) xs)))
    (λ (later : Contains (events_of xs) e).
    let there = entry_of xs e later in (there.0, Contains-tail (Happened z t) (Happened e there.0) xs there.1))
    (Contains-cases z e (events_of xs) has)

abbrev event_of : Entry → Event → Event
event_of (Start level initial) none = none
event_of (Happened e t) none = e

pub event_in : (l : List Entry) (e : Event) (t : Option Table) → Contains l (Happened e t) → Contains (events_of l) e
event_in [] e t has = absurd (omega (arith, has.1))
event_in (Start level initial ∷ xs) e t has = ⊎_elim
    (λ (here : Start level initial ≡ Happened e t). absurd (cc here))
    (λ (later : Contains xs (Happened e t)). event_in xs e t later)
    (Contains-cases (Start level initial) (Happened e t) xs has)
event_in (Happened z s ∷ xs) e t has = ⊎_elim
    (λ (here : Happened z s ≡ Happened e t).
    let same : z ≡ e = ap (λ (y : Entry). event_of y e) here in
    subst (λ (y : Event). Contains (z ∷ events_of xs) y) same (Contains-head z (events_of xs)))
    (λ (later : Contains xs (Happened e t)). Contains-tail z e (events_of xs) (event_in xs e t later))
    (Contains-cases (Happened z s) (Happened e t) xs has)

any_mapped : (P : List Event → Type 0) (Q : List Entry → Type 0) → ((l : List Entry) → Q l → P (events_of l)) → (ls : List (List Entry)) →
    Any Q ls → Any P (map events_of ls)
any_mapped P Q each [] has = absurd (omega (arith, has.2))
any_mapped P Q each (l ∷ ls) has = ⊎_elim
    (λ (here : Q l). Any-head P (events_of l) (map events_of ls) (each l here))
    (λ (later : Any Q ls). Any-tail P (events_of l) (map events_of ls) (any_mapped P Q each ls later))
    (Any-cases Q l ls has)

any_back : (P : List Event → Type 0) (Q : List Entry → Type 0) → ((l : List Entry) → P (events_of l) → Q l) → (ls : List (List Entry)) →
    Any P (map events_of ls) → Any Q ls
any_back P Q each [] has = absurd (omega (arith, has.2))
any_back P Q each (l ∷ ls) has = ⊎_elim
    (λ (here : P (events_of l)). Any-head Q l ls (each l here))
    (λ (later : Any P (map events_of ls)). Any-tail Q l ls (any_back P Q each ls later))
    (Any-cases P (events_of l) (map events_of ls) has)

same_one : {A : Type 0} (a b : A) → Some a ≡ Some b → a ≡ b
same_one a b is = cc is

-- a list that has an event of the session is counted
counted_at : (s : ℕ) (ls : List (List Entry)) (j : ℕ) (one : List Event) → slice_get (map events_of ls) j ≡ Some one → HasEventOf s one →
    1 ≤ holder_count key_of s ls
counted_at s [] j one is has = absurd (let none : None ≡ Some one = is in cc none)
counted_at s (l ∷ ls) zero one is has =
    omega (arith, ap one_if (has_entry s l (subst (λ (es : List Event). HasEventOf s es) (sym (same_one (events_of l) one is)) has)))
counted_at s (l ∷ ls) (suc j) one is has = omega (arith, counted_at s ls j one is has)

-- where each key has one holder at most, two lists with events of one session are the same
one_place : (s : ℕ) (ls : List (List Entry)) → holder_count key_of s ls ≤ 1 → (i j : ℕ) (one other : List Event) →
    slice_get (map events_of ls) i ≡ Some one → slice_get (map events_of ls) j ≡ Some other → HasEventOf s one → HasEventOf s other → i ≡ j
one_place s [] single i j one other is there has too = absurd (let none : None ≡ Some one = is in cc none)
one_place s (l ∷ ls) single zero zero one other is there has too = refl
one_place s (l ∷ ls) single zero (suc j) one other is there has too =
    let first = has_entry s l (subst (λ (es : List Event). HasEventOf s es) (sym (same_one (events_of l) one is)) has) in
    absurd (omega (arith, ap one_if first, counted_at s ls j other there too, single))
one_place s (l ∷ ls) single (suc i) zero one other is there has too =
    let first = has_entry s l (subst (λ (es : List Event). HasEventOf s es) (sym (same_one (events_of l) other there)) too) in
    absurd (omega (arith, ap one_if first, counted_at s ls i one is has, single))
one_place s (l ∷ ls) single (suc i) (suc j) one other is there has too =
    ap suc (one_place s ls (omega (arith, single)) i j one other is there has too)

pub finished : (lock : LockValue Entry) (pass : PassValue Entry) (history : Chronicle) → StartsLegal lock.start → IsLegalChronicle history →
    Closed key_of lock pass (entries_of history) → Finished (chronicle_of lock.start) (event_lists pass) history
finished lock pass history start legal closed =
    let some : 0 < length lock.start = some_of lock.start start in
    let told : events_of (entries_of history) ≡ history.events = events_with history.events history.tables in
    record {
      legal = legal;
      level = ap level_of closed.list ∙ level_front lock.start closed.added some;
      initial = ap initial_of closed.list ∙ initial_front lock.start closed.added some;
      added = events_of closed.added;
      events = sym told ∙ ap events_of closed.list ∙ events_join lock.start closed.added;
      more = tables_of closed.added;
      tables = sym (tables_with history.events history.tables (legal_tables history legal)) ∙ ap tables_of closed.list ∙ tables_join lock.start closed.added;
      whole = All-map (λ (own : List Event). (session : ℕ) → HasEventOf session own → own_events history.events session ≡ own_events own session) events_of (lists_of pass)
          (All-weaker (IsCompleteByKey key_of (entries_of history))
          (λ (l : List Entry). (session : ℕ) → HasEventOf session (events_of l) → own_events history.events session ≡ own_events (events_of l) session)
          (λ l by session has.
          ap (λ (es : List Event). own_events es session) (sym told) ∙ sym (keyed_events session (entries_of history))
          ∙ ap events_of (by session (has_entry session l has)) ∙ keyed_events session l)
          (lists_of pass) closed.by_key);
      held = λ e has.
          let entry = entry_of closed.added e has in
          any_mapped (λ (own : List Event). Contains own e) (λ (l : List Entry). Contains l (Happened e entry.0)) (λ l there. event_in l e entry.0 there)
          (lists_of pass) (closed.added_is_held (Happened e entry.0) entry.1);
      apart = λ i j session one other is there has too.
          one_place session (lists_of pass)
          (omega (arith, closed.one_holder session, one_if_bound (has_key key_of session closed.added)))
          i j one other is there has too;
      start_is_free = λ session has any.
          let entry = entry_of lock.start has.1 (has.0, has.2, has.3) in
          closed.start_is_free (Happened has.1 entry.0) entry.1
          (subst (λ (n : ℕ). Any (HasKey key_of n) (lists_of pass)) (sym has.4)
          (any_back (HasEventOf session) (HasKey key_of session) (λ l there. has_entry session l there) (lists_of pass) any));
    }
