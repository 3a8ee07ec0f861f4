-- Lists of events that open their sessions: of a session that is opened once in all of them, one has every event.
use Rattle.std.proofs.Common.{◌≡◌, ℕ, ◌+◌, ◌<◌, ◌≤◌, zero, suc, List, [], ◌∷◌, ◌++◌, Some, slice_get, All, arith, refl, sym, ap, ◌∙◌, subst, inl, inr, append_assoc, append-nil}
use Rattle.std.proofs.lemmas.Bool.{cases_eq}
use Rattle.std.proofs.lemmas.List.Elements.{All-nil, All-cons, All-head, All-tail, All-weaker}
use Rattle.txn_buffer.proofs.Lists.{contains_at, at_contains}
use Rattle.history_core.specs.declared.event.Event.{Event}
use Rattle.history_core.specs.Events.{session_in, opened}
use Rattle.history_core.specs.Chronicle.{own_events}
use Rattle.shared_book.specs.Finish.{HasEventOf}
use Rattle.serve_command.proofs.Somewhere.{any_none, any_append_cases, joined, joined_any, any_joined}
use Rattle.serve_command.proofs.OwnEvents.{own_append, opened_own_append, own_or_none, own_none}
use Rattle.serve_command.proofs.Opens.{OpensItsSessions}

pub joined_append : {X : Type 0} (lists more : List (List X)) → joined (lists ++ more) ≡ joined lists ++ joined more
joined_append [] more = refl
joined_append {X} (xs ∷ lists) more =
    ap (λ (rest : List X). xs ++ rest) (joined_append lists more) ∙ sym (append_assoc xs (joined lists) (joined more))

both_none : (xs ys : List Event) (s : ℕ) → own_events xs s ≡ [] → own_events ys s ≡ [] → own_events (xs ++ ys) s ≡ []
both_none xs ys s first second =
    own_append xs ys s ∙ ap (λ (front : List Event). front ++ own_events ys s) first ∙ second

first_alone : (xs ys : List Event) (s : ℕ) → own_events ys s ≡ [] → own_events (xs ++ ys) s ≡ own_events xs s
first_alone xs ys s second =
    own_append xs ys s ∙ ap (λ (back : List Event). own_events xs s ++ back) second ∙ append-nil (own_events xs s)

second_alone : (xs ys : List Event) (s : ℕ) → own_events xs s ≡ [] → own_events (xs ++ ys) s ≡ own_events ys s
second_alone xs ys s first = own_append xs ys s ∙ ap (λ (front : List Event). front ++ own_events ys s) first

joined_opens : (lists : List (List Event)) → All OpensItsSessions lists → OpensItsSessions (joined lists)
joined_opens [] opens s above none = refl
joined_opens (xs ∷ lists) opens s above none =
    let sum = opened_own_append xs (joined lists) s in
    both_none xs (joined lists) s
    (All-head OpensItsSessions xs lists opens s above (omega arith))
    (joined_opens lists (All-tail OpensItsSessions xs lists opens) s above (omega arith))

-- a list that has an event of the session opens it
has_opening : (xs : List Event) (s : ℕ) → OpensItsSessions xs → 0 < s → HasEventOf s xs → 0 < opened (own_events xs s)
has_opening xs s opens above has = elim (cases_eq (opened (own_events xs s)) 0) [
  | inl none ↦ absurd (own_none xs s (opens s above none) has)
  | inr some ↦ omega arith
]

-- the one list that has an event of the session has all of its events
pub alone : (lists : List (List Event)) (s : ℕ) → All OpensItsSessions lists → 0 < s → opened (own_events (joined lists) s) ≤ 1 →
    All (λ own. HasEventOf s own → own_events (joined lists) s ≡ own_events own s) lists
alone [] s opens above once = All-nil (λ own. HasEventOf s own → own_events (joined []) s ≡ own_events own s)
alone (xs ∷ lists) s opens above once =
    All-cons (λ own. HasEventOf s own → own_events (xs ++ joined lists) s ≡ own_events own s) xs lists first
    (All-weaker (λ own. HasEventOf s own → own_events (joined lists) s ≡ own_events own s)
    (λ own. HasEventOf s own → own_events (xs ++ joined lists) s ≡ own_events own s) later lists
    (alone lists s others above (omega (arith, sum, once))))
  where
    others : All OpensItsSessions lists
    others = All-tail OpensItsSessions xs lists opens

    here : OpensItsSessions xs
    here = All-head OpensItsSessions xs lists opens

    sum : opened (own_events (xs ++ joined lists) s) ≡ opened (own_events xs s) + opened (own_events (joined lists) s)
    sum = opened_own_append xs (joined lists) s

    first : HasEventOf s xs → own_events (xs ++ joined lists) s ≡ own_events xs s
    first has =
        let one = has_opening xs s here above has in
        let all = sum in
        first_alone xs (joined lists) s (joined_opens lists others s above (omega arith))

    later : (own : List Event) → (HasEventOf s own → own_events (joined lists) s ≡ own_events own s) →
        HasEventOf s own → own_events (xs ++ joined lists) s ≡ own_events own s
    later own same has = elim (own_or_none (joined lists) s) [
      | inl none ↦ absurd (own_none own s (sym (same has) ∙ none) has)
      | inr some ↦
          let one = has_opening (joined lists) s (joined_opens lists others) above some in
          let all = sum in
          second_alone xs (joined lists) s (here s above (omega arith)) ∙ same has
    ]

pub has_at : (lists : List (List Event)) (s j : ℕ) (own : List Event) → slice_get lists j ≡ Some own → HasEventOf s own → HasEventOf s (joined lists)
has_at lists s j own is has =
    let at = contains_at lists j own is in
    joined_any (λ (e : Event). session_in e ≡ s) lists (at.0, own, at.1, at.2, has)

two : (xs : List Event) (lists : List (List Event)) (s : ℕ) → All OpensItsSessions (xs ∷ lists) → 0 < s →
    opened (own_events (xs ++ joined lists) s) ≤ 1 → HasEventOf s xs → HasEventOf s (joined lists) → ⊥
two xs lists s opens above once here later =
    let sum = opened_own_append xs (joined lists) s in
    let first = has_opening xs s (All-head OpensItsSessions xs lists opens) above here in
    let second = has_opening (joined lists) s (joined_opens lists (All-tail OpensItsSessions xs lists opens)) above later in
    omega arith

-- no two lists have events of the session
pub one_place : (lists : List (List Event)) (s : ℕ) → All OpensItsSessions lists → 0 < s → opened (own_events (joined lists) s) ≤ 1 →
    (i j : ℕ) (one other : List Event) → slice_get lists i ≡ Some one → slice_get lists j ≡ Some other →
    HasEventOf s one → HasEventOf s other → i ≡ j
one_place [] s opens above once i j one other is_one is_other has_one has_other = cc
one_place (xs ∷ lists) s opens above once zero zero one other is_one is_other has_one has_other = refl
one_place (xs ∷ lists) s opens above once zero (suc j) one other is_one is_other has_one has_other =
    let same : xs ≡ one = cc in
    absurd (two xs lists s opens above once (subst (HasEventOf s) (sym same) has_one) (has_at lists s j other is_other has_other))
one_place (xs ∷ lists) s opens above once (suc i) zero one other is_one is_other has_one has_other =
    let same : xs ≡ other = cc in
    absurd (two xs lists s opens above once (subst (HasEventOf s) (sym same) has_other) (has_at lists s i one is_one has_one))
one_place (xs ∷ lists) s opens above once (suc i) (suc j) one other is_one is_other has_one has_other =
    let sum = opened_own_append xs (joined lists) s in
    ap suc (one_place lists s (All-tail OpensItsSessions xs lists opens) above (omega arith) i j one other is_one is_other has_one has_other)

-- of a session that stands in the lists the events have just what the lists have, where no two lists have events of it
pub together : (lists : List (List Event)) (events : List Event) (s : ℕ) →
    All (λ own. (session : ℕ) → HasEventOf session own → own_events events session ≡ own_events own session) lists →
    ((i j session : ℕ) (one other : List Event) → slice_get lists i ≡ Some one → slice_get lists j ≡ Some other →
    HasEventOf session one → HasEventOf session other → i ≡ j) →
    HasEventOf s (joined lists) → own_events events s ≡ own_events (joined lists) s
together [] events s whole apart has = absurd (any_none (λ (e : Event). session_in e ≡ s) has)
together (xs ∷ lists) events s whole apart has = elim (own_or_none xs s) [
  | inl none ↦
      elim (any_append_cases (λ (e : Event). session_in e ≡ s) xs (joined lists) has) [
        | inl here ↦ absurd (own_none xs s none here)
        | inr later ↦
            together lists events s (All-tail Whole xs lists whole)
            (λ i j t one other a b c d. let same = apart (suc i) (suc j) t one other a b c d in omega arith) later
            ∙ sym (second_alone xs (joined lists) s none)
      ]
  | inr here ↦ All-head Whole xs lists whole s here ∙ sym (first_alone xs (joined lists) s (others here))
]
  where
    Whole : List Event → Type 0
    Whole own = (session : ℕ) → HasEventOf session own → own_events events session ≡ own_events own session

    others : HasEventOf s xs → own_events (joined lists) s ≡ []
    others here = elim (own_or_none (joined lists) s) [
      | inl none ↦ none
      | inr some ↦
          let at = any_joined (λ (e : Event). session_in e ≡ s) lists some in
          let found = at_contains lists at.1 (at.0, at.2, at.3) in
          let same = apart zero (suc found.0) s xs at.1 refl found.1 here at.4 in
          absurd (omega arith)
    ]
