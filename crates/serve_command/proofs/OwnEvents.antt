-- The events of one session in a list.
use Rattle.std.proofs.Common.{◌≡◌, ℕ, ◌+◌, ◌==◌, Bool, true, false, cond, List, [], ◌∷◌, ◌++◌, refl, sym, ap, ◌∙◌, inl, inr, ◌⊎◌}
use Rattle.std.proofs.lemmas.Bool.{cases_eq, cond-true, cond-false, eq-eqb, ne_eqb}
use Rattle.std.proofs.lemmas.List.Elements.{filter-append}
use Rattle.std.proofs.lemmas.List.Sums.{sum_by-append, sum_by-cons}
use Rattle.history_core.specs.declared.event.Event.{Event}
use Rattle.history_core.specs.Events.{session_in, is_open_event, opened}
use Rattle.history_core.specs.Chronicle.{own_events}
use Rattle.shared_book.specs.Finish.{HasEventOf}
use Rattle.serve_command.proofs.Somewhere.{any_none, any_here, any_later, any_cases}

pub own_here : (e : Event) (xs : List Event) (s : ℕ) → session_in e ≡ s → own_events (e ∷ xs) s ≡ e ∷ own_events xs s
own_here e xs s same = cond-true (session_in e == s) (e ∷ own_events xs s) (own_events xs s) (eq-eqb (session_in e) s same)

pub own_other : (e : Event) (xs : List Event) (s : ℕ) → (session_in e ≡ s → ⊥) → own_events (e ∷ xs) s ≡ own_events xs s
own_other e xs s apart = cond-false (session_in e == s) (e ∷ own_events xs s) (own_events xs s) (ne_eqb (session_in e) s apart)

pub own_append : (xs ys : List Event) (s : ℕ) → own_events (xs ++ ys) s ≡ own_events xs s ++ own_events ys s
own_append xs ys s = filter-append (λ (e : Event). session_in e == s) xs ys

pub opened_append : (xs ys : List Event) → opened (xs ++ ys) ≡ opened xs + opened ys
opened_append xs ys = sum_by-append (λ (e : Event). cond (is_open_event e) 1 0) xs ys

pub opened_own_append : (xs ys : List Event) (s : ℕ) → opened (own_events (xs ++ ys) s) ≡ opened (own_events xs s) + opened (own_events ys s)
opened_own_append xs ys s = ap opened (own_append xs ys s) ∙ opened_append (own_events xs s) (own_events ys s)

pub opened_opening : (e : Event) (xs : List Event) → is_open_event e ≡ true → opened (e ∷ xs) ≡ 1 + opened xs
opened_opening e xs opens =
    sum_by-cons (λ (e : Event). cond (is_open_event e) 1 0) e xs ∙ ap (λ (b : Bool). cond b 1 0 + opened xs) opens

pub opened_plain : (e : Event) (xs : List Event) → is_open_event e ≡ false → opened (e ∷ xs) ≡ 0 + opened xs
opened_plain e xs plain =
    sum_by-cons (λ (e : Event). cond (is_open_event e) 1 0) e xs ∙ ap (λ (b : Bool). cond b 1 0 + opened xs) plain

pub own_or_none : (xs : List Event) (s : ℕ) → (own_events xs s ≡ []) ⊎ HasEventOf s xs
own_or_none [] s = inl refl
own_or_none (e ∷ xs) s = elim (cases_eq (session_in e) s) [
  | inl same ↦ inr (any_here (λ e. session_in e ≡ s) e xs same)
  | inr apart ↦ elim (own_or_none xs s) [
    | inl none ↦ inl (own_other e xs s apart ∙ none)
    | inr later ↦ inr (any_later (λ e. session_in e ≡ s) e xs later)
  ]
]

-- an event of the session stands among those of the session
pub own_none : (xs : List Event) (s : ℕ) → own_events xs s ≡ [] → HasEventOf s xs → ⊥
own_none [] s none has = any_none (λ (e : Event). session_in e ≡ s) has
own_none (e ∷ xs) s none has = elim (cases_eq (session_in e) s) [
  | inl same ↦ let both : e ∷ own_events xs s ≡ [] = sym (own_here e xs s same) ∙ none in cc
  | inr apart ↦ elim (any_cases (λ e. session_in e ≡ s) e xs has) [
    | inl here ↦ apart here
    | inr later ↦ own_none xs s (sym (own_other e xs s apart) ∙ none) later
  ]
]

-- what two lists have the same of one of them has
pub has_same : (xs ys : List Event) (s : ℕ) → own_events xs s ≡ own_events ys s → HasEventOf s ys → HasEventOf s xs
has_same xs ys s same has = elim (own_or_none xs s) [
  | inl none ↦ absurd (own_none ys s (sym same ∙ none) has)
  | inr here ↦ here
]
