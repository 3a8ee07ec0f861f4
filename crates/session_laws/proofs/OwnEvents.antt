-- The events of one session in a list.
use Rattle.std.proofs.Common.{◌≡◌, ℕ, ◌==◌, List, [], ◌∷◌, All, refl, sym, ap, subst, ◌∙◌}
use Rattle.std.proofs.lemmas.Bool.{cond-true, cond-false, eq-eqb, ne_eqb}
use Rattle.std.proofs.lemmas.List.Elements.{All-cons, All-head, All-tail}
use Rattle.history_core.specs.declared.event.Event.{Event}
use Rattle.history_core.specs.declared.event.Event.TheVariants.{Open}
use Rattle.history_core.specs.Events.{session_in}
use Rattle.history_core.specs.Chronicle.{own_events}
use Rattle.session_laws.specs.Openings.{BeginsWithOpening}

pub own_here : (e : Event) (xs : List Event) (s : ℕ) → session_in e ≡ s → own_events (e ∷ xs) s ≡ e ∷ own_events xs s
own_here e xs s same = cond-true (session_in e == s) (e ∷ own_events xs s) (own_events xs s) (eq-eqb (session_in e) s same)

pub own_other : (e : Event) (xs : List Event) (s : ℕ) → (session_in e ≡ s → ⊥) → own_events (e ∷ xs) s ≡ own_events xs s
own_other e xs s apart = cond-false (session_in e == s) (e ∷ own_events xs s) (own_events xs s) (ne_eqb (session_in e) s apart)

-- where all are of the session
pub own_all : (xs : List Event) (s : ℕ) → All (λ e. session_in e ≡ s) xs → own_events xs s ≡ xs
own_all [] s all = refl
own_all (x ∷ xs) s all =
    own_here x xs s (All-head (λ e. session_in e ≡ s) x xs all) ∙ ap (λ (es : List Event). x ∷ es) (own_all xs s (All-tail (λ e. session_in e ≡ s) x xs all))

-- where none is
pub own_none : (xs : List Event) (s : ℕ) → All (λ e. session_in e ≡ s → ⊥) xs → own_events xs s ≡ []
own_none [] s all = refl
own_none (x ∷ xs) s all =
    own_other x xs s (All-head (λ e. session_in e ≡ s → ⊥) x xs all) ∙ own_none xs s (All-tail (λ e. session_in e ≡ s → ⊥) x xs all)

-- all events that begin with an opening are of its session
pub all_of_it : (session : ℕ) (events : List Event) → BeginsWithOpening session events → All (λ e. session_in e ≡ session) events
all_of_it session events begins =
    subst (λ (es : List Event). All (λ e. session_in e ≡ session) es) (sym begins.events_are)
    (All-cons (λ e. session_in e ≡ session) (Open session) begins.later refl (λ k d within. (begins.of_it k d within).0))
