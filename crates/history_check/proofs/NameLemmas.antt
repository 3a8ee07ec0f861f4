-- The names of tables, and how many there are.
use Rattle.std.proofs.Common.{◌≡◌, ℕ, ◌+◌, ◌≤◌, zero, suc, List, [], ◌∷◌, ◌++◌, Option, Some, None, length, arith, refl, ap, sym, ◌∙◌, subst, inl, inr, ◌⊎◌}
use Rattle.std.specs.List.{Contains, Any, cons_option}
use Rattle.std.proofs.lemmas.List.{length-append}
use Rattle.std.proofs.lemmas.List.Elements.{filter_map-append}
use Rattle.history_core.specs.declared.event.Event.{Event}
use Rattle.history_core.specs.Events.{names, defined, defined_name}

cons_keeps : {X : Type 0} (o : Option X) (xs : List X) (x : X) → Contains xs x → Contains (cons_option o xs) x
cons_keeps None xs x member = member
cons_keeps (Some y) xs x (k, within, is) = (suc k, omega arith, is)

cons_cases : {X : Type 0} (o : Option X) (xs : List X) (x : X) → Contains (cons_option o xs) x → (o ≡ Some x) ⊎ Contains xs x
cons_cases None xs x member = inr member
cons_cases (Some y) xs x (zero, within, is) = inl (ap Some is)
cons_cases (Some y) xs x (suc k, within, is) = inr (k, omega arith, is)

abbrev pub Defines : List ℕ → Event → Type 0
Defines name e = defined_name e ≡ Some name

pub names_to : (events : List Event) (name : List ℕ) → Any (Defines name) events → Contains (names events) name
names_to [] name (k, f, within, at, is) = absurd (omega arith)
names_to (e ∷ es) name (zero, f, within, at, is) =
    subst (λ (o : Option (List ℕ)). Contains (cons_option o (names es)) name) (sym (ap defined_name at ∙ is)) (0, omega arith, refl)
names_to (e ∷ es) name (suc k, f, within, at, is) = cons_keeps (defined_name e) (names es) name (names_to es name (k, f, omega arith, at, is))

pub names_from : (events : List Event) (name : List ℕ) → Contains (names events) name → Any (Defines name) events
names_from [] name (k, within, is) = absurd (omega arith)
names_from (e ∷ es) name member =
    elim (cons_cases (defined_name e) (names es) name member) [
      | inl is ↦ (0, e, omega arith, refl, is)
      | inr more ↦ let r = names_from es name more in (suc r.0, r.1, let h = r.2 in omega arith, r.3, r.4)
    ]

pub defined-push : (events : List Event) (e : Event) → defined (events ++ e ∷ []) ≡ defined events + defined (e ∷ [])
defined-push events e = ap length (filter_map-append defined_name events (e ∷ [])) ∙ length-append (names events) (names (e ∷ []))

cons_length : {X : Type 0} (o : Option X) (xs : List X) (n : ℕ) → length xs ≤ n → length (cons_option o xs) ≤ n + 1
cons_length None xs n h = omega arith
cons_length (Some x) xs n h = omega arith

pub defined_few : (events : List Event) → defined events ≤ length events
defined_few [] = omega arith
defined_few (e ∷ es) = let h = cons_length (defined_name e) (names es) (length es) (defined_few es) in omega arith
