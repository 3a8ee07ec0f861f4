-- Lists by index, as they grow or change at one place.
use Rattle.std.proofs.Common.{◌≡◌, ◌≢◌, ℕ, ◌<◌, zero, suc, List, [], ◌∷◌, ◌++◌, Some, length, set, arith, refl, ap, sym, ◌∙◌, inl, inr, ◌⊎◌}
use Rattle.std.specs.List.{slice_get, Contains}
use Rattle.std.proofs.lemmas.List.{length-set}
use Rattle.std.proofs.lemmas.Option.{slice_get_within, get_or_from_slice_get, slice_get-get_or}
use Rattle.std.proofs.lemmas.Bool.{cases_eq}

pub slice_get-set_same : {X : Type 0} (xs : List X) (i : ℕ) (y : X) → i < length xs → slice_get (set xs i y) i ≡ Some y
slice_get-set_same [] i y h = absurd (omega arith)
slice_get-set_same (x ∷ xs) zero y h = refl
slice_get-set_same (x ∷ xs) (suc i) y h = slice_get-set_same xs i y (omega arith)

pub slice_get-set_other : {X : Type 0} (xs : List X) (i j : ℕ) (y : X) → (j ≡ i → ⊥) → slice_get (set xs i y) j ≡ slice_get xs j
slice_get-set_other [] i j y h = refl
slice_get-set_other (x ∷ xs) zero zero y h = absurd (h refl)
slice_get-set_other (x ∷ xs) zero (suc j) y h = refl
slice_get-set_other (x ∷ xs) (suc i) zero y h = refl
slice_get-set_other (x ∷ xs) (suc i) (suc j) y h = slice_get-set_other xs i j y (λ e. h (ap suc e))

-- the new item, or an old one at another place
pub slice_get-set_cases :
    {X : Type 0} (xs : List X) (i j : ℕ) (y z : X) → slice_get (set xs i y) j ≡ Some z →
    ((j ≡ i) × (y ≡ z)) ⊎ ((j ≢ i) × (slice_get xs j ≡ Some z))
slice_get-set_cases xs i j y z is =
    elim (cases_eq j i) [
      | inl same ↦
          let within : j < length (set xs i y) = slice_get_within (set xs i y) j z is in
          let long : length (set xs i y) ≡ length xs = length-set xs i y in
          let here : slice_get (set xs i y) i ≡ Some y = slice_get-set_same xs i y (omega arith) in
          let both : Some z ≡ Some y = sym is ∙ ap (λ (n : ℕ). slice_get (set xs i y) n) same ∙ here in
          inl (same, cc)
      | inr other ↦ inr (other, sym (slice_get-set_other xs i j y other) ∙ is)
    ]

pub contains_at : {X : Type 0} (xs : List X) (k : ℕ) (x : X) → slice_get xs k ≡ Some x → Contains xs x
contains_at xs k x is = (k, slice_get_within xs k x is, get_or_from_slice_get xs k x x is)

pub at_contains : {X : Type 0} (xs : List X) (x : X) → Contains xs x → (k : ℕ) × (slice_get xs k ≡ Some x)
at_contains xs x (k, within, is) = (k, slice_get-get_or xs k x within ∙ ap Some is)

-- an old item, or the last one
pub slice_get_push_cases :
    {X : Type 0} (xs : List X) (x : X) (k : ℕ) (y : X) → slice_get (xs ++ x ∷ []) k ≡ Some y →
    ((k < length xs) × (slice_get xs k ≡ Some y)) ⊎ ((k ≡ length xs) × (x ≡ y))
slice_get_push_cases [] x zero y is = inr (refl, cc)
slice_get_push_cases [] x (suc k) y is = cc
slice_get_push_cases (z ∷ xs) x zero y is = inl (omega arith, is)
slice_get_push_cases (z ∷ xs) x (suc k) y is =
    elim (slice_get_push_cases xs x k y is) [
      | inl old ↦ inl (let h = old.0 in omega arith, old.1)
      | inr new ↦ inr (let h = new.0 in omega arith, new.1)
    ]
