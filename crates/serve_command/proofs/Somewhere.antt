-- What holds of some element, along a list and along a list of lists.
use Rattle.std.proofs.Common.{◌≡◌, ℕ, ◌<◌, zero, suc, List, [], ◌∷◌, ◌++◌, length, slice_index_or, Any, Contains, arith, refl, sym, subst, inl, inr, ◌⊎◌}

module _ {X : Type 0} (P : X → Type 0) where
  pub any_none : Any P [] → ⊥
  any_none some = let within : some.0 < 0 = some.2 in omega arith

  pub any_here : (x : X) (xs : List X) → P x → Any P (x ∷ xs)
  any_here x xs holds = (zero, x, omega arith, refl, holds)

  pub any_later : (x : X) (xs : List X) → Any P xs → Any P (x ∷ xs)
  any_later x xs (k, y, within, is, holds) = (suc k, y, omega arith, is, holds)

  pub any_cases : (x : X) (xs : List X) → Any P (x ∷ xs) → P x ⊎ Any P xs
  any_cases x xs (zero, y, within, is, holds) = inl (subst P (sym is) holds)
  any_cases x xs (suc k, y, within, is, holds) = inr (k, y, omega arith, is, holds)

  pub any_left : (xs ys : List X) → Any P xs → Any P (xs ++ ys)
  any_left [] ys some = absurd (any_none some)
  any_left (x ∷ xs) ys some = elim (any_cases x xs some) [
    | inl here ↦ any_here x (xs ++ ys) here
    | inr later ↦ any_later x (xs ++ ys) (any_left xs ys later)
  ]

  pub any_right : (xs ys : List X) → Any P ys → Any P (xs ++ ys)
  any_right [] ys some = some
  any_right (x ∷ xs) ys some = any_later x (xs ++ ys) (any_right xs ys some)

  pub any_append_cases : (xs ys : List X) → Any P (xs ++ ys) → Any P xs ⊎ Any P ys
  any_append_cases [] ys some = inr some
  any_append_cases (x ∷ xs) ys some = elim (any_cases x (xs ++ ys) some) [
    | inl here ↦ inl (any_here x xs here)
    | inr later ↦ elim (any_append_cases xs ys later) [ inl left ↦ inl (any_later x xs left) | inr right ↦ inr right ]
  ]

pub any_from_contains : {X : Type 0} (xs : List X) (x : X) → Contains xs x → Any (λ y. y ≡ x) xs
any_from_contains xs x (k, within, is) = (k, x, within, is, refl)

pub contains_from_any : {X : Type 0} (xs : List X) (x : X) → Any (λ y. y ≡ x) xs → Contains xs x
contains_from_any {X} xs x (k, y, within, is, same) = subst (λ (z : X). Contains xs z) same (k, within, is)

-- the lists one after another
abbrev pub joined : {X : Type 0} → List (List X) → List X
joined [] = []
joined (xs ∷ lists) = xs ++ joined lists

module _ {X : Type 0} (P : X → Type 0) where
  pub joined_any : (lists : List (List X)) → Any (Any P) lists → Any P (joined lists)
  joined_any [] some = absurd (any_none (Any P) some)
  joined_any (xs ∷ lists) some = elim (any_cases (Any P) xs lists some) [
    | inl here ↦ any_left P xs (joined lists) here
    | inr later ↦ any_right P xs (joined lists) (joined_any lists later)
  ]

  pub any_joined : (lists : List (List X)) → Any P (joined lists) → Any (Any P) lists
  any_joined [] some = absurd (any_none P some)
  any_joined (xs ∷ lists) some = elim (any_append_cases P xs (joined lists) some) [
    | inl here ↦ any_here (Any P) xs lists here
    | inr later ↦ any_later (Any P) xs lists (any_joined lists later)
  ]

  pub joined_at : (lists : List (List X)) (k : ℕ) (d : List X) → k < length lists → Any P (slice_index_or lists k d) → Any P (joined lists)
  joined_at [] k d within some = absurd (omega arith)
  joined_at (xs ∷ lists) zero d within some = any_left P xs (joined lists) some
  joined_at (xs ∷ lists) (suc k) d within some = any_right P xs (joined lists) (joined_at lists k d (omega arith) some)
