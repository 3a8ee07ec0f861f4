-- Lists that ascend and hold the same are one.
use Rattle.std.proofs.Common.{◌≡◌, rules, ℕ, ◌+◌, ◌<◌, zero, suc, List, [], ◌∷◌, Some, get_or, arith, refl, ap, sym, ◌∙◌, subst, inl, inr, ◌⊎◌}
use Rattle.std.specs.Prelude.{◌<ℤ◌, ℤ}
use Rattle.std.specs.Ordering.{int_cmp}
use Rattle.std.specs.declared.cmp.Ordering.TheVariants.{Less}
use Rattle.std.specs.List.{Contains, slice_get}
use Rattle.std.specs.List.Sorted.{IsStrictlyIncreasing}
use Rattle.std.proofs.lemmas.Cmp.{nat_list_cmp_total, int_cmp_total, int_ranked}
use Rattle.std.proofs.lemmas.Option.{slice_get_within, get_or_from_slice_get}
use Rattle.cell_base.specs.declared.key.Key.{Key}
use Rattle.cell_base.specs.declared.key.Key.TheVariants.{Int, Text}
use Rattle.history_core.specs.Legal.{IsKeyBelow}
use Rattle.indexed_history.proofs.KeyLists.{not_below_itself}

pub contains_cases : {X : Type 0} (x : X) (xs : List X) (z : X) → Contains (x ∷ xs) z → (x ≡ z) ⊎ Contains xs z
contains_cases x xs z (zero, within, at) = inl at
contains_cases x xs z (suc k, within, at) = inr (k, omega arith, at)

pub contains_first : {X : Type 0} (x : X) (xs : List X) → Contains (x ∷ xs) x
contains_first x xs = (0, omega arith, refl)

pub contains_later : {X : Type 0} (x : X) (xs : List X) (z : X) → Contains xs z → Contains (x ∷ xs) z
contains_later x xs z (k, within, at) = (suc k, omega arith, at)

pub contains_none : {X : Type 0} (z : X) → Contains [] z → ⊥
contains_none z (k, within, at) = omega arith

-- each is before all that stand after it
abbrev pub Ascends : {X : Type 0} → (X → X → Type 0) → List X → Type 0
Ascends R [] = Unit {0}
Ascends {X} R (x ∷ xs) = ((y : X) → Contains xs y → R x y) × Ascends R xs

abbrev pub IsNext : {X : Type 0} → (X → X → Type 0) → List X → Type 0
IsNext {X} R xs = (k : ℕ) (a b : X) → slice_get xs k ≡ Some a → slice_get xs (suc k) ≡ Some b → R a b

pub ascends : {X : Type 0} (R : X → X → Type 0) → ((a b c : X) → R a b → R b c → R a c) → (xs : List X) → IsNext R xs → Ascends R xs
ascends R trans [] next = tt
ascends R trans (x ∷ []) next = (λ y there. absurd (contains_none y there), tt)
ascends {X} R trans (x ∷ z ∷ zs) next =
    let on = ascends R trans (z ∷ zs) (λ k a b at then. next (suc k) a b at then) in
    let first : R x z = next 0 x z refl refl in (
      λ y there. elim (contains_cases z zs y there) [
        | inl same ↦ subst (λ (w : X). R x w) same first
        | inr later ↦ trans x z y first (on.0 y later)
      ],
      on,
    )

-- what is in the one and not its first is in the other after its first
rest_held : {X : Type 0} (R : X → X → Type 0) (x : X) (xs ys : List X) → ((a : X) → R a a → ⊥) → Ascends R (x ∷ xs) →
    (z : X) → Contains xs z → Contains (x ∷ ys) z → Contains ys z
rest_held {X} R x xs ys never up z there also =
    elim (contains_cases x ys z also) [
      | inl same ↦ absurd (never x (subst (λ (w : X). R x w) (sym same) (up.0 z there)))
      | inr later ↦ later
    ]

pub one_ascending : {X : Type 0} (R : X → X → Type 0) → ((a b c : X) → R a b → R b c → R a c) → ((a : X) → R a a → ⊥) →
    (xs ys : List X) → Ascends R xs → Ascends R ys → ((z : X) → Contains xs z → Contains ys z) → ((z : X) → Contains ys z → Contains xs z) → xs ≡ ys
one_ascending R trans never [] [] up down there back = refl
one_ascending R trans never [] (y ∷ ys) up down there back = absurd (contains_none y (back y (contains_first y ys)))
one_ascending R trans never (x ∷ xs) [] up down there back = absurd (contains_none x (there x (contains_first x xs)))
one_ascending {X} R trans never (x ∷ xs) (y ∷ ys) up down there back =
    let same : x ≡ y = elim (contains_cases y ys x (there x (contains_first x xs))) [
      | inl same ↦ sym same
      | inr later ↦ elim (contains_cases x xs y (back y (contains_first y ys))) [
        | inl same ↦ same
        | inr after ↦ absurd (never x (trans x y x (up.0 y after) (down.0 x later)))
      ]
    ] in
    let held : Ascends R (x ∷ ys) = subst (λ (w : X). Ascends R (w ∷ ys)) (sym same) down in
    let rest : xs ≡ ys = one_ascending R trans never xs ys up.1 down.1
    (λ z at. rest_held R x xs ys never up z at (subst (λ (w : X). Contains (w ∷ ys) z) (sym same) (there z (contains_later x xs z at))))
    (λ z at. rest_held R x ys xs never held z at (back z (contains_later y ys z at))) in
    ap (λ (w : X). w ∷ xs) same ∙ ap (λ (zs : List X). y ∷ zs) rest

-- ---- numbers

next_number : (xs : List ℕ) → IsStrictlyIncreasing xs → IsNext (λ a b. a < b) xs
next_number xs rises k a b at then =
    let within = slice_get_within xs (suc k) b then in
    let step : get_or xs k 0 < get_or xs (k + 1) 0 = rises k (omega arith) in
    let here : get_or xs k 0 ≡ a = get_or_from_slice_get xs k a 0 at in
    let there : get_or xs (suc k) 0 ≡ b = get_or_from_slice_get xs (suc k) b 0 then in
    let same : get_or xs (suc k) 0 ≡ get_or xs (k + 1) 0 = ap (λ (i : ℕ). get_or xs i 0) (omega arith) in
    omega arith

pub one_rising : (xs ys : List ℕ) → IsStrictlyIncreasing xs → IsStrictlyIncreasing ys →
    ((z : ℕ) → Contains xs z → Contains ys z) → ((z : ℕ) → Contains ys z → Contains xs z) → xs ≡ ys
one_rising xs ys up down there back =
    one_ascending (λ a b. a < b) (λ a b c low high. omega arith) (λ a low. omega arith) xs ys
    (ascends (λ a b. a < b) (λ a b c low high. omega arith) xs (next_number xs up))
    (ascends (λ a b. a < b) (λ a b c low high. omega arith) ys (next_number ys down)) there back

-- ---- keys

int_chain : (a b c : ℤ) → a <ℤ b → b <ℤ c → a <ℤ c
int_chain a b c low high =
    let one : int_cmp a b ≡ Less = int_less a b low in
    let two : int_cmp b c ≡ Less = int_less b c high in
    int_ranked a c Less (sym (int_cmp_total.trans a b c one two))
  where
    int_less : (a b : ℤ) → a <ℤ b → int_cmp a b ≡ Less
    int_less a b low = search (rules, low)

key_trans : (a b c : Key) → IsKeyBelow a b → IsKeyBelow b c → IsKeyBelow a c
key_trans (Int a) (Int b) (Int c) low high = int_chain a b c low high
key_trans (Int a) (Int b) (Text c) low high = tt
key_trans (Int a) (Text b) (Int c) low high = absurd high
key_trans (Int a) (Text b) (Text c) low high = tt
key_trans (Text a) (Int b) c low high = absurd low
key_trans (Text a) (Text b) (Int c) low high = absurd high
key_trans (Text a) (Text b) (Text c) low high = nat_list_cmp_total.trans a b c low high

pub one_key_list : (xs ys : List Key) →
    ((k : ℕ) (a b : Key) → slice_get xs k ≡ Some a → slice_get xs (k + 1) ≡ Some b → IsKeyBelow a b) →
    ((k : ℕ) (a b : Key) → slice_get ys k ≡ Some a → slice_get ys (k + 1) ≡ Some b → IsKeyBelow a b) →
    ((z : Key) → Contains xs z → Contains ys z) → ((z : Key) → Contains ys z → Contains xs z) → xs ≡ ys
one_key_list xs ys up down there back =
    one_ascending IsKeyBelow key_trans not_below_itself xs ys
    (ascends IsKeyBelow key_trans xs (λ k a b at then. up k a b at (subst (λ (i : ℕ). slice_get xs i ≡ Some b) (omega arith) then)))
    (ascends IsKeyBelow key_trans ys (λ k a b at then. down k a b at (subst (λ (i : ℕ). slice_get ys i ≡ Some b) (omega arith) then)))
    there back
