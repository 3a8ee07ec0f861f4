-- The last user that pairs name, pair by pair.
use Rattle.std.proofs.Common.{◌≡◌, ◌≢◌, ℕ, ◌<◌, ◌+◌, List, [], ◌∷◌, ◌++◌, length, length-append, append_assoc, refl, sym, ◌∙◌, ap, arith, inl, inr, take, get_or, Bool, false, subst}
use Rattle.std.specs.Prelude.{◌⊎◌, ◌↔◌, Contains, IsTrue}
use Rattle.std.proofs.lemmas.List.Elements.{Contains-push, Contains-push_cases, Contains-append_left}
use Rattle.std.proofs.lemmas.List.{take_more}
use Rattle.session_core.specs.Users.{user, HasUser}

abbrev Pair : Type 0
Pair = (List ℕ) × (List ℕ)

-- a pair among pairs and one more is that one, or it is among those
last_or_before : (xs before after : List Pair) (p q : Pair) → xs ++ p ∷ [] ≡ before ++ q ∷ after
    → ((after ≡ []) × (p ≡ q)) ⊎ ((front : List Pair) × (after ≡ front ++ p ∷ []) × (xs ≡ before ++ q ∷ front))
last_or_before [] [] after p q e = inl (cc, cc)
last_or_before [] (b ∷ before) after p q e =
    let t : [] ≡ before ++ q ∷ after = cc in
    absurd (omega (arith, ap length t, length-append before (q ∷ after)))
last_or_before (x ∷ xs) [] after p q e =
    let heads : x ≡ q = cc in
    inr (xs, cc, cc)
last_or_before (x ∷ xs) (b ∷ before) after p q e =
    let heads : x ≡ b = cc in
    elim (last_or_before xs before after p q (cc)) [
      | inl h ↦ inl h
      | inr h ↦ inr (h.0, h.1, let tails : xs ≡ before ++ q ∷ h.0 = h.2 in cc)
    ]

no_user : HasUser [] → ⊥
no_user (value, full, names) =
    absurd (omega (arith, ap length names.whole, length-append names.before ((user, value) ∷ names.after)))

pub user_none : (b : Bool) → b ≡ false → IsTrue b ↔ HasUser []
user_none b e = (λ h. absurd (cc), λ h. absurd (no_user h))

-- one more pair that has another name
other_more : (xs : List Pair) (name value : List ℕ) → name ≢ user → HasUser xs → HasUser (xs ++ (name, value) ∷ [])
other_more xs name value other (v, full, names) = (
  v,
  full,
  record {
    before = names.before;
    after = names.after ++ (name, value) ∷ [];
    whole = ap (λ (l : List Pair). l ++ (name, value) ∷ []) names.whole
        ∙ append_assoc names.before ((user, v) ∷ names.after) ((name, value) ∷ []);
    last = λ w h. elim (Contains-push_cases names.after (name, value) (user, w) h) [
      | inl k ↦ names.last w k
      | inr k ↦ other (ap (λ (p : Pair). p.0) k)
    ];
  },
)

other_less : (xs : List Pair) (name value : List ℕ) → name ≢ user → HasUser (xs ++ (name, value) ∷ []) → HasUser xs
other_less xs name value other (v, full, names) =
    elim (last_or_before xs names.before names.after (name, value) (user, v) names.whole) [
      | inl h ↦ absurd (other (ap (λ (p : Pair). p.0) h.1))
      | inr h ↦ (
        v,
        full,
        record {
          before = names.before;
          after = h.0;
          whole = h.2;
          last = λ w k.
              let P : List Pair → Type 0 = λ l. Contains l (user, w) in
              names.last w (subst P (sym h.1) (Contains-append_left h.0 ((name, value) ∷ []) (user, w) k));
        },
      )
    ]

-- one more pair that names a user
user_more : (xs : List Pair) (value : List ℕ) → value ≢ [] → HasUser (xs ++ (user, value) ∷ [])
user_more xs value full = (
  value,
  full,
  record {
    before = xs;
    after = [];
    whole = refl;
    last = λ w h. omega (arith, h.1);
  },
)

user_less : (xs : List Pair) (value : List ℕ) → HasUser (xs ++ (user, value) ∷ []) → value ≢ []
user_less xs value (v, full, names) empty =
    elim (last_or_before xs names.before names.after (user, value) (user, v) names.whole) [
      | inl h ↦ full (sym (ap (λ (p : Pair). p.1) h.1) ∙ empty)
      | inr h ↦
          let P : List Pair → Type 0 = λ l. Contains l (user, value) in
          names.last value (subst P (sym h.1) (Contains-push h.0 (user, value)))
    ]

-- the next pair is read, and has another name
pub past_other : (xs : List Pair) (i : ℕ) (p : Pair) (has : Bool) → i < length xs → p ≡ get_or xs i p → p.0 ≢ user →
    IsTrue has ↔ HasUser (take i xs) → IsTrue has ↔ HasUser (take (i + 1) xs)
past_other xs i p has lt is other h =
    rw (take_more xs i p lt, ← is) (λ t. other_more (take i xs) p.0 p.1 other (h.0 t), λ t. h.1 (other_less (take i xs) p.0 p.1 other t))

-- the next pair is read, and names a user
pub past_user : (xs : List Pair) (i : ℕ) (p : Pair) (has : Bool) → i < length xs → p ≡ get_or xs i p → p.0 ≡ user →
    IsTrue has ↔ (p.1 ≢ []) → IsTrue has ↔ HasUser (take (i + 1) xs)
past_user xs i p has lt is e h =
    let f : take (i + 1) xs ≡ take i xs ++ (user, p.1) ∷ [] =
    take_more xs i p lt ∙ (ap (λ (q : Pair). take i xs ++ q ∷ []) (sym is) ∙ ap (λ (n : List ℕ). take i xs ++ (n, p.1) ∷ []) e) in
    rw f (λ t. user_more (take i xs) p.1 (h.0 t), λ t. h.1 (user_less (take i xs) p.1 t))

-- the answer to whether the value is empty
pub full_same : (has full : Bool) (value bytes : List ℕ) → has ≡ full → bytes ≡ value → IsTrue full ↔ (bytes ≢ []) →
    IsTrue has ↔ (value ≢ [])
full_same has full value bytes e f h = rw (e, ← f) h
