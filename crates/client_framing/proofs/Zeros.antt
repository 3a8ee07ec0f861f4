-- Texts that a zero byte ends.
use Rattle.std.proofs.Common.{◌≡◌, ◌≢◌, ℕ, zero, suc, ◌≤◌, List, [], ◌∷◌, ◌++◌, length, refl, sym, ◌∙◌, arith}
use Rattle.cell_base.specs.Texts.{HasNoZero}
use Rattle.cell_base.proofs.Zeros.{NoZero, no_zero_from}
use Rattle.client_framing.specs.Fronts.{IsNoText}

-- bytes that aren't zero, so many
pub ones : ℕ → List ℕ
ones zero = []
ones (suc n) = 1 ∷ ones n

pub length-ones : (n : ℕ) → length (ones n) ≡ n
unfolding ones
length-ones zero = refl
length-ones (suc n) = let e : length (ones n) ≡ n = length-ones n in omega arith

pub no_zero-ones : (n : ℕ) → NoZero (ones n)
unfolding ones
no_zero-ones zero = tt
no_zero-ones (suc n) = (λ e. omega arith, no_zero-ones n)

-- what stands before the first zero byte is determined
pub split_unique : (a b c d : List ℕ) → NoZero a → NoZero c → a ++ (0 ∷ b) ≡ c ++ (0 ∷ d) → (a ≡ c) × (b ≡ d)
split_unique [] b [] d na nc e = (refl, cc)
split_unique [] b (y ∷ c) d na nc e = absurd (nc.0 (cc))
split_unique (x ∷ a) b [] d na nc e = absurd (na.0 (cc))
split_unique (x ∷ a) b (y ∷ c) d na nc e =
    let tails : a ++ (0 ∷ b) ≡ c ++ (0 ∷ d) = cc in
    let heads : x ≡ y = cc in
    let r = split_unique a b c d na.1 nc.1 tails in
    (let s : a ≡ c = r.0 in cc, r.1)

-- what has no zero byte ends before the first one
pub before_zero : (a b c d : List ℕ) → NoZero a → a ++ b ≡ c ++ (0 ∷ d) → length a ≤ length c
before_zero [] b c d na e = omega arith
before_zero (x ∷ a) b [] d na e = absurd (na.0 (cc))
before_zero (x ∷ a) b (y ∷ c) d na e = let t : length a ≤ length c = before_zero a b c d na.1 (cc) in omega arith

pub contains_zero : (a b : List ℕ) → NoZero (a ++ (0 ∷ b)) → ⊥
contains_zero [] b h = h.0 refl
contains_zero (x ∷ a) b h = contains_zero a b h.1

-- with bytes after the first zero byte they are no text
pub no_text_after : (bytes text after : List ℕ) → bytes ≡ text ++ (0 ∷ after) → HasNoZero text → after ≢ [] → IsNoText bytes
no_text_after bytes text after e no_zero more other is =
    more ((split_unique text after other [] (no_zero_from text no_zero) (no_zero_from other is.0) (sym e ∙ is.1)).1)
