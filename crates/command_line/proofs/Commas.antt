-- Texts that are cut at their first comma.
use Rattle.std.proofs.Common.{◌≡◌, ◌≢◌, ℕ, suc, List, [], ◌∷◌, ◌++◌, refl, arith}
use Rattle.std.specs.Prelude.{Contains}

-- no comma, by cases
abbrev pub NoComma : List ℕ → Type 0
NoComma [] = Unit {0}
NoComma (x ∷ xs) = (x ≢ 44) × NoComma xs

pub no_comma_from : (xs : List ℕ) → ¬ (Contains xs 44) → NoComma xs
no_comma_from [] h = tt
no_comma_from (x ∷ xs) h = (λ e. h (0, omega arith, e), no_comma_from xs (λ k. h (suc k.0, omega (arith, k.1), k.2)))

-- what stands before the first comma is determined
pub cut_same : (a b c d : List ℕ) → NoComma a → NoComma c → a ++ (44 ∷ b) ≡ c ++ (44 ∷ d) → (a ≡ c) × (b ≡ d)
cut_same [] b [] d na nc e = (refl, cc)
cut_same [] b (y ∷ c) d na nc e = absurd (nc.0 (cc))
cut_same (x ∷ a) b [] d na nc e = absurd (na.0 (cc))
cut_same (x ∷ a) b (y ∷ c) d na nc e =
    let tails : a ++ (44 ∷ b) ≡ c ++ (44 ∷ d) = cc in
    let heads : x ≡ y = cc in
    let r = cut_same a b c d na.1 nc.1 tails in
    (let s : a ≡ c = r.0 in cc, r.1)
