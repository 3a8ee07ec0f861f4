-- Texts without a zero byte.
use Rattle.std.proofs.Common.{◌≡◌, ◌≢◌, ℕ, zero, suc, ◌≤◌, List, [], ◌∷◌, ◌++◌, length, arith, get_or}
use Rattle.cell_base.specs.Texts.{HasNoZero}

-- no zero byte, by cases
abbrev pub NoZero : List ℕ → Type 0
NoZero [] = Unit {0}
NoZero (x ∷ xs) = (x ≢ 0) × NoZero xs

pub no_zero_from : (xs : List ℕ) → HasNoZero xs → NoZero xs
no_zero_from [] h = tt
no_zero_from (x ∷ xs) h = (λ e. h (0, omega arith, e), no_zero_from xs (λ k. h (suc k.0, omega (arith, k.1), k.2)))

not_at : (xs : List ℕ) (k : ℕ) → NoZero xs → suc k ≤ length xs → get_or xs k 0 ≡ 0 → ⊥
not_at [] k h lt e = omega arith
not_at (x ∷ xs) zero h lt e = h.0 e
not_at (x ∷ xs) (suc k) h lt e = not_at xs k h.1 (omega arith) e

pub has_no_zero : (xs : List ℕ) → NoZero xs → HasNoZero xs
has_no_zero xs h k = not_at xs k.0 h (omega (arith, k.1)) k.2

pub no_zero-append : (xs ys : List ℕ) → NoZero xs → NoZero ys → NoZero (xs ++ ys)
no_zero-append [] ys h k = k
no_zero-append (x ∷ xs) ys h k = (h.0, no_zero-append xs ys h.1 k)
