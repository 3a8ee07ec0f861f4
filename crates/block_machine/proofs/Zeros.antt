-- A text that is known has no zero byte.
use Rattle.std.proofs.Common.{◌≡◌, ℕ, zero, suc, ◌≤◌, Bool, true, false, cond, eqb, eq-eqb, List, [], ◌∷◌, length, get_or, refl, arith}
use Rattle.cell_base.specs.Texts.{HasNoZero}

abbrev pub zero_free : List ℕ → Bool
zero_free [] = true
zero_free (x ∷ xs) = cond (eqb x 0) false (zero_free xs)

both : (b rest : Bool) → cond b false rest ≡ true → (b ≡ false) × (rest ≡ true)
both true rest h = absurd (cc h)
both false rest h = (refl, h)

not_at : (xs : List ℕ) (k : ℕ) → zero_free xs ≡ true → suc k ≤ length xs → get_or xs k 0 ≡ 0 → ⊥
not_at [] k h lt e = omega arith
not_at (x ∷ xs) zero h lt e = cc (eq-eqb x 0 e, (both (eqb x 0) (zero_free xs) h).0)
not_at (x ∷ xs) (suc k) h lt e = not_at xs k (both (eqb x 0) (zero_free xs) h).1 (omega arith) e

pub no_zero_by : (xs : List ℕ) → zero_free xs ≡ true → HasNoZero xs
no_zero_by xs h k = not_at xs k.0 h (omega (arith, k.1)) k.2
