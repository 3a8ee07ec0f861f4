-- Sums over the first numbers.
use Rattle.std.proofs.Common.{◌≡◌, ◌≢◌, ◌≤◌, ◌<◌, ◌+◌, ◌*◌, inl, inr, ℕ, zero, suc, sym, subst, arith}
use Rattle.std.proofs.lemmas.Bool.{cases_eq}

abbrev pub sum_to : (ℕ → ℕ) → ℕ → ℕ
sum_to f zero = 0
sum_to f (suc n) = sum_to f n + f n

sum_same : (f g : ℕ → ℕ) (n : ℕ) → ((k : ℕ) → k < n → g k ≡ f k) → sum_to g n ≡ sum_to f n
sum_same f g zero same = omega arith
sum_same f g (suc n) same =
    omega (arith, sum_same f g n (λ k less. same k (omega (arith, less))), same n (omega arith))

-- where one of them grew and the others stayed
pub sum_change : (f g : ℕ → ℕ) (c d n : ℕ) → c < n → g c ≡ f c + d → ((k : ℕ) → k ≢ c → g k ≡ f k) → sum_to g n ≡ sum_to f n + d
sum_change f g c d zero within here others = absurd (omega (arith, within))
sum_change f g c d (suc n) within here others = elim (cases_eq c n) [
  | inl last ↦
      let rest = sum_same f g n (λ k less. others k (λ is. omega (arith, is, less, last))) in
      let at : g n ≡ f n + d = subst (λ (k : ℕ). g k ≡ f k + d) last here in
      omega (arith, rest, at)
  | inr apart ↦
      let rest = sum_change f g c d n (omega (arith, within, apart)) here others in
      omega (arith, rest, others n (λ is. apart (sym is)))
]

-- where each is at most so much more
pub sum_below : (f g : ℕ → ℕ) (n : ℕ) → ((k : ℕ) → k < n → f k ≤ g k + 7210002) → sum_to f n ≤ sum_to g n + 7210002 * n
sum_below f g zero below = omega arith
sum_below f g (suc n) below =
    omega (arith, sum_below f g n (λ k less. below k (omega (arith, less))), below n (omega arith))

pub sum_none : (n : ℕ) → sum_to (λ k. 0) n ≡ 0
sum_none zero = omega arith
sum_none (suc n) = omega (arith, sum_none n)
