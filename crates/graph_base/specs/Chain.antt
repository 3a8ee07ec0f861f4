-- Chains along any relation of numbers, with the list of the numbers between.
use Rattle.std.specs.Prelude.{ℕ, List, [], ◌∷◌, Bool, IsTrue}

-- the first is related to the first of those between, each of these to the next, and the last of them to the last
abbrev pub IsChain : (ℕ → ℕ → Type 0) → ℕ → List ℕ → ℕ → Type 0
IsChain R first [] last = R first last
IsChain R first (next ∷ rest) last = R first next × IsChain R next rest last

-- some chain leads from the first to the last: the pair is in the closure of the relation
pub record Chained (R : ℕ → ℕ → Type 0) (first last : ℕ) : Type 0 where
  pub between : List ℕ
  pub is : IsChain R first between last

-- the relation of those that the test passes
abbrev pub Passes : (ℕ → ℕ → Bool) → ℕ → ℕ → Type 0
Passes test a b = IsTrue (test a b)
