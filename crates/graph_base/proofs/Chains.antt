-- Chains along any relation: one after another, along a wider relation, and what holds along them.
use Rattle.std.proofs.Common.{◌≡◌, ℕ, ◌<◌, List, [], ◌∷◌, ◌++◌, ◌⊎◌, refl, subst, inl, inr, arith}
use Rattle.graph_base.specs.Chain.{IsChain, Chained}

pub chain_append :
    (R : ℕ → ℕ → Type 0) (a : ℕ) (xs : List ℕ) (b : ℕ) (ys : List ℕ) (c : ℕ) →
    IsChain R a xs b → IsChain R b ys c → IsChain R a (xs ++ b ∷ ys) c
chain_append R a [] b ys c first second = (first, second)
chain_append R a (x ∷ xs) b ys c (first, rest) second = (first, chain_append R x xs b ys c rest second)

pub chained_one : (R : ℕ → ℕ → Type 0) (a b : ℕ) → R a b → Chained R a b
chained_one R a b is = record { between = []; is = is }

pub chained_first : (R : ℕ → ℕ → Type 0) (a b c : ℕ) → R a b → Chained R b c → Chained R a c
chained_first R a b c first on = record { between = b ∷ on.between; is = (first, on.is) }

pub chained_on : (R : ℕ → ℕ → Type 0) (a b c : ℕ) → Chained R a b → Chained R b c → Chained R a c
chained_on R a b c first second =
    record { between = first.between ++ b ∷ second.between; is = chain_append R a first.between b second.between c first.is second.is }

-- ---- the least transitive relation that holds the pairs

pub chain_least :
    (R S : ℕ → ℕ → Type 0) → ((a b : ℕ) → R a b → S a b) → ((a b c : ℕ) → S a b → S b c → S a c) →
    (a : ℕ) (xs : List ℕ) (b : ℕ) → IsChain R a xs b → S a b
chain_least R S holds transitive a [] b is = holds a b is
chain_least R S holds transitive a (x ∷ xs) b (first, rest) =
    transitive a x b (holds a x first) (chain_least R S holds transitive x xs b rest)

pub chained_least :
    (R S : ℕ → ℕ → Type 0) → ((a b : ℕ) → R a b → S a b) → ((a b c : ℕ) → S a b → S b c → S a c) →
    (a b : ℕ) → Chained R a b → S a b
chained_least R S holds transitive a b chain = chain_least R S holds transitive a chain.between b chain.is

-- where each pair of one relation is chained along another, so is each chain
pub chained_mapped :
    (R S : ℕ → ℕ → Type 0) → ((a b : ℕ) → R a b → Chained S a b) → (a b : ℕ) → Chained R a b → Chained S a b
chained_mapped R S holds = chained_least R (Chained S) holds (chained_on S)

pub chained_wider :
    (R S : ℕ → ℕ → Type 0) → ((a b : ℕ) → R a b → S a b) → (a b : ℕ) → Chained R a b → Chained S a b
chained_wider R S holds = chained_mapped R S (λ a b is. chained_one S a b (holds a b is))

-- a number that rises along each pair rises along each chain
pub chained_rises :
    (R : ℕ → ℕ → Type 0) (rank : ℕ → ℕ) → ((a b : ℕ) → R a b → rank a < rank b) →
    (a b : ℕ) → Chained R a b → rank a < rank b
chained_rises R rank rises =
    chained_least R (λ a b. rank a < rank b) rises (λ a b c first second. omega arith)

-- a chain ends with a pair
pub record LastPair (R : ℕ → ℕ → Type 0) (a b : ℕ) : Type 0 where
  pub before : ℕ
  pub leads : (a ≡ before) ⊎ Chained R a before
  pub is : R before b

pub last_pair_of : (R : ℕ → ℕ → Type 0) (a : ℕ) (xs : List ℕ) (b : ℕ) → IsChain R a xs b → LastPair R a b
last_pair_of R a [] b is = record { before = a; leads = inl refl; is = is }
last_pair_of R a (x ∷ xs) b (first, rest) =
    let last = last_pair_of R x xs b rest in
    record {
      before = last.before;
      leads = inr (elim last.leads [
        | inl same ↦ subst (λ (n : ℕ). Chained R a n) same (chained_one R a x first)
        | inr on ↦ chained_first R a x last.before first on
      ]);
      is = last.is;
    }

pub last_pair : (R : ℕ → ℕ → Type 0) (a b : ℕ) → Chained R a b → LastPair R a b
last_pair R a b chain = last_pair_of R a chain.between b chain.is
