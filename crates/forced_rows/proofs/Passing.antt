-- How far those before a number were found marked, while more are marked.
use Rattle.std.proofs.Common.{ℕ, ◌+◌, ◌<◌, ◌≤◌, List, Bool, true, false, length, set, replicate, get_or, arith, sym, ◌∙◌, subst, inl, inr}
use Rattle.std.proofs.lemmas.Bool.{cases_eq, false≢true}
use Rattle.std.proofs.lemmas.List.{get_or-set_same, get_or-set_other, get_or-replicate, length-set, length-replicate}
use Rattle.graph_base.specs.declared.Edge.{Edge}
use Rattle.graph_base.specs.Walk.{IsInRange, Reaches}
use Rattle.graph_base.proofs.Closures.{reaches_in_range}
use Rattle.order_witness.specs.Marks.{IsMarked, IsUnmarked}
use Rattle.forced_rows.specs.Marks.{MayBeMarked, IsPassed, ArePassed, AreMarkedBelow}

-- one more is marked
module _ (marks : List Bool) (n : ℕ) (inside : n < length marks) where
  marked_more : (m : ℕ) → IsMarked marks m → IsMarked (set marks n true) m
  marked_more m is = elim (cases_eq m n) [
    | inl same ↦ subst (λ (k : ℕ). IsMarked (set marks n true) k) (sym same) (get_or-set_same marks n true false inside)
    | inr other ↦ get_or-set_other marks n m true false other ∙ is
  ]

  pub passed_more : (size : ℕ) (edges : List Edge) (passed : List ℕ) → ArePassed size edges marks passed → ArePassed size edges (set marks n true) passed
  passed_more size edges passed are = record {
    size_is = are.size_is;
    each = λ k small. let it = are.each k small in (it.0, λ m below on. marked_more m (it.1 m below on));
  }

  pub below_more : (k : ℕ) → AreMarkedBelow marks k → AreMarkedBelow (set marks n true) k
  below_more k below = λ m small. marked_more m (below m small)

-- of one number more is known
pub passed_on : (size : ℕ) (edges : List Edge) (marks : List Bool) (passed : List ℕ) (n k : ℕ) → n < size → k ≤ size → IsPassed edges marks n k →
    ArePassed size edges marks passed → ArePassed size edges marks (set passed n k)
passed_on size edges marks passed n k inside few is are =
    let Known : ℕ → ℕ → Type 0 = λ m p. (p ≤ size) × IsPassed edges marks m p in
    let long = are.size_is in
    record {
      size_is = length-set passed n k ∙ are.size_is;
      each = λ m small. elim (cases_eq m n) [
        | inl same ↦ subst (λ (j : ℕ). Known j (get_or (set passed n k) j 0)) (sym same)
            (subst (Known n) (sym (get_or-set_same passed n k 0 (omega (arith, inside, long)))) (few, is))
        | inr other ↦ subst (Known m) (sym (get_or-set_other passed n m k 0 other)) (are.each m small)
      ];
    }

-- at first nothing is
pub none_passed : (size : ℕ) (edges : List Edge) (marks : List Bool) → ArePassed size edges marks (replicate size 0)
none_passed size edges marks = record {
  size_is = length-replicate size 0;
  each = λ n small. subst (λ (p : ℕ). (p ≤ size) × IsPassed edges marks n p) (sym (get_or-replicate size n 0 0 small))
      (omega arith, λ m below on. absurd (omega (arith, below)));
}

-- a marked number isn't marked again
pub not_again : (edges : List Edge) (marks : List Bool) (n : ℕ) → IsMarked marks n → MayBeMarked edges marks n → ⊥
not_again edges marks n is may = false≢true (sym may.unmarked.1 ∙ is)

-- nor one that is blocked
pub blocked : (edges : List Edge) (marks : List Bool) (n m : ℕ) → IsUnmarked marks m → Reaches edges m n → MayBeMarked edges marks n → ⊥
blocked edges marks n m unmarked on may = false≢true (sym unmarked.1 ∙ may.ready m on)

pub one_more : (edges : List Edge) (marks : List Bool) (k : ℕ) → ((m : ℕ) → m < k → MayBeMarked edges marks m → ⊥) → (MayBeMarked edges marks k → ⊥) →
    (m : ℕ) → m < k + 1 → MayBeMarked edges marks m → ⊥
one_more edges marks k none here m small may = elim (cases_eq m k) [
  | inl same ↦ here (subst (MayBeMarked edges marks) same may)
  | inr other ↦ none m (omega (arith, small, other)) may
]

-- one of which all were found marked may be
pub all_passed : (size : ℕ) (edges : List Edge) (marks : List Bool) (n : ℕ) → IsInRange size edges → IsUnmarked marks n → IsPassed edges marks n size →
    MayBeMarked edges marks n
all_passed size edges marks n in_range unmarked passed = record {
  unmarked = unmarked;
  ready = λ m on. passed m (reaches_in_range size edges in_range m n on).0 on;
}
