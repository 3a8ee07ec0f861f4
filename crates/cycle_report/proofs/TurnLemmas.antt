-- The edges that lead to a number, from the last one to the first, while more numbers are marked.
use Rattle.std.proofs.Common.{◌≡◌, ℕ, zero, suc, ◌-◌, ◌<◌, List, [], Bool, Some, true, false, length, set, replicate, get_or, arith, sym, ◌∙◌, subst, inl, inr}
use Rattle.std.specs.List.{Contains, slice_get}
use Rattle.std.proofs.lemmas.Bool.{cases_eq, false≢true}
use Rattle.std.proofs.lemmas.List.{get_or-set_same, get_or-set_other, length-set, length-replicate}
use Rattle.std.proofs.lemmas.Option.{slice_get-get_or, slice_get_within, get_or_from_slice_get}
use Rattle.graph_base.specs.declared.Edge.{Edge}
use Rattle.order_witness.specs.Marks.{IsMarked, IsUnmarked, IsFree}
use Rattle.order_witness.proofs.Placing.{IsPlacing, IsPlacing-none}
use Rattle.cycle_report.specs.Turns.{AreTurns, IsPassed, ArePassed, IsBlocked}

-- one more is marked
module _ (marks : List Bool) (n : ℕ) (inside : n < length marks) where
  marked_more : (m : ℕ) → IsMarked marks m → IsMarked (set marks n true) m
  marked_more m is = elim (cases_eq m n) [
    | inl same ↦ subst (λ (k : ℕ). IsMarked (set marks n true) k) (sym same) (get_or-set_same marks n true false inside)
    | inr other ↦ get_or-set_other marks n m true false other ∙ is
  ]

  pub passed_more : (edges : List Edge) (size : ℕ) (turns : List ℕ) → ArePassed edges marks size turns → ArePassed edges (set marks n true) size turns
  passed_more edges size turns are = record {
    size_is = are.size_is;
    each = λ k small. let it = are.each k small in record {
      within = it.within;
      into = it.into;
      marked = λ at edge from is into. marked_more edge.before (it.marked at edge from is into);
    };
  }

-- of one number more the turn is known
pub passed_on : (edges : List Edge) (marks : List Bool) (size : ℕ) (turns : List ℕ) (n turn : ℕ) → n < size → IsPassed edges marks n turn →
    ArePassed edges marks size turns → ArePassed edges marks size (set turns n turn)
passed_on edges marks size turns n turn inside is are =
    let long = are.size_is in
    record {
      size_is = length-set turns n turn ∙ are.size_is;
      each = λ m small. elim (cases_eq m n) [
        | inl same ↦ subst (λ (j : ℕ). IsPassed edges marks j (get_or (set turns n turn) j 0)) (sym same)
            (subst (IsPassed edges marks n) (sym (get_or-set_same turns n turn 0 (omega (arith, inside, long)))) is)
        | inr other ↦ subst (IsPassed edges marks m) (sym (get_or-set_other turns n m turn 0 other)) (are.each m small)
      ];
    }

-- at first all edges are left
pub none_passed :
    (edges : List Edge) (marks : List Bool) (size : ℕ) (turns : List ℕ) → AreTurns edges size (length edges) turns → ArePassed edges marks size turns
none_passed edges marks size turns are = record {
  size_is = are.size_is;
  each = λ n small. let it = are.each n small in record {
    within = it.within;
    into = it.into;
    marked = λ k edge from is into. absurd (it.none k edge from (slice_get_within edges k edge is) is into);
  };
}

-- a number at which no edge is left may come next
pub free_at_end : (edges : List Edge) (marks : List Bool) (n : ℕ) → IsUnmarked marks n → IsPassed edges marks n 0 → IsFree edges marks n
free_at_end edges marks n unmarked passed = record {
  unmarked = unmarked;
  ready = λ k d small into. passed.marked k (get_or edges k d) (omega arith) (slice_get-get_or edges k d small) into;
}

-- one at which an edge blocks may not,
pub blocked_waits :
    (edges : List Edge) (marks : List Bool) (n turn : ℕ) → 0 < turn → IsPassed edges marks n turn → IsBlocked edges marks turn → IsFree edges marks n → ⊥
blocked_waits edges marks n turn some passed blocks free =
    let within = passed.within in
    let small : turn - 1 < length edges = omega arith in
    let none : Edge = record { before = 0; after = 0 } in
    let is = slice_get-get_or edges (turn - 1) none small in
    let unmarked = blocks (get_or edges (turn - 1) none) some is in
    false≢true (sym unmarked.1 ∙ free.ready (turn - 1) none small (passed.into (get_or edges (turn - 1) none) some is))

-- nor one that is marked
pub marked_waits : (edges : List Edge) (marks : List Bool) (n : ℕ) → IsMarked marks n → IsFree edges marks n → ⊥
marked_waits edges marks n is free = false≢true (sym free.unmarked.1 ∙ is)

pub edge_before : (edges : List Edge) (k : ℕ) (edge : Edge) → slice_get edges k ≡ Some edge → Contains edges edge
edge_before edges k edge is = (k, slice_get_within edges k edge is, get_or_from_slice_get edges k edge edge is)

none_marked : (size n : ℕ) → IsMarked (replicate size false) n → ⊥
none_marked zero n is = false≢true is
none_marked (suc size) zero is = false≢true is
none_marked (suc size) (suc n) is = none_marked size n is

-- no number is placed yet
pub placing_none : (edges : List Edge) (size : ℕ) (marks : List Bool) → marks ≡ replicate size false → IsPlacing size edges marks []
placing_none edges size marks are =
    subst (λ (bs : List Bool). IsPlacing size edges bs []) (sym are)
    (IsPlacing-none size edges (replicate size false) (length-replicate size false) (none_marked size))
