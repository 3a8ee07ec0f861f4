-- What the index of the cells' places tells, and how it grows.
use Rattle.std.proofs.Common.{◌≡◌, ◌≢◌, ℕ, ◌+◌, ◌<◌, ◌≤◌, suc, List, [], ◌∷◌, ◌++◌, Some, length, get_or, set, arith, refl, ap, sym, ◌∙◌, subst, inl, inr, length-append}
use Rattle.std.specs.List.{slice_get}
use Rattle.std.proofs.lemmas.Option.{slice_get_within}
use Rattle.std.proofs.lemmas.List.{length-set, get_or_push}
use Rattle.std.proofs.Math.ListN.{get_or-append}
use Rattle.std.proofs.lemmas.Bool.{cases_lt, cases_eq}
use Rattle.cell_base.specs.declared.cell.Cell.{Cell}
use Rattle.cell_base.specs.declared.value.Value.{Value}
use Rattle.txn_buffer.specs.Buffer.{StandsAt, IsAbsent}
use Rattle.txn_buffer.specs.Index.{hash_of, IsLast, IsIndexed}
use Rattle.txn_buffer.proofs.Lists.{slice_get_push_cases, slice_get-set_cases, at_contains}

-- the cell stands before the place, if at all, and the place is one of its hash
pub record IsSought (writes : List (Cell × Value)) (cell : Cell) (place : ℕ) : Type 0 where
  pub within : place ≤ length writes
  pub is : (k : ℕ) (e : Cell × Value) → place ≡ suc k → slice_get writes k ≡ Some e → hash_of e.0 ≡ hash_of cell
  pub none : (k : ℕ) (e : Cell × Value) → place ≤ k → slice_get writes k ≡ Some e → e.0 ≡ cell → ⊥

pub sought_first :
    (writes : List (Cell × Value)) (cell : Cell) (place : ℕ) → IsLast writes (hash_of cell) (length writes) place → IsSought writes cell place
sought_first writes cell place last = record {
  within = last.within;
  is = last.is;
  none = λ k e from at same. last.none k e from (slice_get_within writes k e at) at (ap hash_of same);
}

pub sought_next :
    (writes : List (Cell × Value)) (cell : Cell) (at place : ℕ) (e : Cell × Value) → IsSought writes cell (suc at) → slice_get writes at ≡ Some e →
    (e.0 ≡ cell → ⊥) → IsLast writes (hash_of e.0) at place → IsSought writes cell place
sought_next writes cell at place e sought here other last =
    let hash : hash_of e.0 ≡ hash_of cell = sought.is at e refl here in
    let within : at < length writes = slice_get_within writes at e here in
    let before : place ≤ at = last.within in
    record {
      within = omega arith;
      is = λ k d is there. last.is k d is there ∙ hash;
      none = λ k d from there same. elim (cases_lt k at) [
        | inl less ↦ last.none k d from less there (ap hash_of same ∙ sym hash)
        | inr more ↦ elim (cases_eq k at) [
          | inl is ↦
              let both : Some d ≡ Some e = sym there ∙ ap (λ (n : ℕ). slice_get writes n) is ∙ here in
              let one : d ≡ e = cc in
              other (sym (ap (λ (p : Cell × Value). p.0) one) ∙ same)
          | inr apart ↦ sought.none k d (omega arith) there same
        ]
      ];
    }

pub sought_none : (writes : List (Cell × Value)) (cell : Cell) → IsSought writes cell 0 → IsAbsent writes cell
sought_none writes cell sought value member =
    let found = at_contains writes (cell, value) member in
    sought.none found.0 (cell, value) (omega arith) found.1 refl

-- ---- a cell more

last_grown :
    (writes : List (Cell × Value)) (cell : Cell) (value : Value) (hash at : ℕ) → hash_of cell ≢ hash → IsLast writes hash (length writes) at →
    IsLast (writes ++ (cell, value) ∷ []) hash (length writes + 1) at
last_grown writes cell value hash at other last =
    let inside : at ≤ length writes = last.within in
    record {
      within = omega arith;
      is = λ k e is there. elim (slice_get_push_cases writes (cell, value) k e there) [
        | inl old ↦ last.is k e is old.1
        | inr new ↦ absurd (let end = new.0 in omega arith)
      ];
      none = λ k e from to there same. elim (slice_get_push_cases writes (cell, value) k e there) [
        | inl old ↦ last.none k e from old.0 old.1 same
        | inr new ↦ other (ap (λ (p : Cell × Value). hash_of p.0) new.1 ∙ same)
      ];
    }

last_new : (writes : List (Cell × Value)) (cell : Cell) (value : Value) → IsLast (writes ++ (cell, value) ∷ []) (hash_of cell) (length writes + 1) (length writes + 1)
last_new writes cell value = record {
  within = omega arith;
  is = λ k e is there. elim (slice_get_push_cases writes (cell, value) k e there) [
    | inl old ↦ absurd (let less = old.0 in omega arith)
    | inr new ↦ sym (ap (λ (p : Cell × Value). hash_of p.0) new.1)
  ];
  none = λ k e from to there same. absurd (omega arith);
}

last_kept :
    (writes : List (Cell × Value)) (cell : Cell) (value : Value) (hash to at : ℕ) → to ≤ length writes → IsLast writes hash to at →
    IsLast (writes ++ (cell, value) ∷ []) hash to at
last_kept writes cell value hash to at room last =
    let inside : at ≤ to = last.within in
    record {
      within = inside;
      is = λ k e is there. elim (slice_get_push_cases writes (cell, value) k e there) [
        | inl old ↦ last.is k e is old.1
        | inr new ↦ absurd (let end = new.0 in omega arith)
      ];
      none = λ k e from less there same. elim (slice_get_push_cases writes (cell, value) k e there) [
        | inl old ↦ last.none k e from less old.1 same
        | inr new ↦ absurd (let end = new.0 in omega arith)
      ];
    }

pub indexed_push :
    (writes : List (Cell × Value)) (cell : Cell) (value : Value) (last next : ℕ → ℕ) (before : List ℕ) → IsIndexed writes last before →
    next (hash_of cell) ≡ length before + 1 → ((hash : ℕ) → hash ≢ hash_of cell → next hash ≡ last hash) →
    IsIndexed (writes ++ (cell, value) ∷ []) next (before ++ last (hash_of cell) ∷ [])
indexed_push writes cell value last next before indexed here others =
    let all : List (Cell × Value) = writes ++ (cell, value) ∷ [] in
    let size : length before ≡ length writes = indexed.size in
    let long : length all ≡ length writes + 1 = length-append writes ((cell, value) ∷ []) in
    let longer : length (before ++ last (hash_of cell) ∷ []) ≡ length before + 1 = length-append before (last (hash_of cell) ∷ []) in
    record {
      size = omega arith;
      last_is = λ hash. elim (cases_eq hash (hash_of cell)) [
        | inl same ↦
            let place : length writes + 1 ≡ next hash = (let e : length writes + 1 ≡ length before + 1 = omega arith in e) ∙ sym here ∙ ap next (sym same) in
            subst (λ (n : ℕ). IsLast all hash n (next hash)) (sym long)
            (subst (λ (n : ℕ). IsLast all hash (length writes + 1) n) place
            (subst (λ (h : ℕ). IsLast all h (length writes + 1) (length writes + 1)) (sym same) (last_new writes cell value)))
        | inr apart ↦
            subst (λ (n : ℕ). IsLast all hash n (next hash)) (sym long)
            (subst (λ (n : ℕ). IsLast all hash (length writes + 1) n) (sym (others hash apart))
            (last_grown writes cell value hash (last hash) (λ same. apart (sym same)) (indexed.last_is hash)))
      ];
      before_is = λ k e there. elim (slice_get_push_cases writes (cell, value) k e there) [
        | inl old ↦
            let inside = old.0 in
            let read : get_or (before ++ last (hash_of cell) ∷ []) k 0 ≡ get_or before k 0 = get_or-append before (last (hash_of cell) ∷ []) 0 k (omega arith) in
            subst (λ (n : ℕ). IsLast all (hash_of e.0) k n) (sym read)
            (last_kept writes cell value (hash_of e.0) k (get_or before k 0) (omega arith) (indexed.before_is k e old.1))
        | inr new ↦
            let end = new.0 in
            let read : get_or (before ++ last (hash_of cell) ∷ []) k 0 ≡ last (hash_of cell) = get_or_push before (last (hash_of cell)) 0 k (omega arith) in
            let hash : hash_of cell ≡ hash_of e.0 = ap (λ (p : Cell × Value). hash_of p.0) new.1 in
            let old : IsLast writes (hash_of cell) k (last (hash_of cell)) = subst (λ (n : ℕ). IsLast writes (hash_of cell) n (last (hash_of cell))) (sym end) (indexed.last_is (hash_of cell)) in
            subst (λ (n : ℕ). IsLast all (hash_of e.0) k n) (sym read)
            (subst (λ (h : ℕ). IsLast all h k (last (hash_of cell))) hash (last_kept writes cell value (hash_of cell) k (last (hash_of cell)) (omega arith) old))
      ];
    }

-- ---- another value

last_set :
    (writes : List (Cell × Value)) (cell : Cell) (value : Value) (at hash to place : ℕ) → StandsAt writes cell at → IsLast writes hash to place →
    IsLast (set writes at (cell, value)) hash to place
last_set writes cell value at hash to place there last = record {
  within = last.within;
  is = λ k e is found. elim (slice_get-set_cases writes at k (cell, value) e found) [
    | inl here ↦
        sym (ap (λ (p : Cell × Value). hash_of p.0) here.1)
        ∙ last.is k (cell, there.value) is (ap (λ (n : ℕ). slice_get writes n) here.0 ∙ there.is)
    | inr other ↦ last.is k e is other.1
  ];
  none = λ k e from less found same. elim (slice_get-set_cases writes at k (cell, value) e found) [
    | inl here ↦
        last.none k (cell, there.value) from less (ap (λ (n : ℕ). slice_get writes n) here.0 ∙ there.is)
        (ap (λ (p : Cell × Value). hash_of p.0) here.1 ∙ same)
    | inr other ↦ last.none k e from less other.1 same
  ];
}

pub indexed_set :
    (writes : List (Cell × Value)) (cell : Cell) (value : Value) (at : ℕ) (last : ℕ → ℕ) (before : List ℕ) → StandsAt writes cell at →
    IsIndexed writes last before → IsIndexed (set writes at (cell, value)) last before
indexed_set writes cell value at last before there indexed =
    let all : List (Cell × Value) = set writes at (cell, value) in
    let long : length all ≡ length writes = length-set writes at (cell, value) in
    record {
      size = indexed.size ∙ sym long;
      last_is = λ hash.
          subst (λ (n : ℕ). IsLast all hash n (last hash)) (sym long) (last_set writes cell value at hash (length writes) (last hash) there (indexed.last_is hash));
      before_is = λ k e found. elim (slice_get-set_cases writes at k (cell, value) e found) [
        | inl here ↦
            let hash : hash_of cell ≡ hash_of e.0 = ap (λ (p : Cell × Value). hash_of p.0) here.1 in
            let old : slice_get writes k ≡ Some (cell, there.value) = ap (λ (n : ℕ). slice_get writes n) here.0 ∙ there.is in
            subst (λ (h : ℕ). IsLast all h k (get_or before k 0)) hash
            (last_set writes cell value at (hash_of cell) k (get_or before k 0) there (indexed.before_is k (cell, there.value) old))
        | inr other ↦ last_set writes cell value at (hash_of e.0) k (get_or before k 0) there (indexed.before_is k e other.1)
      ];
    }

-- no cells
pub indexed_none : (last : ℕ → ℕ) → ((hash : ℕ) → last hash ≡ 0) → IsIndexed [] last []
indexed_none last none = record {
  size = refl;
  last_is = λ hash. record {
    within = omega (arith, none hash);
    is = λ k e is found. cc;
    none = λ k e from less found same. absurd (omega arith);
  };
  before_is = λ k e found. cc;
}

-- the same places under another name
pub indexed_as :
    (writes : List (Cell × Value)) (last next : ℕ → ℕ) (before : List ℕ) → ((hash : ℕ) → next hash ≡ last hash) → IsIndexed writes last before →
    IsIndexed writes next before
indexed_as writes last next before same indexed = record {
  size = indexed.size;
  last_is = λ hash. subst (λ (n : ℕ). IsLast writes hash (length writes) n) (sym (same hash)) (indexed.last_is hash);
  before_is = indexed.before_is;
}
