-- Numbers and pairs that are gathered one after another, ascending.
use Rattle.std.proofs.Common.{◌≡◌, ℕ, ◌+◌, ◌<◌, ◌≤◌, List, [], ◌∷◌, ◌++◌, Some, length, get_or, arith, refl, sym, ◌∙◌, subst, inl, inr, ◌⊎◌}
use Rattle.std.specs.List.{Contains, slice_get}
use Rattle.std.specs.List.Sorted.{IsStrictlyIncreasing}
use Rattle.std.proofs.lemmas.List.{length_push, get_or_append_left, get_or_push}
use Rattle.std.proofs.lemmas.List.Elements.{Contains-push_cases, Contains-append_left, Contains-push, Contains-get_or}
use Rattle.std.proofs.lemmas.List.Kept.{AllPairs-from_increasing}
use Rattle.std.proofs.lemmas.Option.{slice_get_within, get_or_from_slice_get}
use Rattle.std.proofs.lemmas.Bool.{cases_lt, cases_eq}
use Rattle.txn_buffer.proofs.Lists.{slice_get_push_cases, contains_at, at_contains}
use Rattle.graph_base.specs.declared.Edge.{Edge}
use Rattle.axiom_base.specs.Axioms.{IsPairBelow, ArePairsAscending}
use Rattle.axiom_base.specs.Sights.{AreAllWith, AreGathered, IsFirstBelow}

-- ---- numbers

-- just the numbers below the bound with the property, ascending
pub record AreAllBelow (Is : ℕ → Type 0) (n : ℕ) (numbers : List ℕ) : Type 0 where
  pub ascending : IsStrictlyIncreasing numbers
  pub below : (k : ℕ) → Contains numbers k → k < n
  pub whole : (k : ℕ) → k < n → Is k → Contains numbers k
  pub sound : (k : ℕ) → Contains numbers k → Is k

pub all_none : (Is : ℕ → Type 0) → AreAllBelow Is 0 []
all_none Is = record {
  ascending = λ k within. absurd (omega arith);
  below = λ k (i, within, is). absurd (omega arith);
  whole = λ k under. absurd (omega arith);
  sound = λ k (i, within, is). absurd (omega arith);
}

increasing_push : (xs : List ℕ) (x : ℕ) → IsStrictlyIncreasing xs → ((y : ℕ) → Contains xs y → y < x) → IsStrictlyIncreasing (xs ++ x ∷ [])
increasing_push xs x ascending above k within =
    let long : length (xs ++ x ∷ []) ≡ length xs + 1 = length_push xs x in
    let old : (i : ℕ) → i < length xs → get_or (xs ++ x ∷ []) i 0 ≡ get_or xs i 0 = λ i small. get_or_append_left xs (x ∷ []) 0 i small in
    elim (cases_lt (k + 1) (length xs)) [
      | inl inside ↦
          let a = old k (omega arith) in let b = old (k + 1) inside in
          let h : get_or xs k 0 < get_or xs (k + 1) 0 = ascending k inside in omega arith
      | inr last ↦
          let at : k + 1 ≡ length xs = omega arith in
          let a = old k (omega arith) in
          let b : get_or (xs ++ x ∷ []) (k + 1) 0 ≡ x = get_or_push xs x 0 (k + 1) (sym at) in
          let h = above (get_or xs k 0) (Contains-get_or xs k 0 (omega arith)) in omega arith
    ]

pub all_push : (Is : ℕ → Type 0) (n : ℕ) (numbers : List ℕ) → Is n → AreAllBelow Is n numbers → AreAllBelow Is (n + 1) (numbers ++ n ∷ [])
all_push Is n numbers is are = record {
  ascending = increasing_push numbers n are.ascending are.below;
  below = λ k member. elim (Contains-push_cases numbers n k member) [
    | inl old ↦ let h = are.below k old in omega arith
    | inr same ↦ omega arith
  ];
  whole = λ k under holds. elim (cases_lt k n) [
    | inl less ↦ Contains-append_left numbers (n ∷ []) k (are.whole k less holds)
    | inr more ↦ let at : n ≡ k = omega arith in subst (λ (m : ℕ). Contains (numbers ++ n ∷ []) m) at (Contains-push numbers n)
  ];
  sound = λ k member. elim (Contains-push_cases numbers n k member) [
    | inl old ↦ are.sound k old
    | inr same ↦ subst Is same is
  ];
}

pub all_skip : (Is : ℕ → Type 0) (n : ℕ) (numbers : List ℕ) → (Is n → ⊥) → AreAllBelow Is n numbers → AreAllBelow Is (n + 1) numbers
all_skip Is n numbers none are = record {
  ascending = are.ascending;
  below = λ k member. let h = are.below k member in omega arith;
  whole = λ k under holds. elim (cases_lt k n) [
    | inl less ↦ are.whole k less holds
    | inr more ↦ let at : k ≡ n = omega arith in absurd (none (subst Is at holds))
  ];
  sound = are.sound;
}

pub all_whole : (Is : ℕ → Type 0) (n : ℕ) (numbers : List ℕ) → ((k : ℕ) → Is k → k < n) → AreAllBelow Is n numbers → AreAllWith Is numbers
all_whole Is n numbers bounded are = record {
  ascending = are.ascending;
  exact = λ k. (are.sound k, λ is. are.whole k (bounded k is) is);
}

-- an earlier number is less
pub number_below : (xs : List ℕ) (i j a b : ℕ) → IsStrictlyIncreasing xs → i < j → slice_get xs i ≡ Some a → slice_get xs j ≡ Some b → a < b
number_below xs i j a b ascending less first second =
    let within = slice_get_within xs j b second in
    let h : get_or xs i 0 < get_or xs j 0 = AllPairs-from_increasing xs ascending i j 0 less within in
    let f : get_or xs i 0 ≡ a = get_or_from_slice_get xs i a 0 first in
    let s : get_or xs j 0 ≡ b = get_or_from_slice_get xs j b 0 second in
    omega arith

-- ---- pairs

abbrev pair : ℕ → ℕ → Edge
pair a b = record { before = a; after = b }

pub ascending_push :
    (edges : List Edge) (new : Edge) → ArePairsAscending edges → ((e : Edge) → Contains edges e → IsPairBelow e new) → ArePairsAscending (edges ++ new ∷ [])
ascending_push edges new ascending below =
    λ i j a b less at_i at_j. elim (slice_get_push_cases edges new j b at_j) [
      | inl inside ↦ elim (slice_get_push_cases edges new i a at_i) [
        | inl both ↦ ascending i j a b less both.1 inside.1
        | inr last ↦ let h = last.0 in let g = inside.0 in absurd (omega arith)
      ]
      | inr last ↦ elim (slice_get_push_cases edges new i a at_i) [
        | inl old ↦ subst (λ (e : Edge). IsPairBelow a e) last.1 (below a (contains_at edges i a old.1))
        | inr both ↦ let h = last.0 in let g = both.0 in absurd (omega arith)
      ]
    ]

none_listed : (i : ℕ) (e : Edge) → slice_get [] i ≡ Some e → i < 0
none_listed i e at = slice_get_within [] i e at

pub gather_none : (Is : ℕ → ℕ → Type 0) → AreGathered Is (IsFirstBelow 0) []
gather_none Is = record {
  ascending = λ i j a b less at_i at_j. let h = none_listed i a at_i in absurd (omega arith);
  sound = λ e (i, within, is). absurd (omega arith);
  whole = λ a b done is. absurd (omega arith);
}

-- the next pair is one
pub gather_push :
    (Is Done Now : ℕ → ℕ → Type 0) (edges : List Edge) (c d : ℕ) → Is c d → ((a b : ℕ) → Done a b → (a < c) ⊎ ((a ≡ c) × (b < d))) →
    ((a b : ℕ) → Done a b → Now a b) → Now c d → ((a b : ℕ) → Now a b → Done a b ⊎ ((a ≡ c) × (b ≡ d))) →
    AreGathered Is Done edges → AreGathered Is Now (edges ++ pair c d ∷ [])
gather_push Is Done Now edges c d is below on here cases gathered = record {
  ascending = ascending_push edges (pair c d) gathered.ascending (λ e member. below e.before e.after (gathered.sound e member).0);
  sound = λ e member. elim (Contains-push_cases edges (pair c d) e member) [
    | inl old ↦ let both = gathered.sound e old in (on e.before e.after both.0, both.1)
    | inr same ↦ subst (λ (f : Edge). Now f.before f.after × Is f.before f.after) same (here, is)
  ];
  whole = λ a b now holds. elim (cases a b now) [
    | inl done ↦ Contains-append_left edges (pair c d ∷ []) (pair a b) (gathered.whole a b done holds)
    | inr at ↦
        subst (λ (m : ℕ). Contains (edges ++ pair c d ∷ []) (pair m b)) (sym at.0)
        (subst (λ (m : ℕ). Contains (edges ++ pair c d ∷ []) (pair c m)) (sym at.1) (Contains-push edges (pair c d)))
  ];
}

-- the next pair is none
pub gather_skip :
    (Is Done Now : ℕ → ℕ → Type 0) (edges : List Edge) (c d : ℕ) → (Is c d → ⊥) → ((a b : ℕ) → Done a b → Now a b) →
    ((a b : ℕ) → Now a b → Done a b ⊎ ((a ≡ c) × (b ≡ d))) → AreGathered Is Done edges → AreGathered Is Now edges
gather_skip Is Done Now edges c d none on cases gathered = record {
  ascending = gathered.ascending;
  sound = λ e member. let both = gathered.sound e member in (on e.before e.after both.0, both.1);
  whole = λ a b now holds. elim (cases a b now) [
    | inl done ↦ gathered.whole a b done holds
    | inr at ↦ absurd (none (subst (λ (m : ℕ). Is m d) at.0 (subst (λ (m : ℕ). Is a m) at.1 holds)))
  ];
}

-- other words for the pairs that are done
pub gather_as :
    (Is Done Now : ℕ → ℕ → Type 0) (edges : List Edge) → ((a b : ℕ) → Done a b → Now a b) → ((a b : ℕ) → Now a b → Is a b → Done a b) →
    AreGathered Is Done edges → AreGathered Is Now edges
gather_as Is Done Now edges on back gathered = record {
  ascending = gathered.ascending;
  sound = λ e member. let both = gathered.sound e member in (on e.before e.after both.0, both.1);
  whole = λ a b now is. gathered.whole a b (back a b now is) is;
}

-- ---- the pairs of one first number, by the first of the second numbers

abbrev pub IsReached : ℕ → List ℕ → ℕ → ℕ → ℕ → Type 0
IsReached first seconds k a b = (a < first) ⊎ ((a ≡ first) × ((i : ℕ) × ((i < k) × (slice_get seconds i ≡ Some b))))

pub row_begins :
    (Is : ℕ → ℕ → Type 0) (first : ℕ) (seconds : List ℕ) (edges : List Edge) → AreGathered Is (IsFirstBelow first) edges →
    AreGathered Is (IsReached first seconds 0) edges
row_begins Is first seconds edges gathered =
    gather_as Is (IsFirstBelow first) (IsReached first seconds 0) edges (λ a b done. inl done)
    (λ a b now is. elim now [ inl less ↦ less | inr at ↦ let h = at.1.1.0 in absurd (omega arith) ]) gathered

reached_on : (first : ℕ) (seconds : List ℕ) (k a b : ℕ) → IsReached first seconds k a b → IsReached first seconds (k + 1) a b
reached_on first seconds k a b (inl less) = inl less
reached_on first seconds k a b (inr at) = let h = at.1.1.0 in inr (at.0, (at.1.0, (omega arith, at.1.1.1)))

reached_cases :
    (first : ℕ) (seconds : List ℕ) (k second a b : ℕ) → slice_get seconds k ≡ Some second → IsReached first seconds (k + 1) a b →
    IsReached first seconds k a b ⊎ ((a ≡ first) × (b ≡ second))
reached_cases first seconds k second a b is (inl less) = inl (inl less)
reached_cases first seconds k second a b is (inr at) =
    elim (cases_eq at.1.0 k) [
      | inl same ↦
          let there : slice_get seconds k ≡ Some b = subst (λ (i : ℕ). slice_get seconds i ≡ Some b) same at.1.1.1 in
          let one : Some b ≡ Some second = sym there ∙ is in
          inr (at.0, cc)
      | inr other ↦ let h = at.1.1.0 in inl (inr (at.0, (at.1.0, (omega arith, at.1.1.1))))
    ]

pub row_push :
    (Is : ℕ → ℕ → Type 0) (first : ℕ) (seconds : List ℕ) (k second : ℕ) (edges : List Edge) → IsStrictlyIncreasing seconds →
    slice_get seconds k ≡ Some second → Is first second → AreGathered Is (IsReached first seconds k) edges →
    AreGathered Is (IsReached first seconds (k + 1)) (edges ++ record { before = first; after = second } ∷ [])
row_push Is first seconds k second edges ascending at is gathered =
    gather_push Is (IsReached first seconds k) (IsReached first seconds (k + 1)) edges first second is
    (λ a b done. elim done [
      | inl less ↦ inl less
      | inr same ↦ inr (same.0, number_below seconds same.1.0 k b second ascending same.1.1.0 same.1.1.1 at)
    ])
    (reached_on first seconds k) (inr (refl, (k, (omega arith, at)))) (λ a b now. reached_cases first seconds k second a b at now) gathered

pub row_skip :
    (Is : ℕ → ℕ → Type 0) (first : ℕ) (seconds : List ℕ) (k second : ℕ) (edges : List Edge) → slice_get seconds k ≡ Some second → (Is first second → ⊥) →
    AreGathered Is (IsReached first seconds k) edges → AreGathered Is (IsReached first seconds (k + 1)) edges
row_skip Is first seconds k second edges at none gathered =
    gather_skip Is (IsReached first seconds k) (IsReached first seconds (k + 1)) edges first second none (reached_on first seconds k)
    (λ a b now. reached_cases first seconds k second a b at now) gathered

pub row_ends :
    (Is : ℕ → ℕ → Type 0) (first : ℕ) (seconds : List ℕ) (k : ℕ) (edges : List Edge) → ((second : ℕ) → Is first second → Contains seconds second) →
    length seconds ≤ k → AreGathered Is (IsReached first seconds k) edges → AreGathered Is (IsFirstBelow (first + 1)) edges
row_ends Is first seconds k edges reached end gathered =
    gather_as Is (IsReached first seconds k) (IsFirstBelow (first + 1)) edges
    (λ a b done. elim done [ inl less ↦ omega arith | inr at ↦ let h = at.0 in omega arith ])
    (λ a b now is. elim (cases_lt a first) [
      | inl less ↦ inl less
      | inr more ↦
          let same : a ≡ first = omega arith in
          let at = at_contains seconds b (reached b (subst (λ (m : ℕ). Is m b) same is)) in
          let within = slice_get_within seconds at.0 b at.1 in
          inr (same, (at.0, (omega arith, at.1)))
    ])
    gathered
