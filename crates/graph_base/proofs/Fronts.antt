-- What stands among the first items of a list, and lists that hold each number below a size once.
use Rattle.std.proofs.Common.{◌≡◌, ◌≢◌, ℕ, ◌+◌, ◌<◌, ◌≤◌, zero, suc, List, [], ◌∷◌, ◌⊎◌, length, get_or, take, eqb, cond, arith, refl, sym, ◌∙◌, subst, inl, inr}
use Rattle.std.specs.List.{Contains, All, AllPairs, count_by}
use Rattle.std.proofs.lemmas.Bool.{cases_eq, cases_lt, eqb-true}
use Rattle.std.proofs.lemmas.Bool.Decides.{Decides-eqb, nat_tests}
use Rattle.std.proofs.lemmas.Cmp.{nat_eq_equiv}
use Rattle.std.proofs.lemmas.List.{get_or-take, length-take-le, take_all, take_more_same, get_or_default}
use Rattle.std.proofs.lemmas.List.Elements.{All-contains}
use Rattle.std.proofs.lemmas.List.Kept.{AllPairs-cons}
use Rattle.std.proofs.lemmas.List.Sums.{sum_by-cons}
use Rattle.std.proofs.lemmas.Map.Made.{IsDistinct-from_AllPairs}
use Rattle.std.proofs.lemmas.Map.Steps.{length-le_from_distinct_below, le-length_from_below}
use Rattle.std.proofs.lemmas.Map.Views.{list_any-from_Contains, Contains-from_any}
use Rattle.graph_base.specs.Order.{place_of, HoldsEachOnce}
use Rattle.graph_base.proofs.Places.{get_or-place_of, place_of-first, Contains-from_place, count_by-absent, place_of-le}

-- ---- among the first k items

pub in_front : (xs : List ℕ) (k n : ℕ) → k ≤ length xs → place_of xs n < k → Contains (take k xs) n
in_front xs k n within below =
    let long : length (take k xs) ≡ k = length-take-le k xs within in
    let found : get_or xs (place_of xs n) n ≡ n = get_or-place_of xs n n (omega arith) in
    (place_of xs n, omega arith, get_or-take k xs (place_of xs n) n below ∙ found)

pub front_place : (xs : List ℕ) (k n : ℕ) → k ≤ length xs → Contains (take k xs) n → place_of xs n < k
front_place xs k n within (j, small, is) =
    let long : length (take k xs) ≡ k = length-take-le k xs within in
    let early : j < k = omega arith in
    let first : place_of xs n ≤ j = place_of-first xs j n n (omega arith) (sym (get_or-take k xs j n early) ∙ is) in
    omega arith

-- ---- no item stands among those before it

abbrev pub IsFresh : List ℕ → Type 0
IsFresh xs = (k : ℕ) → k < length xs → ¬ Contains (take k xs) (get_or xs k 0)

pub place_of-fresh : (xs : List ℕ) (k : ℕ) → IsFresh xs → k < length xs → place_of xs (get_or xs k 0) ≡ k
place_of-fresh xs k fresh small =
    let first : place_of xs (get_or xs k 0) ≤ k = place_of-first xs k (get_or xs k 0) 0 small refl in
    elim (cases_lt (place_of xs (get_or xs k 0)) k) [
      | inl earlier ↦ absurd (fresh k small (in_front xs k (get_or xs k 0) (omega arith) earlier))
      | inr same ↦ omega arith
    ]

count_by-cons : (x : ℕ) (xs : List ℕ) (n : ℕ) → count_by (λ m. eqb m n) (x ∷ xs) ≡ cond (eqb x n) 1 0 + count_by (λ m. eqb m n) xs
count_by-cons x xs n = sum_by-cons (λ m. cond (eqb m n) 1 0) x xs

pub count_found : (xs : List ℕ) (k n d : ℕ) → k < length xs → get_or xs k d ≡ n → 1 ≤ count_by (λ m. eqb m n) xs
count_found [] k n d small is = absurd (omega arith)
count_found (x ∷ xs) zero n d small is = let sum = count_by-cons x xs n in grind (arith, nat_tests, sum)
count_found (x ∷ xs) (suc k) n d small is =
    let sum = count_by-cons x xs n in
    grind (arith, nat_tests, sum, count_found xs k n d)

pub place_of-once :
    (xs : List ℕ) (k n d : ℕ) → k < length xs → get_or xs k d ≡ n → count_by (λ m. eqb m n) xs ≡ 1 → place_of xs n ≡ k
place_of-once [] k n d small is once = absurd (omega arith)
place_of-once (x ∷ xs) zero n d small is once = grind (arith, nat_tests)
place_of-once (x ∷ xs) (suc k) n d small is once =
    let sum = count_by-cons x xs n in
    let later : 1 ≤ count_by (λ m. eqb m n) xs = count_found xs k n d (omega arith) is in
    grind (arith, nat_tests, sum, later, place_of-once xs k n d)

pub fresh_tail : (x : ℕ) (xs : List ℕ) → IsFresh (x ∷ xs) → IsFresh xs
fresh_tail x xs fresh k small (j, below, is) = fresh (suc k) (omega arith) (suc j, omega arith, is)

pub fresh_head : (x : ℕ) (xs : List ℕ) → IsFresh (x ∷ xs) → place_of xs x ≡ length xs
fresh_head x xs fresh =
    elim (cases_lt (place_of xs x) (length xs)) [
      | inl found ↦
          let is : get_or xs (place_of xs x) 0 ≡ x = get_or-place_of xs x 0 found in
          absurd (fresh (suc (place_of xs x)) (omega arith) (0, omega arith, sym is))
      | inr past ↦ let le : place_of xs x ≤ length xs = place_of-le xs x in omega arith
    ]

pub count_fresh : (xs : List ℕ) (n : ℕ) → IsFresh xs → count_by (λ m. eqb m n) xs ≤ 1
count_fresh [] n fresh = omega arith
count_fresh (x ∷ xs) n fresh =
    let sum = count_by-cons x xs n in
    elim (cases_eq x n) [
      | inl same ↦
          let none : count_by (λ m. eqb m n) xs ≡ 0 =
          count_by-absent xs n (subst (λ (m : ℕ). place_of xs m ≡ length xs) same (fresh_head x xs fresh)) in
          grind (arith, nat_tests, sum, none, same)
      | inr other ↦
          let few : count_by (λ m. eqb m n) xs ≤ 1 = count_fresh xs n (fresh_tail x xs fresh) in
          grind (arith, nat_tests, sum, few, other)
    ]

pub fresh_pairs : (xs : List ℕ) → IsFresh xs → AllPairs (λ x y. x ≢ y) xs
fresh_pairs xs fresh i j d before small same =
    let long : length (take j xs) ≡ j = length-take-le j xs (omega arith) in
    let late : ℕ = get_or xs j 0 in
    let read : get_or xs i late ≡ late =
    get_or_default xs i late d (omega arith) ∙ same ∙ get_or_default xs j d 0 small in
    fresh j small (i, omega arith, get_or-take j xs i late before ∙ read)

-- ---- as many fresh numbers below a size as the size says are all of them

cons_below : (size n : ℕ) (xs : List ℕ) → n < size → All (λ m. m < size) xs → (q : ℕ) → Contains (n ∷ xs) q → q < size
cons_below size n xs small below q (zero, within, is) = subst (λ (m : ℕ). m < size) is small
cons_below size n xs small below q (suc k, within, is) = subst (λ (m : ℕ). m < size) is (below k q (omega arith))

absent : (n : ℕ) (xs : List ℕ) → length xs ≤ place_of xs n → All (λ x. n ≢ x) xs
absent n xs past k d within same =
    let first : place_of xs n ≤ k = place_of-first xs k n d within (sym same) in
    absurd (omega arith)

pub each_from_fresh :
    (size : ℕ) (xs : List ℕ) → IsFresh xs → length xs ≡ size → All (λ n. n < size) xs → (n : ℕ) → n < size → Contains xs n
each_from_fresh size xs fresh long below n small =
    elim (cases_lt (place_of xs n) (length xs)) [
      | inl found ↦ Contains-from_place xs n found
      | inr past ↦
          let more : length (n ∷ xs) ≤ size =
          length-le_from_distinct_below (n ∷ xs) size
          (IsDistinct-from_AllPairs Decides-eqb (n ∷ xs) (AllPairs-cons (λ x y. x ≢ y) n xs (absent n xs past) (fresh_pairs xs fresh)))
          (λ q found. cons_below size n xs small below q (Contains-from_any eqb-true q (n ∷ xs) found)) in
          absurd (omega arith)
    ]

pub once_from_fresh :
    (size : ℕ) (xs : List ℕ) → IsFresh xs → length xs ≡ size → All (λ n. n < size) xs → HoldsEachOnce size xs
once_from_fresh size xs fresh long below = record {
  below = below;
  once = λ n small.
      let member = each_from_fresh size xs fresh long below n small in
      let some : 1 ≤ count_by (λ m. eqb m n) xs = count_found xs member.0 n n member.1 member.2 in
      let few : count_by (λ m. eqb m n) xs ≤ 1 = count_fresh xs n fresh in
      omega arith;
}

pub fresh_from_once : (size : ℕ) (xs : List ℕ) → HoldsEachOnce size xs → IsFresh xs
fresh_from_once size xs holds k small member =
    let n : ℕ = get_or xs k 0 in
    let early : place_of xs n < k = front_place xs k n (omega arith) member in
    let here : place_of xs n ≡ k = place_of-once xs k n 0 small refl (holds.once n (holds.below k 0 small)) in
    omega arith

pub contains_from_once : (size : ℕ) (xs : List ℕ) → HoldsEachOnce size xs → (n : ℕ) → n < size → Contains xs n
contains_from_once size xs holds n small =
    elim (cases_lt (place_of xs n) (length xs)) [
      | inl found ↦ Contains-from_place xs n found
      | inr past ↦
          let le : place_of xs n ≤ length xs = place_of-le xs n in
          let none : count_by (λ m. eqb m n) xs ≡ 0 = count_by-absent xs n (omega arith) in
          let one : count_by (λ m. eqb m n) xs ≡ 1 = holds.once n small in
          absurd (omega arith)
    ]

pub length_from_once : (size : ℕ) (xs : List ℕ) → HoldsEachOnce size xs → length xs ≡ size
length_from_once size xs holds =
    let most : length xs ≤ size =
    length-le_from_distinct_below xs size
    (IsDistinct-from_AllPairs Decides-eqb xs (fresh_pairs xs (fresh_from_once size xs holds)))
    (λ q found. All-contains (λ m. m < size) xs q holds.below (Contains-from_any eqb-true q xs found)) in
    let least : size ≤ length xs =
    le-length_from_below xs size (λ q small. list_any-from_Contains nat_eq_equiv q xs (contains_from_once size xs holds q small)) in
    omega arith

-- ---- two lists of one length: they are one, or differ first at some place

pub record FirstDifference (xs ys : List ℕ) : Type 0 where
  pub place : ℕ
  pub within : place < length xs
  pub same : take place xs ≡ take place ys
  pub other : get_or xs place 0 ≢ get_or ys place 0

pub differ_up_to :
    (xs ys : List ℕ) (n : ℕ) → length xs ≡ length ys → n ≤ length xs → (take n xs ≡ take n ys) ⊎ FirstDifference xs ys
differ_up_to xs ys zero long within = inl refl
differ_up_to xs ys (suc n) long within =
    elim (differ_up_to xs ys n long (omega arith)) [
      | inr difference ↦ inr difference
      | inl same ↦ elim (cases_eq (get_or xs n 0) (get_or ys n 0)) [
        | inl item ↦
            let next : n + 1 ≡ suc n = omega arith in
            inl (subst (λ (m : ℕ). take m xs ≡ take m ys) next (take_more_same xs ys n 0 (omega arith) (omega arith) same item))
        | inr other ↦ inr record { place = n; within = omega arith; same = same; other = other }
      ]
    ]

pub differ : (xs ys : List ℕ) → length xs ≡ length ys → (xs ≡ ys) ⊎ FirstDifference xs ys
differ xs ys long =
    elim (differ_up_to xs ys (length xs) long (omega arith)) [
      | inr difference ↦ inr difference
      | inl same ↦ inl (sym (take_all (length xs) xs (omega arith)) ∙ same ∙ take_all (length xs) ys (omega arith))
    ]
