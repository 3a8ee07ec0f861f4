-- Numbers that rise, as one is put in or taken out.
use Rattle.std.proofs.Common.{◌≡◌, ℕ, ◌+◌, ◌-◌, ◌<◌, ◌≤◌, List, Ok, Err, Result, length, get_or, zero, suc, arith, refl, ap, sym, ◌∙◌, subst, inl, inr}
use Rattle.std.specs.List.{Contains, insert, remove}
use Rattle.std.specs.Ordering.{nat_cmp}
use Rattle.std.specs.Result.{MatchResult}
use Rattle.std.specs.List.Sorted.{IsStrictlyIncreasing, IsBinarySearchResult}
use Rattle.std.proofs.lemmas.List.{get_or_default}
use Rattle.std.proofs.lemmas.List.Sorted.{searched}
use Rattle.std.proofs.lemmas.List.Edits.{length-insert, length-remove, get_or-insert_at, get_or-insert_below, get_or-insert_above, get_or-remove_below, get_or-remove_above}
use Rattle.std.proofs.lemmas.Bool.{cases_lt, cases_order}
use Rattle.indexed_history.specs.Index.{GainsNumber, LosesNumber}

-- numbers that rise, at any two places
increasing_below :
    (xs : List ℕ) → IsStrictlyIncreasing xs → (i n : ℕ) → i + n + 1 < length xs → get_or xs i 0 < get_or xs (i + n + 1) 0
increasing_below xs rises i zero within =
    let at : i + zero + 1 ≡ i + 1 = omega arith in
    let step : get_or xs i 0 < get_or xs (i + 1) 0 = rises i (omega arith) in
    let same : get_or xs (i + zero + 1) 0 ≡ get_or xs (i + 1) 0 = ap (λ (k : ℕ). get_or xs k 0) at in
    omega arith
increasing_below xs rises i (suc n) within =
    let before : get_or xs i 0 < get_or xs (i + n + 1) 0 = increasing_below xs rises i n (omega arith) in
    let step : get_or xs (i + n + 1) 0 < get_or xs (i + n + 1 + 1) 0 = rises (i + n + 1) (omega arith) in
    let at : i + suc n + 1 ≡ i + n + 1 + 1 = omega arith in
    let same : get_or xs (i + suc n + 1) 0 ≡ get_or xs (i + n + 1 + 1) 0 = ap (λ (k : ℕ). get_or xs k 0) at in
    omega arith

pub increasing_less :
    (xs : List ℕ) → IsStrictlyIncreasing xs → (i j : ℕ) → i < j → j < length xs → get_or xs i 0 < get_or xs j 0
increasing_less xs rises i j less within =
    let at : i + (j - (i + 1)) + 1 ≡ j = omega arith in
    subst (λ (k : ℕ). get_or xs i 0 < get_or xs k 0) at (increasing_below xs rises i (j - (i + 1)) (omega arith))

rising : (xs : List ℕ) → IsStrictlyIncreasing xs → (i j : ℕ) → i ≤ j → j < length xs → get_or xs i 0 ≤ get_or xs j 0
rising xs rises i j less within = elim (cases_lt i j) [
  | inl below ↦ let h = increasing_less xs rises i j below within in omega arith
  | inr other ↦ let same : i ≡ j = omega arith in let values : get_or xs i 0 ≡ get_or xs j 0 = ap (λ (k : ℕ). get_or xs k 0) same in omega arith
]

-- positive numbers that rise are at least their places
pub increasing_few :
    (xs : List ℕ) → IsStrictlyIncreasing xs → ((k : ℕ) → k < length xs → 0 < get_or xs k 0) → (k : ℕ) → k < length xs → k + 1 ≤ get_or xs k 0
increasing_few xs rises positive zero within = let h = positive zero within in omega arith
increasing_few xs rises positive (suc k) within =
    let before : k + 1 ≤ get_or xs k 0 = increasing_few xs rises positive k (omega arith) in
    let step : get_or xs k 0 < get_or xs (k + 1) 0 = rises k (omega arith) in
    let same : get_or xs (suc k) 0 ≡ get_or xs (k + 1) 0 = ap (λ (i : ℕ). get_or xs i 0) (omega arith) in
    omega arith

-- what a search says of numbers that rise
pub found :
    (xs : List ℕ) (x : ℕ) (r : Result ℕ ℕ) → IsStrictlyIncreasing xs → IsBinarySearchResult (λ y. nat_cmp y x) xs r →
    MatchResult r (λ i. (i < length xs) × (get_or xs i 0 ≡ x)) (λ i. (i ≤ length xs) × ((k : ℕ) → k < i → get_or xs k 0 < x) × ((k : ℕ) → i ≤ k → k < length xs → x < get_or xs k 0))
found xs x r rises is = searched xs x r is (rising xs rises)

pub contains_get : (xs : List ℕ) (i x : ℕ) → i < length xs → get_or xs i 0 ≡ x → Contains xs x
contains_get xs i x within is = (i, within, get_or_default xs i x 0 within ∙ is)

pub get_contained : (xs : List ℕ) (x : ℕ) → Contains xs x → (i : ℕ) × (i < length xs) × (get_or xs i 0 ≡ x)
get_contained xs x (i, within, is) = (i, within, get_or_default xs i 0 x within ∙ is)

module _ (xs : List ℕ) (i x : ℕ) (rises : IsStrictlyIncreasing xs) (within : i ≤ length xs) (below : (k : ℕ) → k < i → get_or xs k 0 < x)
    (above : (k : ℕ) → i ≤ k → k < length xs → x < get_or xs k 0) where
  long : length (insert xs i x) ≡ length xs + 1
  long = length-insert xs i x within

  before : (k : ℕ) → k < i → get_or (insert xs i x) k 0 ≡ get_or xs k 0
  before k less = get_or-insert_below xs i x 0 k less within

  here : get_or (insert xs i x) i 0 ≡ x
  here = get_or-insert_at xs i x 0 within

  after : (k j : ℕ) → i ≤ k → j ≡ k + 1 → get_or (insert xs i x) j 0 ≡ get_or xs k 0
  after k j less is = ap (λ (n : ℕ). get_or (insert xs i x) n 0) is ∙ get_or-insert_above xs i x 0 k less within

  pub inserted_rises : IsStrictlyIncreasing (insert xs i x)
  inserted_rises k inside =
      let size = long in
      elim (cases_lt (k + 1) i) [
        | inl less ↦ let a = before k (omega arith) in let b = before (k + 1) less in let h = rises k (omega arith) in omega arith
        | inr more ↦ elim (cases_order (k + 1) i) [
          | inl same ↦
              let a = before k (omega arith) in
              let b : get_or (insert xs i x) (k + 1) 0 ≡ x = ap (λ (n : ℕ). get_or (insert xs i x) n 0) same ∙ here in
              let h = below k (omega arith) in omega arith
          | inr apart ↦ elim (cases_order k i) [
            | inl same ↦
                let a : get_or (insert xs i x) k 0 ≡ x = ap (λ (n : ℕ). get_or (insert xs i x) n 0) same ∙ here in
                let b = after k (k + 1) (omega arith) refl in
                let h = above k (omega arith) (omega arith) in omega arith
            | inr other ↦
                let past : i < k = elim other [ inl less ↦ elim apart [ inl less ↦ omega arith | inr up ↦ omega arith ] | inr up ↦ up ] in
                let back : k ≡ (k - 1) + 1 = omega arith in
                let a = after (k - 1) k (omega arith) back in
                let b = after k (k + 1) (omega arith) refl in
                let step : get_or xs (k - 1) 0 < get_or xs ((k - 1) + 1) 0 = rises (k - 1) (omega arith) in
                let same : get_or xs ((k - 1) + 1) 0 ≡ get_or xs k 0 = ap (λ (n : ℕ). get_or xs n 0) (sym back) in
                omega arith
          ]
        ]
      ]

  pub inserted_gains : GainsNumber xs x (insert xs i x)
  inserted_gains other = (
    λ there.
        let at = get_contained (insert xs i x) other there in
        let size = long in
        let inside = at.1 in
        elim (cases_lt at.0 i) [
          | inl less ↦ inl (contains_get xs at.0 other (omega arith) (sym (before at.0 less) ∙ at.2))
          | inr more ↦ elim (cases_order at.0 i) [
            | inl same ↦ inr (sym at.2 ∙ ap (λ (n : ℕ). get_or (insert xs i x) n 0) same ∙ here)
            | inr apart ↦
                let past : i < at.0 = elim apart [ inl less ↦ absurd (omega arith) | inr up ↦ up ] in
                inl (contains_get xs (at.0 - 1) other (omega arith) (sym (after (at.0 - 1) at.0 (omega arith) (omega arith)) ∙ at.2))
          ]
        ],
    λ either. elim either [
      | inl there ↦
          let at = get_contained xs other there in
          let size = long in
          let inside = at.1 in
          elim (cases_lt at.0 i) [
            | inl less ↦ contains_get (insert xs i x) at.0 other (omega arith) (before at.0 less ∙ at.2)
            | inr more ↦ contains_get (insert xs i x) (at.0 + 1) other (omega arith) (after at.0 (at.0 + 1) (omega arith) refl ∙ at.2)
          ]
      | inr same ↦ let size = long in contains_get (insert xs i x) i other (omega arith) (here ∙ sym same)
    ],
  )

module _ (xs : List ℕ) (i x : ℕ) (rises : IsStrictlyIncreasing xs) (within : i < length xs) (is : get_or xs i 0 ≡ x) where
  short : length (remove xs i) + 1 ≡ length xs
  short = length-remove xs i within

  first : (k : ℕ) → k < i → get_or (remove xs i) k 0 ≡ get_or xs k 0
  first k less = get_or-remove_below xs i 0 k less within

  last : (k : ℕ) → i ≤ k → get_or (remove xs i) k 0 ≡ get_or xs (k + 1) 0
  last k less = get_or-remove_above xs i 0 k less within

  pub removed_rises : IsStrictlyIncreasing (remove xs i)
  removed_rises k inside =
      let size = short in
      elim (cases_lt (k + 1) i) [
        | inl less ↦ let a = first k (omega arith) in let b = first (k + 1) less in let h = rises k (omega arith) in omega arith
        | inr more ↦ elim (cases_lt k i) [
          | inl less ↦
              let a = first k less in let b = last (k + 1) (omega arith) in
              let h = increasing_less xs rises k (k + 1 + 1) (omega arith) (omega arith) in omega arith
          | inr other ↦
              let a = last k (omega arith) in let b = last (k + 1) (omega arith) in let h = rises (k + 1) (omega arith) in omega arith
        ]
      ]

  pub removed_loses : LosesNumber xs x (remove xs i)
  removed_loses other = (
    λ there.
        let at = get_contained (remove xs i) other there in
        let size = short in
        let inside = at.1 in
        elim (cases_lt at.0 i) [
          | inl less ↦
              let same = first at.0 less in
              let h = increasing_less xs rises at.0 i less within in
              let value = at.2 in
              (contains_get xs at.0 other (omega arith) (sym (first at.0 less) ∙ at.2), λ (e : other ≡ x). absurd (omega arith))
          | inr more ↦
              let same = last at.0 (omega arith) in
              let h = increasing_less xs rises i (at.0 + 1) (omega arith) (omega arith) in
              let value = at.2 in
              (contains_get xs (at.0 + 1) other (omega arith) (sym (last at.0 (omega arith)) ∙ at.2), λ (e : other ≡ x). absurd (omega arith))
        ],
    λ both.
        let at = get_contained xs other both.0 in
        let size = short in
        let inside = at.1 in
        elim (cases_order at.0 i) [
          | inl same ↦ absurd (both.1 (sym at.2 ∙ ap (λ (n : ℕ). get_or xs n 0) same ∙ is))
          | inr apart ↦ elim apart [
            | inl less ↦ contains_get (remove xs i) at.0 other (omega arith) (first at.0 less ∙ at.2)
            | inr up ↦
                let back : (at.0 - 1) + 1 ≡ at.0 = omega arith in
                contains_get (remove xs i) (at.0 - 1) other (omega arith) (last (at.0 - 1) (omega arith) ∙ ap (λ (n : ℕ). get_or xs n 0) back ∙ at.2)
          ]
        ],
  )

-- a number that isn't found isn't there
pub not_found :
    (xs : List ℕ) (i x : ℕ) → ((k : ℕ) → k < i → get_or xs k 0 < x) → ((k : ℕ) → i ≤ k → k < length xs → x < get_or xs k 0) → Contains xs x → ⊥
not_found xs i x below above there =
    let at = get_contained xs x there in
    let inside = at.1 in let value = at.2 in
    elim (cases_lt at.0 i) [
      | inl less ↦ let h = below at.0 less in omega arith
      | inr more ↦ let h = above at.0 (omega arith) inside in omega arith
    ]

pub loses_none : (xs : List ℕ) (x : ℕ) → (Contains xs x → ⊥) → LosesNumber xs x xs
loses_none xs x none other = (λ there. (there, λ (e : other ≡ x). none (subst (λ (n : ℕ). Contains xs n) e there)), λ both. both.0)

pub gains_none : (xs : List ℕ) (i x : ℕ) → i < length xs → get_or xs i 0 ≡ x → GainsNumber xs x xs
gains_none xs i x within is other = (
  λ there. inl there,
  λ either. elim either [ inl there ↦ there | inr same ↦ contains_get xs i other within (is ∙ sym same) ],
)

-- what a search in the same numbers found, and what it didn't
pub found_ok :
    (xs ys : List ℕ) (x i : ℕ) (r : Result ℕ ℕ) → ys ≡ xs → IsStrictlyIncreasing xs → IsBinarySearchResult (λ y. nat_cmp y x) ys r → r ≡ Ok i →
    (i < length xs) × (get_or xs i 0 ≡ x)
found_ok xs ys x i r same rises is at =
    subst (λ (s : Result ℕ ℕ). MatchResult s (λ i. (i < length xs) × (get_or xs i 0 ≡ x)) (λ i. (i ≤ length xs) × ((k : ℕ) → k < i → get_or xs k 0 < x) × ((k : ℕ) → i ≤ k → k < length xs → x < get_or xs k 0))) at
    (found xs x r rises (subst (λ (zs : List ℕ). IsBinarySearchResult (λ y. nat_cmp y x) zs r) same is))

pub found_err :
    (xs ys : List ℕ) (x i : ℕ) (r : Result ℕ ℕ) → ys ≡ xs → IsStrictlyIncreasing xs → IsBinarySearchResult (λ y. nat_cmp y x) ys r → r ≡ Err i →
    (i ≤ length xs) × ((k : ℕ) → k < i → get_or xs k 0 < x) × ((k : ℕ) → i ≤ k → k < length xs → x < get_or xs k 0)
found_err xs ys x i r same rises is at =
    subst (λ (s : Result ℕ ℕ). MatchResult s (λ i. (i < length xs) × (get_or xs i 0 ≡ x)) (λ i. (i ≤ length xs) × ((k : ℕ) → k < i → get_or xs k 0 < x) × ((k : ℕ) → i ≤ k → k < length xs → x < get_or xs k 0))) at
    (found xs x r rises (subst (λ (zs : List ℕ). IsBinarySearchResult (λ y. nat_cmp y x) zs r) same is))
