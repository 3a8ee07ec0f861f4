-- How many transactions write a cell.
use Rattle.std.proofs.Common.{◌≡◌, ℕ, ◌+◌, ◌<◌, ◌≤◌, zero, suc, List, length, get_or, arith, refl, ap, ◌∙◌, inl, inr}
use Rattle.std.specs.List.{Contains}
use Rattle.std.specs.List.Sorted.{IsStrictlyIncreasing}
use Rattle.std.proofs.lemmas.List.{get_or_default}
use Rattle.std.proofs.lemmas.List.Elements.{Contains-get_or}
use Rattle.std.proofs.lemmas.List.Kept.{AllPairs-from_increasing}
use Rattle.std.proofs.lemmas.Bool.{cases_order}
use Rattle.cell_base.specs.declared.cell.Cell.{Cell}
use Rattle.history_core.specs.declared.event.Event.{Event}
use Rattle.history_check.specs.Rules.{HasCandidates}

-- of two lists that rise, the one whose members the other has is the shorter one
record StandsUpTo (ys : List ℕ) (x k : ℕ) : Type 0 where
  place : ℕ
  within : place < length ys
  is : get_or ys place 0 ≡ x
  upto : k ≤ place

stands_up :
    (xs ys : List ℕ) → IsStrictlyIncreasing xs → IsStrictlyIncreasing ys → ((x : ℕ) → Contains xs x → Contains ys x) →
    (k : ℕ) → k < length xs → StandsUpTo ys (get_or xs k 0) k
stands_up xs ys rise_x rise_y has k within = of k within
  where
    found : (k : ℕ) → k < length xs → (j : ℕ) × ((j < length ys) × (get_or ys j 0 ≡ get_or xs k 0))
    found k within =
        let x = get_or xs k 0 in
        let h = has x (Contains-get_or xs k 0 within) in
        (h.0, (h.1, get_or_default ys h.0 0 x h.1 ∙ h.2))

    of : (k : ℕ) → k < length xs → StandsUpTo ys (get_or xs k 0) k
    of zero within = let f = found zero within in record { place = f.0; within = f.1.0; is = f.1.1; upto = omega arith }
    of (suc k) within =
        let before = of k (omega arith) in
        let f = found (suc k) within in
        let less : get_or xs k 0 < get_or xs (k + 1) 0 = rise_x k (omega arith) in
        let number : k + 1 ≡ suc k = omega arith in
        let same : get_or xs (k + 1) 0 ≡ get_or xs (suc k) 0 = ap (λ (n : ℕ). get_or xs n 0) number in
        let b = before.is in let w = before.within in let u = before.upto in let g = f.1.1 in let gw = f.1.0 in
        elim (cases_order f.0 before.place) [
          | inl at ↦ let e : get_or ys f.0 0 ≡ get_or ys before.place 0 = ap (λ (n : ℕ). get_or ys n 0) at in absurd (omega arith)
          | inr apart ↦ elim apart [
            | inl low ↦
                let pair : get_or ys f.0 0 < get_or ys before.place 0 = AllPairs-from_increasing ys rise_y f.0 before.place 0 low before.within in
                absurd (omega arith)
            | inr high ↦ record { place = f.0; within = f.1.0; is = f.1.1; upto = omega arith }
          ]
        ]

pub rising_short : (xs ys : List ℕ) → IsStrictlyIncreasing xs → IsStrictlyIncreasing ys → ((x : ℕ) → Contains xs x → Contains ys x) → length xs ≤ length ys
rising_short xs ys rise_x rise_y has = of (length xs) refl
  where
    of : (n : ℕ) → length xs ≡ n → length xs ≤ length ys
    of zero none = omega arith
    of (suc n) some =
        let last = stands_up xs ys rise_x rise_y has n (omega arith) in
        let w = last.within in let u = last.upto in omega arith

-- so they are so many
pub candidates_unique : (events : List Event) (cell : Cell) (n m : ℕ) → HasCandidates events cell n → HasCandidates events cell m → n ≡ m
candidates_unique events cell n m first second =
    let a = rising_short first.0 second.0 first.1.ascending second.1.ascending (λ x member. (second.1.exact x).1 ((first.1.exact x).0 member)) in
    let b = rising_short second.0 first.0 second.1.ascending first.1.ascending (λ x member. (first.1.exact x).1 ((second.1.exact x).0 member)) in
    let e = first.2 in let f = second.2 in
    omega arith
