-- The places of the numbers of an order.
use Rattle.std.proofs.Common.{◌≡◌, ℕ, ◌+◌, ◌<◌, suc, List, [], ◌∷◌, Some, length, get_or, get_or-set_same, get_or-set_other, set, drop, drop-cons, replicate, arith, ap, sym, ◌∙◌, subst, inl, inr}
use Rattle.std.specs.List.{slice_get}
use Rattle.std.proofs.lemmas.List.{length-set, drop_all, length-replicate, get_or-replicate}
use Rattle.std.proofs.lemmas.Option.{slice_get_within, get_or_from_slice_get, slice_get-get_or}
use Rattle.std.proofs.lemmas.Bool.{cases_eq}
use Rattle.std.proofs.lemmas.Bool.Decides.{nat_tests}
use Rattle.graph_base.specs.Order.{place_of}
use Rattle.graph_base.proofs.Fronts.{place_of-once, once_from_fresh, front_place, length_from_once}
use Rattle.order_test.specs.Unkept.{HoldsAll}
use Rattle.order_test.specs.Places.{AreBelow, ArePlaces, StandOnce}

-- the places of the numbers in what stands from here on
pub record ArePlacesFrom (size : ℕ) (order places : List ℕ) (at : ℕ) : Type 0 where
  pub count : length places ≡ size
  pub each : (n : ℕ) → n < size → get_or places n 0 ≡ at + place_of (drop at order) n

pub places_none : (size : ℕ) (order : List ℕ) → ArePlacesFrom size order (replicate size (length order)) (length order)
places_none size order =
    let all : drop (length order) order ≡ [] = drop_all (length order) order (omega arith) in
    record {
      count = length-replicate size (length order);
      each = λ n small.
          let is : get_or (replicate size (length order)) n 0 ≡ length order = get_or-replicate size n (length order) 0 small in
          let end : place_of (drop (length order) order) n ≡ 0 = ap (λ (xs : List ℕ). place_of xs n) all in
          omega arith;
    }

drop_next : (xs : List ℕ) (at n : ℕ) → at < length xs → get_or xs at 0 ≡ n → drop at xs ≡ n ∷ drop (at + 1) xs
drop_next xs at n within is =
    let number : at + 1 ≡ suc at = omega arith in
    drop-cons xs at 0 within ∙ ap (λ (m : ℕ). m ∷ drop (suc at) xs) is ∙ ap (λ (k : ℕ). n ∷ drop k xs) (sym number)

pub places_step :
    (size : ℕ) (order places : List ℕ) (at n : ℕ) → at < length order → get_or order at 0 ≡ n → n < size → ArePlacesFrom size order places (at + 1) →
    ArePlacesFrom size order (set places n at) at
places_step size order places at n within is small are =
    let front : drop at order ≡ n ∷ drop (at + 1) order = drop_next order at n within is in
    let inside : n < length places = let c = are.count in omega arith in
    record {
      count = length-set places n at ∙ are.count;
      each = λ m low.
          let place : place_of (drop at order) m ≡ place_of (n ∷ drop (at + 1) order) m = ap (λ (xs : List ℕ). place_of xs m) front in
          elim (cases_eq m n) [
            | inl same ↦
                let set_to : get_or (set places n at) m 0 ≡ at = ap (λ (i : ℕ). get_or (set places n at) i 0) same ∙ get_or-set_same places n at 0 inside in
                let here : place_of (n ∷ drop (at + 1) order) m ≡ 0 = grind (arith, nat_tests) in
                omega arith
            | inr other ↦
                let kept : get_or (set places n at) m 0 ≡ get_or places m 0 = get_or-set_other places n m at 0 other in
                let later : place_of (n ∷ drop (at + 1) order) m ≡ suc (place_of (drop (at + 1) order) m) = grind (arith, nat_tests) in
                let h = are.each m low in
                omega arith
          ];
    }

pub places_all : (size : ℕ) (order places : List ℕ) → ArePlacesFrom size order places 0 → ArePlaces size order places
places_all size order places are = record { count = are.count; each = λ n small. let h = are.each n small in omega arith }

-- ---- each number stands where it stands first

abbrev pub StandOnceBelow : List ℕ → ℕ → Type 0
StandOnceBelow order at = (k n : ℕ) → k < at → slice_get order k ≡ Some n → place_of order n ≡ k

pub once_step : (order : List ℕ) (at m : ℕ) → slice_get order at ≡ Some m → place_of order m ≡ at → StandOnceBelow order at → StandOnceBelow order (at + 1)
once_step order at m is here before k n under there =
    elim (cases_eq k at) [
      | inr other ↦ before k n (omega arith) there
      | inl same ↦
          let both : Some n ≡ Some m = sym there ∙ ap (λ (i : ℕ). slice_get order i) same ∙ is in
          let one : n ≡ m = cc in
          ap (λ (i : ℕ). place_of order i) one ∙ here ∙ sym same
    ]

-- then the order holds each number once
pub holds_from_once : (size : ℕ) (order : List ℕ) → length order ≡ size → AreBelow size order → slice_get order 0 ≡ Some 0 → StandOnce order → HoldsAll size order
holds_from_once size order long below first once = record {
  once = once_from_fresh size order
      (λ k small member.
      let early : place_of order (get_or order k 0) < k = front_place order k (get_or order k 0) (omega arith) member in
      let here : place_of order (get_or order k 0) ≡ k = once k (get_or order k 0) (slice_get-get_or order k 0 small) in
      omega arith)
      long below;
  first = first;
}

pub once_from_holds : (size : ℕ) (order : List ℕ) → HoldsAll size order → StandOnce order
once_from_holds size order holds k n is =
    let within : k < length order = slice_get_within order k n is in
    let read : get_or order k 0 ≡ n = get_or_from_slice_get order k n 0 is in
    place_of-once order k n 0 within read (holds.once.once n (subst (λ (m : ℕ). m < size) read (holds.once.below k 0 within)))

-- an order that holds each number below a size has as many, so it holds each below its own length
pub holds_own : (size : ℕ) (order : List ℕ) → HoldsAll size order → HoldsAll (length order) order
holds_own size order holds = subst (λ (n : ℕ). HoldsAll n order) (sym (length_from_once size order holds.once)) holds
