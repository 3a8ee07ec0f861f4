-- Where an order meets a history, each prefix of it has an order.
use Rattle.std.proofs.Common.{◌≡◌, ℕ, ◌+◌, ◌-◌, ◌<◌, ◌≤◌, zero, suc, List, [], ◌∷◌, ◌++◌, Some, Bool, length, get_or, take, eqb, cond, arith, refl, ap, sym, ◌∙◌, subst, inl, inr}
use Rattle.std.specs.Prelude.{if◌then◌else◌, ◌==◌}
use Rattle.std.specs.List.{slice_get, count_by}
use Rattle.std.proofs.lemmas.List.{take_all}
use Rattle.std.proofs.lemmas.List.Sums.{sum_by-cons}
use Rattle.std.proofs.lemmas.List.Elements.{All-contains}
use Rattle.std.proofs.lemmas.Option.{slice_get_cases}
use Rattle.std.proofs.lemmas.Bool.{cases_eq, cases_lt, cases_Bool}
use Rattle.std.proofs.lemmas.Bool.Decides.{nat_tests}
use Rattle.graph_base.specs.Order.{HoldsEachOnce, place_of}
use Rattle.graph_base.proofs.Places.{Contains-from_place, count_by-absent, place_of-le, count_by-push}
use Rattle.graph_base.proofs.Fronts.{count_found}
use Rattle.history_core.specs.declared.event.Event.{Event}
use Rattle.history_core.specs.Events.{begun, is_begin}
use Rattle.history_core.specs.Relations.{Meets, IsConsistent}
use Rattle.history_core.proofs.Prefixes.{IsSound}
use Rattle.saturation.proofs.After.{precedes_kept, demands_kept}
use Rattle.saturation.proofs.Decides.{forced_range}
use Rattle.order_test.specs.Settled.{IsOrderly}
use Rattle.order_test.proofs.PastSteps.{sound_from}

-- ---- an order without one number

abbrev without : ℕ → List ℕ → List ℕ
without n [] = []
without n (x ∷ xs) = if x == n then without n xs else x ∷ without n xs

counts : (x : ℕ) (xs : List ℕ) (m : ℕ) → count_by (λ k. eqb k m) (x ∷ xs) ≡ cond (eqb x m) 1 0 + count_by (λ k. eqb k m) xs
counts x xs m = sum_by-cons (λ k. cond (eqb k m) 1 0) x xs

none_left : (n : ℕ) (xs : List ℕ) → count_by (λ k. eqb k n) (without n xs) ≡ 0
none_left n [] = refl
none_left n (x ∷ xs) =
    let sum = counts x (without n xs) n in
    grind (arith, nat_tests, sum, none_left n xs)

others_left : (n m : ℕ) (xs : List ℕ) → (m ≡ n → ⊥) → count_by (λ k. eqb k m) (without n xs) ≡ count_by (λ k. eqb k m) xs
others_left n m [] apart = refl
others_left n m (x ∷ xs) apart =
    let before = counts x xs m in
    let after = counts x (without n xs) m in
    let rest = others_left n m xs apart in
    grind (arith, nat_tests, before, after, rest, apart)

places_left :
    (n a b : ℕ) (xs : List ℕ) → (a ≡ n → ⊥) → (b ≡ n → ⊥) → place_of xs a < place_of xs b → place_of (without n xs) a < place_of (without n xs) b
places_left n a b [] apart_a apart_b less = less
places_left n a b (x ∷ xs) apart_a apart_b less = grind (arith, nat_tests, places_left n a b xs, apart_a, apart_b)

first_left : (n : ℕ) (xs : List ℕ) → 0 < n → slice_get xs 0 ≡ Some 0 → slice_get (without n xs) 0 ≡ Some 0
first_left n [] positive is = cc
first_left n (x ∷ xs) positive is =
    let both : Some x ≡ Some 0 = is in
    let zero_is : x ≡ 0 = cc in
    grind (arith, nat_tests, zero_is)

holds_left : (n : ℕ) (xs : List ℕ) → HoldsEachOnce (n + 1) xs → HoldsEachOnce n (without n xs)
holds_left n xs holds = record {
  below = λ k d within.
      let m : ℕ = get_or (without n xs) k d in
      let some : 1 ≤ count_by (λ j. eqb j m) (without n xs) = count_found (without n xs) k m d within refl in
      elim (cases_eq m n) [
        | inl same ↦
            let none : count_by (λ j. eqb j m) (without n xs) ≡ 0 = subst (λ (i : ℕ). count_by (λ j. eqb j i) (without n xs) ≡ 0) (sym same) (none_left n xs) in
            absurd (omega arith)
        | inr apart ↦
            let one = others_left n m xs apart in
            elim (cases_lt (place_of xs m) (length xs)) [
              | inl found ↦
                  let h : m < n + 1 = All-contains (λ i. i < n + 1) xs m holds.below (Contains-from_place xs m found) in omega arith
              | inr past ↦
                  let le = place_of-le xs m in
                  let none : count_by (λ j. eqb j m) xs ≡ 0 = count_by-absent xs m (omega arith) in
                  absurd (omega arith)
            ]
      ];
  once = λ m small. others_left n m xs (λ same. absurd (omega arith)) ∙ holds.once m (omega arith);
}

-- ---- one event less

step_back : (events : List Event) (e : Event) (order : List ℕ) → IsSound events → Meets (events ++ e ∷ []) order → IsConsistent events
step_back events e order sound meets =
    let more : begun (events ++ e ∷ []) ≡ begun events + cond (is_begin e) 1 0 = count_by-push is_begin events e in
    elim (cases_Bool (is_begin e)) [
      | inl begins ↦
          let n : ℕ = begun events + 1 in
          let size : begun (events ++ e ∷ []) ≡ n = more ∙ ap (λ (b : Bool). begun events + cond b 1 0) begins in
          let holds : HoldsEachOnce (n + 1) order = subst (λ (m : ℕ). HoldsEachOnce (m + 1) order) size meets.holds in (
            without n order,
            record {
              holds = holds_left n order holds;
              first = first_left n order (omega arith) meets.first;
              precedes = λ a b p.
                  let range = forced_range events sound a b (inl p) in
                  let x = range.0 in
                  let y = range.1 in
                  places_left n a b order (λ same. absurd (omega arith)) (λ same. absurd (omega arith)) (meets.precedes a b (precedes_kept events e a b p));
              demands = λ a b d.
                  let range = forced_range events sound a b (inr d) in
                  let x = range.0 in
                  let y = range.1 in
                  places_left n a b order (λ same. absurd (omega arith)) (λ same. absurd (omega arith)) (meets.demands a b (demands_kept events e a b d));
            },
          )
      | inr other ↦
          let size : begun (events ++ e ∷ []) ≡ begun events + 0 = more ∙ ap (λ (b : Bool). begun events + cond b 1 0) other in (
            order,
            record {
              holds = subst (λ (m : ℕ). HoldsEachOnce m order) (omega arith) meets.holds;
              first = meets.first;
              precedes = λ a b p. meets.precedes a b (precedes_kept events e a b p);
              demands = λ a b d. meets.demands a b (demands_kept events e a b d);
            },
          )
    ]

take_next : (xs : List Event) (n : ℕ) (x : Event) → slice_get xs n ≡ Some x → take (n + 1) xs ≡ take n xs ++ x ∷ []
take_next [] n x is = cc
take_next (y ∷ ys) zero x is = let same : y ≡ x = cc in ap (λ (z : Event). z ∷ []) same
take_next (y ∷ ys) (suc n) x is =
    let number : suc n + 1 ≡ suc (n + 1) = omega arith in
    ap (λ (m : ℕ). take m (y ∷ ys)) number ∙ ap (λ (zs : List Event). y ∷ zs) (take_next ys n x is)

back_from : (events : List Event) → IsOrderly events → IsConsistent events → (n k : ℕ) → k + n ≡ length events → IsConsistent (take k events)
back_from events orderly whole zero k long = subst (λ (xs : List Event). IsConsistent xs) (sym (take_all k events (omega arith))) whole
back_from events orderly whole (suc n) k long =
    elim (slice_get_cases events k).1 [
      | inl found ↦
          let is : slice_get events k ≡ Some found.0 = found.2 in
          let longer : IsConsistent (take (k + 1) events) = back_from events orderly whole n (k + 1) (omega arith) in
          let next : IsConsistent (take k events ++ found.0 ∷ []) = subst (λ (xs : List Event). IsConsistent xs) (take_next events k found.0 is) longer in
          step_back (take k events) found.0 next.0 (sound_from (take k events) (orderly k found.0 is).settled) next.1
      | inr none ↦ let h = none.0 in absurd (omega arith)
    ]

pub prefixes_consistent : (events : List Event) (order : List ℕ) (k : ℕ) → IsOrderly events → Meets events order → IsConsistent (take k events)
prefixes_consistent events order k orderly meets =
    elim (cases_lt k (length events)) [
      | inl inside ↦
          let rest : ℕ = length events - k in
          back_from events orderly (order, meets) rest k (omega arith)
      | inr beyond ↦ subst (λ (xs : List Event). IsConsistent xs) (sym (take_all k events (omega arith))) (order, meets)
    ]
