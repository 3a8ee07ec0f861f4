-- It can't be that no list is the offer.
use Rattle.std.proofs.Common.{◌≡◌, ℕ, ◌+◌, ◌<◌, zero, suc, List, [], ◌∷◌, ◌++◌, length, get_or, arith, sym, subst, inl, inr, ◌↔◌}
use Rattle.std.specs.List.{Contains}
use Rattle.std.specs.List.Sorted.{IsStrictlyIncreasing}
use Rattle.std.proofs.lemmas.List.{length_push, get_or_append_left, get_or_push}
use Rattle.std.proofs.lemmas.List.Elements.{Contains-push_cases, Contains-append_left, Contains-push, Contains-get_or}
use Rattle.std.proofs.lemmas.Bool.{cases_eq, cases_lt}
use Rattle.cell_base.specs.declared.cell.Cell.{Cell}
use Rattle.history_core.specs.declared.event.Event.{Event}
use Rattle.history_core.specs.Events.{begun}
use Rattle.history_core.specs.Legal.{IsPermitted}
use Rattle.history_core.proofs.Offers.{writer_bounded}
use Rattle.level_laws.specs.Shown.{SomeOffer}

-- a higher number at the end
increasing_push : (xs : List ℕ) (x : ℕ) → IsStrictlyIncreasing xs → ((y : ℕ) → Contains xs y → y < x) → IsStrictlyIncreasing (xs ++ x ∷ [])
increasing_push xs x ascending above k within =
    let long : length (xs ++ x ∷ []) ≡ length xs + 1 = length_push xs x in
    let old : (i : ℕ) → i < length xs → get_or (xs ++ x ∷ []) i 0 ≡ get_or xs i 0 = λ i small. get_or_append_left xs (x ∷ []) 0 i small in
    elim (cases_lt (k + 1) (length xs)) [
      | inl inside ↦
          let a = old k (omega arith) in let b = old (k + 1) inside in
          let h : get_or xs k 0 < get_or xs (k + 1) 0 = ascending k inside in omega arith
      | inr last ↦
          let at : k + 1 ≡ length xs = omega arith in
          let a = old k (omega arith) in
          let b : get_or (xs ++ x ∷ []) (k + 1) 0 ≡ x = get_or_push xs x 0 (k + 1) (sym at) in
          let h = above (get_or xs k 0) (Contains-get_or xs k 0 (omega arith)) in omega arith
    ]

-- the list has exactly the numbers below the bound that have the property, ascending
record HasThoseBelow (P : ℕ → Type 0) (bound : ℕ) (xs : List ℕ) : Type 0 where
  ascending : IsStrictlyIncreasing xs
  exact : (n : ℕ) → Contains xs n ↔ ((n < bound) × P n)

-- it can't be that there is none, where no test of the property is at hand
some_list : (P : ℕ → Type 0) (bound : ℕ) → ((xs : List ℕ) → HasThoseBelow P bound xs → ⊥) → ⊥
some_list P zero none = none [] record {
  ascending = λ k within. absurd (omega arith);
  exact = λ n. (λ there. let h = there.1 in absurd (omega arith), λ both. let h = both.0 in absurd (omega arith));
}
some_list P (suc bound) none =
    some_list P bound (λ xs has.
    let without : P bound → ⊥ = λ holds. none (xs ++ bound ∷ []) record {
      ascending = increasing_push xs bound has.ascending (λ y there. ((has.exact y).0 there).0);
      exact = λ n. (
        λ there. elim (Contains-push_cases xs bound n there) [
          | inl before ↦ let both = (has.exact n).0 before in let low = both.0 in (omega arith, both.1)
          | inr last ↦ (omega arith, subst (λ (m : ℕ). P m) last holds)
        ],
        λ both. elim (cases_eq bound n) [
          | inl same ↦ subst (λ (m : ℕ). Contains (xs ++ bound ∷ []) m) same (Contains-push xs bound)
          | inr apart ↦ let low = both.0 in Contains-append_left xs (bound ∷ []) n ((has.exact n).1 (omega arith, both.1))
        ],
      );
    } in
    none xs record {
      ascending = has.ascending;
      exact = λ n. (
        λ there. let both = (has.exact n).0 there in let low = both.0 in (omega arith, both.1),
        λ both. elim (cases_eq bound n) [
          | inl same ↦ absurd (without (subst (λ (m : ℕ). P m) (sym same) both.1))
          | inr apart ↦ let low = both.0 in (has.exact n).1 (omega arith, both.1)
        ],
      );
    })

pub some_offer : (events : List Event) (s : ℕ) (x : Cell) → SomeOffer events s x
some_offer events s x none =
    some_list (λ n. IsPermitted events s x n) (begun events + 1) (λ offer has. none offer record {
      ascending = has.ascending;
      exact = λ n. (
        λ there. ((has.exact n).0 there).1,
        λ permitted. (has.exact n).1 (writer_bounded events n x permitted.0, permitted),
      );
    })
