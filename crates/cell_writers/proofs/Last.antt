-- The last of numbers that rise, up to a limit.
use Rattle.std.proofs.Common.{◌≡◌, ℕ, ◌-◌, ◌<◌, ◌≤◌, List, length, get_or, arith, refl, ap, ◌∙◌, inl, inr}
use Rattle.std.specs.List.{Contains}
use Rattle.std.specs.List.Sorted.{IsStrictlyIncreasing}
use Rattle.std.proofs.lemmas.Bool.{cases_lt}
use Rattle.std.proofs.lemmas.List.{get_or_default}
use Rattle.indexed_history.proofs.Ascending.{increasing_less, contains_get}
use Rattle.cell_writers.specs.Writers.{IsLastUpTo, IsFirstAbove}

pub last_here : (numbers : List ℕ) (limit i : ℕ) → i < length numbers → get_or numbers i 0 ≡ limit → IsLastUpTo numbers limit limit
last_here numbers limit i within is = record { is = contains_get numbers i limit within is; within = omega arith; greatest = λ other there less. less }

pub last_before :
    (numbers : List ℕ) (limit at : ℕ) → IsStrictlyIncreasing numbers → IsFirstAbove numbers limit at → 0 < at → IsLastUpTo numbers limit (get_or numbers (at - 1) 0)
last_before numbers limit at rises place positive =
    let w = place.within in
    record {
      is = contains_get numbers (at - 1) (get_or numbers (at - 1) 0) (omega arith) refl;
      within = let h = place.below (at - 1) (omega arith) in omega arith;
      greatest = λ other (k, inside, is) less.
          let value : get_or numbers k 0 ≡ other = get_or_default numbers k 0 other inside ∙ is in
          elim (cases_lt k at) [
            | inl low ↦ elim (cases_lt k (at - 1)) [
              | inl lower ↦ let h = increasing_less numbers rises k (at - 1) lower (omega arith) in omega arith
              | inr not_lower ↦
                  let same : k ≡ at - 1 = omega arith in
                  let values : get_or numbers k 0 ≡ get_or numbers (at - 1) 0 = ap (λ (n : ℕ). get_or numbers n 0) same in omega arith
            ]
            | inr high ↦ let h = place.above k (omega arith) inside in absurd (omega arith)
          ];
    }

pub none_before : (numbers : List ℕ) (limit at : ℕ) → at ≡ 0 → IsFirstAbove numbers limit at → (other : ℕ) → Contains numbers other → other ≤ limit → ⊥
none_before numbers limit at none place other (k, inside, is) less =
    let value : get_or numbers k 0 ≡ other = get_or_default numbers k 0 other inside ∙ is in
    let h = place.above k (omega arith) inside in omega arith
