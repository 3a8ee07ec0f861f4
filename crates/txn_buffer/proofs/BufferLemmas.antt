-- One more value in a map, or another one.
use Rattle.std.proofs.Common.{◌≡◌, ℕ, ◌+◌, ◌<◌, zero, suc, List, [], ◌∷◌, ◌++◌, Some, length, get_or, set, arith, refl, ap, sym, ◌∙◌, subst, inl, inr}
use Rattle.std.specs.List.{slice_get, Contains}
use Rattle.std.proofs.lemmas.List.Elements.{Contains-push_cases, Contains-append_left, Contains-push}
use Rattle.std.proofs.lemmas.Option.{slice_get_within, slice_get-get_or, get_or_from_slice_get}
use Rattle.std.proofs.lemmas.List.{map-append}
use Rattle.std.proofs.lemmas.Bool.{cases_lt}
use Rattle.cell_base.specs.declared.cell.Cell.{Cell}
use Rattle.cell_base.specs.declared.value.Value.{Value}
use Rattle.txn_buffer.specs.Buffer.{IsMap, StandsAt, IsAbsent, Puts, KeepsOrder, cells_of}
use Rattle.txn_buffer.proofs.Lists.{slice_get_push_cases, slice_get-set_same, slice_get-set_other, slice_get-set_cases, contains_at, at_contains}

pub map_push : (xs : List (Cell × Value)) (cell : Cell) (value : Value) → IsMap xs → IsAbsent xs cell → IsMap (xs ++ (cell, value) ∷ [])
map_push xs cell value is absent i j a b at_i at_j same =
    elim (slice_get_push_cases xs (cell, value) i a at_i) [
      | inl old_i ↦ elim (slice_get_push_cases xs (cell, value) j b at_j) [
        | inl old_j ↦ is i j a b old_i.1 old_j.1 same
        | inr new_j ↦
            let cell_is : a.0 ≡ cell = same ∙ sym (ap (λ (p : Cell × Value). p.0) new_j.1) in
            absurd (absent a.1 (contains_at xs i (cell, a.1) (subst (λ (c : Cell). slice_get xs i ≡ Some (c, a.1)) cell_is old_i.1)))
      ]
      | inr new_i ↦ elim (slice_get_push_cases xs (cell, value) j b at_j) [
        | inl old_j ↦
            let cell_is : b.0 ≡ cell = sym same ∙ sym (ap (λ (p : Cell × Value). p.0) new_i.1) in
            absurd (absent b.1 (contains_at xs j (cell, b.1) (subst (λ (c : Cell). slice_get xs j ≡ Some (c, b.1)) cell_is old_j.1)))
        | inr new_j ↦ new_i.0 ∙ sym new_j.0
      ]
    ]

pub puts_push : (xs : List (Cell × Value)) (cell : Cell) (value : Value) → IsAbsent xs cell → Puts xs (xs ++ (cell, value) ∷ []) cell value
puts_push xs cell value absent x v = (
  λ member. elim (Contains-push_cases xs (cell, value) (x, v) member) [
    | inl old ↦ inr (λ same. absent v (subst (λ (c : Cell). Contains xs (c, v)) same old), old)
    | inr new ↦ inl (sym (ap (λ (p : Cell × Value). p.0) new), sym (ap (λ (p : Cell × Value). p.1) new))
  ],
  λ either. elim either [
    | inl same ↦
        subst (λ (c : Cell). Contains (xs ++ (cell, value) ∷ []) (c, v)) (sym same.0)
        (subst (λ (w : Value). Contains (xs ++ (cell, value) ∷ []) (cell, w)) (sym same.1) (Contains-push xs (cell, value)))
    | inr other ↦ Contains-append_left xs ((cell, value) ∷ []) (x, v) other.1
  ],
)

pub map_set :
    (xs : List (Cell × Value)) (cell : Cell) (value : Value) (at : ℕ) → IsMap xs → StandsAt xs cell at → IsMap (set xs at (cell, value))
map_set xs cell value at is there i j a b at_i at_j same =
    elim (slice_get-set_cases xs at i (cell, value) a at_i) [
      | inl here_i ↦ elim (slice_get-set_cases xs at j (cell, value) b at_j) [
        | inl here_j ↦ here_i.0 ∙ sym here_j.0
        | inr other_j ↦
            let cell_is : cell ≡ b.0 = ap (λ (p : Cell × Value). p.0) here_i.1 ∙ same in
            absurd (other_j.0 (sym (is at j (cell, there.value) b there.is other_j.1 cell_is)))
      ]
      | inr other_i ↦ elim (slice_get-set_cases xs at j (cell, value) b at_j) [
        | inl here_j ↦
            let cell_is : a.0 ≡ cell = same ∙ sym (ap (λ (p : Cell × Value). p.0) here_j.1) in
            absurd (other_i.0 (is i at a (cell, there.value) other_i.1 there.is cell_is))
        | inr other_j ↦ is i j a b other_i.1 other_j.1 same
      ]
    ]

pub puts_set :
    (xs : List (Cell × Value)) (cell : Cell) (value : Value) (at : ℕ) → IsMap xs → StandsAt xs cell at → Puts xs (set xs at (cell, value)) cell value
puts_set xs cell value at is there x v = (
  λ member.
      let found = at_contains (set xs at (cell, value)) (x, v) member in
      elim (slice_get-set_cases xs at found.0 (cell, value) (x, v) found.1) [
        | inl here ↦ inl (sym (ap (λ (p : Cell × Value). p.0) here.1), sym (ap (λ (p : Cell × Value). p.1) here.1))
        | inr other ↦ inr (
          λ same. other.0 (is found.0 at (x, v) (cell, there.value) other.1 there.is same),
          contains_at xs found.0 (x, v) other.1,
        )
      ],
  λ either.
      let within : at < length xs = slice_get_within xs at (cell, there.value) there.is in
      elim either [
        | inl same ↦
            subst (λ (c : Cell). Contains (set xs at (cell, value)) (c, v)) (sym same.0)
            (subst (λ (w : Value). Contains (set xs at (cell, value)) (cell, w)) (sym same.1)
            (contains_at (set xs at (cell, value)) at (cell, value) (slice_get-set_same xs at (cell, value) within)))
        | inr other ↦
            let found = at_contains xs (x, v) other.1 in
            let apart : found.0 ≡ at → ⊥ =
            λ same.
            let both : Some (x, v) ≡ Some (cell, there.value) = sym found.1 ∙ ap (λ (n : ℕ). slice_get xs n) same ∙ there.is in
            let pairs : (x, v) ≡ (cell, there.value) = cc in
            other.0 (ap (λ (p : Cell × Value). p.0) pairs)
            in
            contains_at (set xs at (cell, value)) found.0 (x, v) (slice_get-set_other xs at found.0 (cell, value) apart ∙ found.1)
      ],
)

pub found_at : (xs : List (Cell × Value)) (cell : Cell) (i : ℕ) (d : Cell × Value) → i < length xs → (get_or xs i d).0 ≡ cell → StandsAt xs cell i
found_at xs cell i d within same = record {
  value = (get_or xs i d).1;
  is = slice_get-get_or xs i d within ∙ ap (λ (x : Cell). Some (x, (get_or xs i d).1)) same;
}

pub none_more :
    (xs : List (Cell × Value)) (cell : Cell) (i : ℕ) (d : Cell × Value) →
    ((k : ℕ) (e : Cell × Value) → k < i → slice_get xs k ≡ Some e → e.0 ≡ cell → ⊥) → ((get_or xs i d).0 ≡ cell → ⊥) →
    (k : ℕ) (e : Cell × Value) → k < i + 1 → slice_get xs k ≡ Some e → e.0 ≡ cell → ⊥
none_more xs cell i d before here k e under is same =
    elim (cases_lt k i) [
      | inl less ↦ before k e less is same
      | inr more ↦
          let at : k ≡ i = omega arith in
          let there : get_or xs k d ≡ e = get_or_from_slice_get xs k e d is in
          here (ap (λ (p : Cell × Value). p.0) (ap (λ (n : ℕ). get_or xs n d) (sym at) ∙ there) ∙ same)
    ]

pub found_read :
    (xs : List (Cell × Value)) (cell : Cell) (i : ℕ) (e : Cell × Value) → i < length xs → e ≡ get_or xs i e → e.0 ≡ cell → StandsAt xs cell i
found_read xs cell i e within is same = found_at xs cell i e within (sym (ap (λ (p : Cell × Value). p.0) is) ∙ same)

pub none_read :
    (xs : List (Cell × Value)) (cell : Cell) (i : ℕ) (d : Cell × Value) → d ≡ get_or xs i d →
    ((k : ℕ) (e : Cell × Value) → k < i → slice_get xs k ≡ Some e → e.0 ≡ cell → ⊥) → (d.0 ≡ cell → ⊥) →
    (k : ℕ) (e : Cell × Value) → k < i + 1 → slice_get xs k ≡ Some e → e.0 ≡ cell → ⊥
none_read xs cell i d is before here = none_more xs cell i d before (λ same. here (ap (λ (p : Cell × Value). p.0) is ∙ same))

-- a new cell comes last
pub order_push : (xs : List (Cell × Value)) (cell : Cell) (value : Value) → KeepsOrder xs (xs ++ (cell, value) ∷ []) cell
order_push xs cell value = inr (map-append (λ (w : Cell × Value). w.0) xs ((cell, value) ∷ []))

cells_set :
    (xs : List (Cell × Value)) (at : ℕ) (cell : Cell) (old new : Value) → slice_get xs at ≡ Some (cell, old) →
    cells_of (set xs at (cell, new)) ≡ cells_of xs
cells_set [] at cell old new is = refl
cells_set (x ∷ xs) zero cell old new is =
    let same : x ≡ (cell, old) = cc in ap (λ (c : Cell). c ∷ cells_of xs) (sym (ap (λ (p : Cell × Value). p.0) same))
cells_set (x ∷ xs) (suc at) cell old new is = ap (λ (cs : List Cell). x.0 ∷ cs) (cells_set xs at cell old new is)

-- another value leaves the cells
pub order_set :
    (xs : List (Cell × Value)) (cell : Cell) (value : Value) (at : ℕ) → StandsAt xs cell at → KeepsOrder xs (set xs at (cell, value)) cell
order_set xs cell value at there = inl (cells_set xs at cell there.value value there.is)
