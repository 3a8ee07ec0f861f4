-- The rows of a table, as the part of the cells between two cuts.
use Rattle.std.proofs.Common.{◌≡◌, ℕ, ◌+◌, ◌-◌, ◌<◌, ◌≤◌, zero, suc, List, [], ◌∷◌, Some, true, false, length, take, drop, arith, refl, ap, sym, ◌∙◌, subst, nat_lt, inl, inr}
use Rattle.std.specs.List.{slice_get, Contains}
use Rattle.std.proofs.lemmas.Bool.{cases_lt, false≢true}
use Rattle.std.proofs.lemmas.Bool.Decides.{nat_tests}
use Rattle.std.proofs.lemmas.Option.{slice_get_within, slice_get-get_or}
use Rattle.std.specs.declared.cmp.Ordering.TheVariants.{Less}
use Rattle.cell_base.specs.declared.key.Key.{Key}
use Rattle.cell_base.specs.declared.cell.Cell.{Cell}
use Rattle.cell_base.specs.declared.cell.Cell.TheVariants.{Presence, Field}
use Rattle.cell_base.specs.declared.value.Value.{Value}
use Rattle.cell_base.specs.declared.value.Value.TheVariants.{Flag}
use Rattle.txn_buffer.proofs.Lists.{at_contains, contains_at}
use Rattle.history_core.specs.Initial.{IsInitialState, AreRowsOf, IsThereInitially, FitsCell}
use Rattle.history_core.specs.Judged.{is_row_below, IsCut}
use Rattle.history_core.proofs.Places.{slice_get-take}

some_at : {X : Type 0} (xs : List X) (n : ℕ) → n < length xs → (x : X) × (slice_get xs n ≡ Some x)
some_at [] n h = absurd (omega arith)
some_at (x ∷ xs) zero h = (x, refl)
some_at (x ∷ xs) (suc n) h = some_at xs n (omega arith)

pub slice_get-drop : {X : Type 0} (xs : List X) (n k : ℕ) → slice_get (drop n xs) k ≡ slice_get xs (n + k)
slice_get-drop xs zero k = let same : k ≡ 0 + k = omega arith in ap (λ (m : ℕ). slice_get xs m) same
slice_get-drop [] (suc n) k = refl
slice_get-drop (x ∷ xs) (suc n) k =
    let same : suc (n + k) ≡ suc n + k = omega arith in slice_get-drop xs n k ∙ ap (λ (m : ℕ). slice_get (x ∷ xs) m) same

-- the one cut is not after the other
pub cuts_rise : (cells : List (Cell × Value)) (table from to : ℕ) → IsCut cells table from → IsCut cells (table + 1) to → from ≤ to
cuts_rise cells table from to first second =
    elim (cases_lt to from) [
      | inl past ↦
          let h = first.within in
          let e = some_at cells to (omega arith) in
          let below : is_row_below e.0.0 table ≡ true = first.before to e.0 past e.1 in
          let above : is_row_below e.0.0 (table + 1) ≡ false = second.after to e.0 (omega arith) e.1 in
          absurd (clash e.0.0 below above)
      | inr fine ↦ omega arith
    ]
  where
    clash : (cell : Cell) → is_row_below cell table ≡ true → is_row_below cell (table + 1) ≡ false → ⊥
    clash (Presence t k) below above = grind (arith, nat_tests, below, above)
    clash (Field t k c) below above = false≢true below

-- a cell between the cuts is a row of the table
row_between : (cell : Cell) (table : ℕ) → is_row_below cell table ≡ false → is_row_below cell (table + 1) ≡ true → (key : Key) × (cell ≡ Presence table key)
row_between (Presence t k) table not_below below =
    let same : t ≡ table = grind (arith, nat_tests, not_below, below) in
    (k, ap (λ (n : ℕ). Presence n k) same)
row_between (Field t k c) table not_below below = absurd (false≢true below)

pub rows_between :
    (cells : List (Cell × Value)) (table from to : ℕ) → IsInitialState cells → IsCut cells table from → IsCut cells (table + 1) to →
    AreRowsOf cells table (take (to - from) (drop from cells))
rows_between cells table from to is first second = record {
  ascending = λ i j a b less at_i at_j.
      is.ascending (from + i) (from + j) a b (omega arith) (place i a at_i).0 (place j b at_j).0;
  each = λ cell value member.
      let found = at_contains rows (cell, value) member in
      let at = place found.0 (cell, value) found.1 in
      let late : is_row_below cell table ≡ false = first.after (from + found.0) (cell, value) (omega arith) at.0 in
      let early : is_row_below cell (table + 1) ≡ true = second.before (from + found.0) (cell, value) (let h = at.1 in omega arith) at.0 in
      let row = row_between cell table late early in
      let inside : Contains cells (Presence table row.0, value) =
      subst (λ (c : Cell). Contains cells (c, value)) row.1 (contains_at cells (from + found.0) (cell, value) at.0) in
      let true_is : value ≡ Flag true = is.fits (Presence table row.0) value inside in
      (row.0, (row.1, true_is, subst (λ (v : Value). Contains cells (Presence table row.0, v)) true_is inside));
  all = λ key there.
      let found = at_contains cells (Presence table key, Flag true) there in
      let under : found.0 < to = elim (cases_lt found.0 to) [
        | inl before ↦ before
        | inr past ↦
            let none : nat_lt table (table + 1) ≡ false = second.after found.0 (Presence table key, Flag true) (omega arith) found.1 in
            absurd (grind (arith, nat_tests, none))
      ] in
      let over : from ≤ found.0 = elim (cases_lt found.0 from) [
        | inl before ↦
            let some : nat_lt table table ≡ true = first.before found.0 (Presence table key, Flag true) before found.1 in
            absurd (grind (arith, nat_tests, some))
        | inr past ↦ omega arith
      ] in
      let back : from + (found.0 - from) ≡ found.0 = omega arith in
      contains_at rows (found.0 - from) (Presence table key, Flag true)
      (slice_get-take (drop from cells) (to - from) (found.0 - from) (omega arith) ∙ slice_get-drop cells from (found.0 - from)
      ∙ ap (λ (n : ℕ). slice_get cells n) back ∙ found.1);
}
  where
    rows : List (Cell × Value)
    rows = take (to - from) (drop from cells)

    under_take : {X : Type 0} (xs : List X) (n k : ℕ) (x : X) → slice_get (take n xs) k ≡ Some x → k < n
    under_take xs zero k x at = let h : k < length (take 0 xs) = slice_get_within (take 0 xs) k x at in absurd (omega arith)
    under_take [] (suc n) k x at = let h : k < 0 = slice_get_within [] k x at in absurd (omega arith)
    under_take (y ∷ xs) (suc n) zero x at = omega arith
    under_take (y ∷ xs) (suc n) (suc k) x at = let h = under_take xs n k x at in omega arith

    place : (k : ℕ) (e : Cell × Value) → slice_get (take (to - from) (drop from cells)) k ≡ Some e → (slice_get cells (from + k) ≡ Some e) × (from + k < to)
    place k e at =
        let under : k < to - from = under_take (drop from cells) (to - from) k e at in (
          sym (slice_get-drop cells from k) ∙ sym (slice_get-take (drop from cells) (to - from) k under) ∙ at,
          omega arith,
        )
