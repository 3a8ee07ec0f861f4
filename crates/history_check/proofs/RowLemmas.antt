-- The places of cells, noted one after another.
use Rattle.std.proofs.Common.{◌≡◌, ℕ, ◌+◌, ◌-◌, ◌<◌, ◌≤◌, List, [], ◌∷◌, Option, Some, zero, suc, length, take, drop, get_or, arith, refl, ap, sym, ◌∙◌, subst, inl, inr}
use Rattle.std.specs.List.{Contains, Any, slice_get}
use Rattle.std.specs.List.Sorted.{IsStrictlyIncreasing}
use Rattle.std.proofs.lemmas.Bool.{cases_lt}
use Rattle.std.proofs.lemmas.Option.{slice_get_within}
use Rattle.txn_buffer.proofs.Lists.{at_contains, contains_at}
use Rattle.cell_base.specs.declared.cell.Cell.{Cell}
use Rattle.cell_base.specs.declared.value.Value.{Value}
use Rattle.cell_writers.specs.declared.writers.CellWriters.{CellWriters}
use Rattle.cell_writers.specs.Writers.{numbers_at, AreAscending, GainsWrites}
use Rattle.history_core.proofs.Places.{slice_get-take}
use Rattle.history_core.proofs.RowLists.{slice_get-drop}
use Rattle.indexed_history.proofs.Ascending.{contains_get}
use Rattle.history_check.specs.Rows.{StandsThere, AreAtPlacesBelow, AreAtPlaces, GainsPlace, HasValueAt}

pub places_none : (cells : List (Cell × Value)) (places : CellWriters) → ((cell : Cell) → numbers_at places cell ≡ []) → AreAtPlacesBelow cells 0 places
places_none cells places empty = record {
  ascending = λ cell. subst IsStrictlyIncreasing (sym (empty cell)) (λ k within. absurd (omega arith));
  exact = λ cell place. (
    λ there. let none = subst (λ (ns : List ℕ). Contains ns place) (empty cell) there in let within = none.1 in absurd (omega arith),
    λ both. let h = both.0 in absurd (omega arith),
  );
}

-- what a piece of one cell has is the cell at the place
piece_place :
    (cells : List (Cell × Value)) (at : ℕ) (entry : Cell × Value) (k : ℕ) → slice_get (take (at + 1 - at) (drop at cells)) k ≡ Some entry →
    slice_get cells at ≡ Some entry
piece_place cells at entry k is = of k is (under (drop at cells) (at + 1 - at) k entry is)
  where
    under : {X : Type 0} (xs : List X) (n k : ℕ) (x : X) → slice_get (take n xs) k ≡ Some x → k < n
    under xs zero k x at = let h : k < length (take 0 xs) = slice_get_within (take 0 xs) k x at in absurd (omega arith)
    under [] (suc n) k x at = let h : k < 0 = slice_get_within [] k x at in absurd (omega arith)
    under (y ∷ xs) (suc n) zero x at = omega arith
    under (y ∷ xs) (suc n) (suc k) x at = let h = under xs n k x at in omega arith

    of : (k : ℕ) → slice_get (take (at + 1 - at) (drop at cells)) k ≡ Some entry → k < at + 1 - at → slice_get cells at ≡ Some entry
    of k is less =
        let first : at + k ≡ at = omega arith in
        ap (λ (i : ℕ). slice_get cells i) (sym first) ∙ sym (slice_get-drop cells at k) ∙ sym (slice_get-take (drop at cells) (at + 1 - at) k less) ∙ is

place_piece : (cells : List (Cell × Value)) (at : ℕ) (entry : Cell × Value) → slice_get cells at ≡ Some entry → slice_get (take (at + 1 - at) (drop at cells)) 0 ≡ Some entry
place_piece cells at entry is =
    let first : at + 0 ≡ at = omega arith in
    slice_get-take (drop at cells) (at + 1 - at) 0 (omega arith) ∙ slice_get-drop cells at 0 ∙ ap (λ (i : ℕ). slice_get cells i) first ∙ is

pub gains_place :
    (cells : List (Cell × Value)) (at number : ℕ) (old new : CellWriters) → number ≡ at → GainsWrites old (take (at + 1 - at) (drop at cells)) number new →
    GainsPlace cells at old new
gains_place cells at number old new same gains cell other = (
  λ there. elim ((gains cell other).0 there) [
    | inl was ↦ inl was
    | inr now ↦
        let found = at_contains (take (at + 1 - at) (drop at cells)) (cell, now.0.0) now.0.1 in
        inr ((now.0.0, piece_place cells at (cell, now.0.0) found.0 found.1), now.1 ∙ same)
  ],
  λ either. elim either [
    | inl was ↦ (gains cell other).1 (inl was)
    | inr now ↦
        (gains cell other).1
        (inr ((now.0.0, contains_at (take (at + 1 - at) (drop at cells)) 0 (cell, now.0.0) (place_piece cells at (cell, now.0.0) now.0.1)), now.1 ∙ sym same))
  ],
)

pub places_more :
    (cells : List (Cell × Value)) (n : ℕ) (old new : CellWriters) → AreAscending new → GainsPlace cells n old new → AreAtPlacesBelow cells n old →
    AreAtPlacesBelow cells (n + 1) new
places_more cells n old new rises gains are = record {
  ascending = rises;
  exact = λ cell place. (
    λ there. elim ((gains cell place).0 there) [
      | inl was ↦ let both = (are.exact cell place).0 was in let h = both.0 in (omega arith, both.1)
      | inr now ↦ let same = now.1 in (omega arith, subst (λ (k : ℕ). StandsThere cells cell k) (sym now.1) now.0)
    ],
    λ both. elim (cases_lt place n) [
      | inl before ↦ (gains cell place).1 (inl ((are.exact cell place).1 (before, both.1)))
      | inr after ↦
          let h = both.0 in
          let same : place ≡ n = omega arith in
          (gains cell place).1 (inr (subst (λ (k : ℕ). StandsThere cells cell k) same both.1, same))
    ],
  );
}

pub places_whole : (cells : List (Cell × Value)) (n : ℕ) (places : CellWriters) → length cells ≤ n → AreAtPlacesBelow cells n places → AreAtPlaces cells places
places_whole cells n places end are = record {
  ascending = are.ascending;
  exact = λ cell place. (
    λ there.
        let both = (are.exact cell place).0 there in
        (slice_get_within cells place (cell, both.1.0) both.1.1, both.1),
    λ both. let h = both.0 in (are.exact cell place).1 (omega arith, both.1),
  );
}

-- ---- what is there

abbrev pub IsAt : Cell → Cell × Value → Type 0
IsAt cell entry = entry.0 ≡ cell

abbrev pub IsEntry : Cell → Value → Cell × Value → Type 0
IsEntry cell value entry = (entry.0 ≡ cell) × (entry.1 ≡ value)

pub has_value : (cells : List (Cell × Value)) (at : ℕ) (entry : Cell × Value) (value : Value) → slice_get cells at ≡ Some entry → entry.1 ≡ value → HasValueAt cells value at
has_value cells at (x, v) value is same = (x, is ∙ ap (λ (w : Value). Some (x, w)) same)

pub value_is : (cells : List (Cell × Value)) (at : ℕ) (entry : Cell × Value) (value : Value) → slice_get cells at ≡ Some entry → HasValueAt cells value at → entry.1 ≡ value
value_is cells at (x, v) value is (y, has) =
    let both : ◌≡◌ {A = Option (Cell × Value)} (Some (x, v)) (Some (y, value)) = sym is ∙ has in
    let pair : ◌≡◌ {A = Cell × Value} (x, v) (y, value) = cc in
    ap (λ (e : Cell × Value). e.1) pair

pub cell_there : (cells : List (Cell × Value)) (places : CellWriters) (cell : Cell) → AreAtPlaces cells places → 0 < length (numbers_at places cell) → Any (IsAt cell) cells
cell_there cells places cell are some =
    let place = get_or (numbers_at places cell) 0 0 in
    let stands = ((are.exact cell place).0 (contains_get (numbers_at places cell) 0 place some refl)).1 in
    let member = contains_at cells place (cell, stands.0) stands.1 in
    (member.0, (cell, stands.0), member.1, member.2, refl)

entry_place : (cells : List (Cell × Value)) (cell : Cell) (entry : Cell × Value) → Contains cells entry → entry.0 ≡ cell → (place : ℕ) × (slice_get cells place ≡ Some (cell, entry.1))
entry_place cells cell (x, v) member same =
    let at = at_contains cells (x, v) member in
    (at.0, at.1 ∙ ap (λ (y : Cell). Some (y, v)) same)

pub place_there : (cells : List (Cell × Value)) (places : CellWriters) (cell : Cell) → AreAtPlaces cells places → Any (IsAt cell) cells → 0 < length (numbers_at places cell)
place_there cells places cell are (k, entry, within, at, is) =
    let stands = entry_place cells cell entry (k, within, at) is in
    let there = (are.exact cell stands.0).1 (slice_get_within cells stands.0 (cell, entry.1) stands.1, (entry.1, stands.1)) in
    let inside = there.1 in
    omega arith

pub value_there :
    (cells : List (Cell × Value)) (places : CellWriters) (cell : Cell) (value : Value) → AreAtPlaces cells places → Any (HasValueAt cells value) (numbers_at places cell) →
    Any (IsEntry cell value) cells
value_there cells places cell value are (k, place, within, at, (other, is)) =
    let stands = ((are.exact cell place).0 (k, within, at)).1 in
    let values = value_is cells place (cell, stands.0) value stands.1 (other, is) in
    let member = contains_at cells place (cell, stands.0) stands.1 in
    (member.0, (cell, stands.0), member.1, member.2, (refl, values))

pub there_value :
    (cells : List (Cell × Value)) (places : CellWriters) (cell : Cell) (value : Value) → AreAtPlaces cells places → Any (IsEntry cell value) cells →
    Any (HasValueAt cells value) (numbers_at places cell)
there_value cells places cell value are (k, entry, within, at, is) =
    let stands = entry_place cells cell entry (k, within, at) is.0 in
    let there = (are.exact cell stands.0).1 (slice_get_within cells stands.0 (cell, entry.1) stands.1, (entry.1, stands.1)) in
    (there.0, stands.0, there.1, there.2, (cell, stands.1 ∙ ap (λ (v : Value). Some (cell, v)) is.1))
