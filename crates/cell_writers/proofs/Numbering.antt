-- Cells are numbered, one event after another.
use Rattle.std.proofs.Common.{◌≡◌, ℕ, ◌+◌, List, [], ◌∷◌, ◌++◌, cond, Bool, false, Option, Some, None, Result, Ok, Err, length, get_or, arith, refl, ap, sym, ◌∙◌, subst, inl, inr}
use Rattle.std.specs.List.{Contains, slice_get, position, list_any}
use Rattle.indexmap.specs.IndexSet.{insert_key}
use Rattle.std.specs.Prelude.{OnOk, IfOk}
use Rattle.std.specs.Option.{IfSome, IfNone, is_some}
use Rattle.std.proofs.lemmas.Bool.{false≢true}
use Rattle.std.proofs.lemmas.List.Folds.{list_any_at}
use Rattle.std.proofs.lemmas.List.Quantifiers.{position-Some}
use Rattle.std.proofs.lemmas.List.{length_push, get_or_append_left, get_or_push}
use Rattle.std.proofs.lemmas.Option.{slice_get-get_or, slice_get_within}
use Rattle.cell_base.specs.declared.cell.Cell.{Cell}
use Rattle.history_core.specs.declared.event.Event.{Event}
use Rattle.history_core.proofs.Prefixes.{slice_get-at_end, Contains-from_slice_get}
use Rattle.txn_buffer.proofs.Lists.{slice_get_push_cases}
use Rattle.indexed_history.specs.Index.{same_cell}
use Rattle.indexed_history.proofs.Cells.{cell_same, cell_here}
use Rattle.cell_writers.specs.declared.cell_numbers.CellNumbers.{CellNumbers}
use Rattle.cell_writers.specs.Numbered.{AreNumberedSo, AreUnique, AddsCell, NumbersNext, cell_in}

read : (xs : List Cell) (i : ℕ) (q : Cell) → slice_get xs i ≡ Some q → get_or xs i q ≡ q
read xs i q is =
    let both : Some (get_or xs i q) ≡ Some q = sym (slice_get-get_or xs i q (slice_get_within xs i q is)) ∙ is in cc

-- what a search for a cell finds
pub found_at : (cells : List Cell) (cell : Cell) (at : ℕ) → position (same_cell cell) cells ≡ Some at → slice_get cells at ≡ Some cell
found_at cells cell at is =
    let found = position-Some (same_cell cell) cells at cell is in
    slice_get-get_or cells at cell found.0 ∙ ap (λ (c : Cell). Some c) (sym (cell_same cell (get_or cells at cell) found.1))

pub some_found : (cells : List Cell) (cell : Cell) (found : Option ℕ) → found ≡ position (same_cell cell) cells → IfSome found (λ n. slice_get cells n ≡ Some cell)
some_found cells cell (Some n) is = found_at cells cell n (sym is)
some_found cells cell None is = tt

pub none_found :
    (cells : List Cell) (cell : Cell) (found : Option ℕ) → is_some found ≡ list_any (same_cell cell) cells → IfNone found ((n : ℕ) → slice_get cells n ≡ Some cell → ⊥)
none_found cells cell (Some n) is = tt
none_found cells cell None is = λ n at.
    let within = slice_get_within cells n cell at in
    let there = list_any_at (same_cell cell) cells n cell within (ap (same_cell cell) (read cells n cell at) ∙ cell_here cell) in
    false≢true (is ∙ there)

-- a cell that isn't there yet is the last
pub last_is :
    (old new : List Cell) (cell copy : Cell) (n : ℕ) → copy ≡ cell → new ≡ insert_key same_cell old copy → false ≡ list_any (same_cell cell) old → n ≡ length old → slice_get new n ≡ Some cell
last_is old new cell copy n same keys none last =
    let absent : list_any (same_cell copy) old ≡ false = ap (λ (c : Cell). list_any (same_cell c) old) same ∙ sym none in
    let pushed : new ≡ old ++ copy ∷ [] = keys ∙ ap (λ (b : Bool). cond b old (old ++ copy ∷ [])) absent in
    subst (λ (c : Cell). slice_get new n ≡ Some c) same
    (subst (λ (cs : List Cell). slice_get cs n ≡ Some copy) (sym pushed)
    (subst (λ (k : ℕ). slice_get (old ++ copy ∷ []) k ≡ Some copy) (sym last) (slice_get-at_end old copy)))

-- what was there stays
pub cell_kept : (old new : List Cell) (cell q : Cell) (i : ℕ) → AddsCell old cell new → slice_get old i ≡ Some q → slice_get new i ≡ Some q
cell_kept old new cell q i adds is = elim adds [
  | inl same ↦ subst (λ (cs : List Cell). slice_get cs i ≡ Some q) (sym same) is
  | inr more ↦
      let within = slice_get_within old i q is in
      let long = length_push old cell in
      subst (λ (cs : List Cell). slice_get cs i ≡ Some q) (sym more.0)
      (slice_get-get_or (old ++ cell ∷ []) i q (omega arith) ∙ ap (λ (c : Cell). Some c) (get_or_append_left old (cell ∷ []) q i within ∙ read old i q is))
]

pub still_unique : (old new : List Cell) (cell : Cell) → AddsCell old cell new → AreUnique old → AreUnique new
still_unique old new cell adds unique = elim adds [
  | inl same ↦ subst AreUnique (sym same) unique
  | inr more ↦ subst AreUnique (sym more.0) (λ i j q at_i at_j.
      elim (slice_get_push_cases old cell i q at_i) [
        | inl old_i ↦ elim (slice_get_push_cases old cell j q at_j) [
          | inl old_j ↦ unique i j q old_i.1 old_j.1
          | inr new_j ↦ absurd (more.1 (subst (λ (c : Cell). Contains old c) (sym new_j.1) (Contains-from_slice_get old i q old_i.1)))
        ]
        | inr new_i ↦ elim (slice_get_push_cases old cell j q at_j) [
          | inl old_j ↦ absurd (more.1 (subst (λ (c : Cell). Contains old c) (sym new_i.1) (Contains-from_slice_get old j q old_j.1)))
          | inr new_j ↦ let a = new_i.0 in let b = new_j.0 in omega arith
        ]
      ])
]

-- one event more
pub numbered_next :
    (events : List Event) (e : Event) (old new : CellNumbers) (n : ℕ) → NumbersNext e old.cells.keys n new.cells.keys → new.of_events.items ≡ old.of_events.items ++ n ∷ [] →
    AreNumberedSo events old → AreNumberedSo (events ++ e ∷ []) new
numbered_next events e old new n next pushed so =
    let long = length_push old.of_events.items n in
    let longer = length_push events e in
    let count = so.count in
    let size : length new.of_events.items ≡ length old.of_events.items + 1 = ap length pushed ∙ long in
    record {
      are = record {
        long = omega arith;
        unique = elim next.adds [
          | inl same ↦ subst AreUnique (sym same) so.are.unique
          | inr more ↦ still_unique old.cells.keys new.cells.keys more.0 more.1 so.are.unique
        ];
        each = λ k f cell is of. elim (slice_get_push_cases events e k f is) [
          | inl before ↦
              let here : get_or new.of_events.items k 0 ≡ get_or old.of_events.items k 0 =
              ap (λ (ns : List ℕ). get_or ns k 0) pushed ∙ get_or_append_left old.of_events.items (n ∷ []) 0 k (let h = before.0 in omega arith) in
              let was = so.are.each k f cell before.1 of in
              subst (λ (m : ℕ). slice_get new.cells.keys m ≡ Some cell) (sym here) (kept (get_or old.of_events.items k 0) cell was)
          | inr now ↦
              let here : get_or new.of_events.items k 0 ≡ n =
              ap (λ (ns : List ℕ). get_or ns k 0) pushed ∙ get_or_push old.of_events.items n 0 k (let h = now.0 in omega arith) in
              subst (λ (m : ℕ). slice_get new.cells.keys m ≡ Some cell) (sym here)
              (next.is cell (ap cell_in now.1 ∙ of))
        ];
      };
      count = omega arith;
      few = let f = so.few in elim next.adds [
        | inl same ↦ let l : length new.cells.keys ≡ length old.cells.keys = ap length same in omega arith
        | inr more ↦ elim more.1 [
          | inl same ↦ let l : length new.cells.keys ≡ length old.cells.keys = ap length same in omega arith
          | inr pushed_cell ↦
              let l : length new.cells.keys ≡ length old.cells.keys + 1 = ap length pushed_cell.0 ∙ length_push old.cells.keys more.0 in omega arith
        ]
      ];
    }
  where
    kept : (i : ℕ) (q : Cell) → slice_get old.cells.keys i ≡ Some q → slice_get new.cells.keys i ≡ Some q
    kept i q is = elim next.adds [
      | inl same ↦ subst (λ (cs : List Cell). slice_get cs i ≡ Some q) (sym same) is
      | inr more ↦ cell_kept old.cells.keys new.cells.keys more.0 q i more.1 is
    ]

pub numbered_none : (numbers : CellNumbers) → numbers.of_events.items ≡ [] → numbers.cells.keys ≡ [] → AreNumberedSo [] numbers
numbered_none numbers none no_cells =
    let a : length numbers.of_events.items ≡ 0 = ap length none in
    let b : length numbers.cells.keys ≡ 0 = ap length no_cells in
    record {
      are = record {
        long = omega arith;
        unique = subst AreUnique (sym no_cells) (λ i j cell at_i at_j. let w = slice_get_within [] i cell at_i in absurd (omega arith));
        each = λ k f cell is of. let w = slice_get_within [] k f is in absurd (omega arith);
      };
      count = omega arith;
      few = omega arith;
    }

-- what no event reads or writes
pub next_none : (e : Event) (cells : List Cell) (n : ℕ) → cell_in e ≡ None → NumbersNext e cells n cells
next_none e cells n none = record { adds = inl refl; is = λ cell of. let both : None ≡ Some cell = sym none ∙ of in cc }

pub next_some : (e : Event) (old new : List Cell) (cell : Cell) (n : ℕ) → cell_in e ≡ Some cell → AddsCell old cell new → slice_get new n ≡ Some cell → NumbersNext e old n new
next_some e old new cell n of adds at = record {
  adds = inr (cell, adds);
  is = λ q is.
      let both : Some cell ≡ Some q = sym of ∙ is in
      let one : cell ≡ q = cc in
      subst (λ (c : Cell). slice_get new n ≡ Some c) one at;
}

pub next_some_if :
    {E : Type 0} (e : Event) (old new : List Cell) (cell : Cell) (r : Result ℕ E) → cell_in e ≡ Some cell → OnOk r (AddsCell old cell new) →
    IfOk r (λ n. slice_get new n ≡ Some cell) → IfOk r (λ n. NumbersNext e old n new)
next_some_if e old new cell (Ok n) of adds at = next_some e old new cell n of adds at
next_some_if e old new cell (Err m) of adds at = tt
