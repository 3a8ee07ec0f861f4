-- Searches in cells that ascend.
use Rattle.std.proofs.Common.{◌≡◌, ℕ, ◌+◌, ◌<◌, ◌≤◌, List, Option, Some, None, Bool, true, false, length, arith, refl, ap, sym, ◌∙◌, subst, nat_lt, inl, inr}
use Rattle.std.specs.List.{slice_get, Contains}
use Rattle.std.specs.Cmp.{IsTotalOrder}
use Rattle.std.specs.Ordering.{nat_cmp, ordering_then, ordering_reverse}
use Rattle.std.specs.declared.cmp.Ordering.{Ordering}
use Rattle.std.specs.declared.cmp.Ordering.TheVariants.{Less, Equal, Greater}
use Rattle.std.proofs.lemmas.Bool.{cases_lt, false≢true}
use Rattle.std.proofs.lemmas.Bool.Decides.{nat_tests}
use Rattle.std.proofs.lemmas.Cmp.{tied_itself}
use Rattle.std.proofs.lemmas.Map.Lookups.{exact_signed, exact_bytes, exact_unsigned}
use Rattle.std.proofs.lemmas.Option.{slice_get_within}
use Rattle.cell_base.specs.declared.key.Key.{Key}
use Rattle.cell_base.specs.declared.key.Key.TheVariants as keys
use Rattle.cell_base.specs.contracts.key.KeyOrd.TheImpl as key_ord
use Rattle.cell_base.specs.declared.cell.Cell.{Cell}
use Rattle.cell_base.specs.declared.cell.Cell.TheVariants.{Presence, Field}
use Rattle.cell_base.specs.declared.value.Value.{Value}
use Rattle.cell_base.specs.contracts.cell.CellOrd.TheImpl as cell_order
use Rattle.cell_base.specs.contracts.cell.CellOrd.TheImpl.Laws as cell_laws
use Rattle.txn_buffer.specs.Buffer.{IsAbsent, StandsAt}
use Rattle.txn_buffer.proofs.Lists.{at_contains}
use Rattle.history_core.specs.Initial.{IsAscending}
use Rattle.history_core.specs.Judged.{is_row_below, IsCut}

abbrev pub cell_cmp : Cell → Cell → Ordering
cell_cmp = (cell_order.ghosts).cmp

abbrev key_cmp : Key → Key → Ordering
key_cmp = (key_ord.ghosts).cmp

pub cell_total : IsTotalOrder cell_cmp
cell_total = cell_laws.total-law

-- ---- equal cells

then_equal : (a b : Ordering) → ordering_then a b ≡ Equal → (a ≡ Equal) × (b ≡ Equal)
then_equal Less b is = cc
then_equal Equal b is = (refl, is)
then_equal Greater b is = cc

key_exact : (a b : Key) → key_cmp a b ≡ Equal → a ≡ b
key_exact (keys.Int a) (keys.Int b) is = ap keys.Int (exact_signed a b is)
key_exact (keys.Int a) (keys.Text b) is = cc
key_exact (keys.Text a) (keys.Int b) is = cc
key_exact (keys.Text a) (keys.Text b) is = ap keys.Text (exact_bytes a b is)

pub cell_exact : (a b : Cell) → cell_cmp a b ≡ Equal → a ≡ b
cell_exact (Presence t k) (Presence u l) is =
    let parts = then_equal (nat_cmp t u) (key_cmp k l) is in
    let same_table : t ≡ u = exact_unsigned t u parts.0 in
    let same_key : k ≡ l = key_exact k l parts.1 in
    subst (λ (n : ℕ). Presence t k ≡ Presence n l) same_table (ap (λ (x : Key). Presence t x) same_key)
cell_exact (Presence t k) (Field u l d) is = cc
cell_exact (Field t k c) (Presence u l) is = cc
cell_exact (Field t k c) (Field u l d) is =
    let parts = then_equal (nat_cmp t u) (ordering_then (key_cmp k l) (nat_cmp c d)) is in
    let rest = then_equal (key_cmp k l) (nat_cmp c d) parts.1 in
    let same_table : t ≡ u = exact_unsigned t u parts.0 in
    let same_key : k ≡ l = key_exact k l rest.0 in
    let same_column : c ≡ d = exact_unsigned c d rest.1 in
    ap (λ (n : ℕ). Field n k c) same_table ∙ ap (λ (x : Key). Field u x c) same_key ∙ ap (λ (n : ℕ). Field u l n) same_column

-- ---- where a cell stands

-- the cell may stand from the one place to the other alone
pub record IsSought (cells : List (Cell × Value)) (cell : Cell) (low high : ℕ) : Type 0 where
  pub in_order : low ≤ high
  pub within : high ≤ length cells
  pub below : (k : ℕ) (e : Cell × Value) → k < low → slice_get cells k ≡ Some e → cell_cmp e.0 cell ≡ Less
  pub above : (k : ℕ) (e : Cell × Value) → high ≤ k → slice_get cells k ≡ Some e → cell_cmp e.0 cell ≡ Greater

pub sought_first : (cells : List (Cell × Value)) (cell : Cell) → IsSought cells cell 0 (length cells)
sought_first cells cell = record {
  in_order = omega arith;
  within = omega arith;
  below = λ k e under is. absurd (omega arith);
  above = λ k e over is. let h : k < length cells = slice_get_within cells k e is in absurd (omega arith);
}

same_entry : (cells : List (Cell × Value)) (i j : ℕ) (a b : Cell × Value) → i ≡ j → slice_get cells i ≡ Some a → slice_get cells j ≡ Some b → a ≡ b
same_entry cells i j a b same at_i at_j =
    let both : Some a ≡ Some b = sym at_i ∙ ap (λ (n : ℕ). slice_get cells n) same ∙ at_j in cc

pub sought_above :
    (cells : List (Cell × Value)) (cell : Cell) (low high middle : ℕ) (m : Cell × Value) → IsAscending cells → IsSought cells cell low high →
    middle < high → slice_get cells middle ≡ Some m → cell_cmp m.0 cell ≡ Less → IsSought cells cell (middle + 1) high
sought_above cells cell low high middle m ascending is under at less = record {
  in_order = omega arith;
  within = is.within;
  below = λ k e below at_k. elim (cases_lt k middle) [
    | inl before ↦ cell_total.trans e.0 m.0 cell (ascending k middle e m before at_k at) less
    | inr past ↦
        let here : e ≡ m = same_entry cells k middle e m (omega arith) at_k at in
        subst (λ (x : Cell × Value). cell_cmp x.0 cell ≡ Less) (sym here) less
  ];
  above = is.above;
}

turned : (a b : Cell) → cell_cmp a b ≡ Greater → cell_cmp b a ≡ Less
turned a b is = cell_total.antisymm b a ∙ ap ordering_reverse is

turned_less : (a b : Cell) → cell_cmp a b ≡ Less → cell_cmp b a ≡ Greater
turned_less a b is = cell_total.antisymm b a ∙ ap ordering_reverse is

pub sought_below :
    (cells : List (Cell × Value)) (cell : Cell) (low high middle : ℕ) (m : Cell × Value) → IsAscending cells → IsSought cells cell low high →
    low ≤ middle → middle < high → slice_get cells middle ≡ Some m → cell_cmp m.0 cell ≡ Greater → IsSought cells cell low middle
sought_below cells cell low high middle m ascending is over under at greater = record {
  in_order = over;
  within = let h = is.within in omega arith;
  below = is.below;
  above = λ k e above at_k. elim (cases_lt middle k) [
    | inl past ↦
        turned_less cell e.0 (cell_total.trans cell m.0 e.0 (turned m.0 cell greater) (ascending middle k m e past at at_k))
    | inr here ↦
        let same : e ≡ m = same_entry cells k middle e m (omega arith) at_k at in
        subst (λ (x : Cell × Value). cell_cmp x.0 cell ≡ Greater) (sym same) greater
  ];
}

pub sought_nowhere : (cells : List (Cell × Value)) (cell : Cell) (low high : ℕ) → IsSought cells cell low high → high ≤ low → IsAbsent cells cell
sought_nowhere cells cell low high is over value member =
    let found = at_contains cells (cell, value) member in
    let tied : cell_cmp cell cell ≡ Equal = tied_itself cell_total cell in
    elim (cases_lt found.0 low) [
      | inl before ↦ let both : Equal ≡ Less = sym tied ∙ is.below found.0 (cell, value) before found.1 in cc
      | inr past ↦ let both : Equal ≡ Greater = sym tied ∙ is.above found.0 (cell, value) (omega arith) found.1 in cc
    ]

pub stands : (cells : List (Cell × Value)) (cell : Cell) (at : ℕ) (m : Cell × Value) → slice_get cells at ≡ Some m → cell_cmp m.0 cell ≡ Equal → StandsAt cells cell at
stands cells cell at m is equal = record {
  value = m.1;
  is = is ∙ ap (λ (c : Cell). Some (c, m.1)) (cell_exact m.0 cell equal);
}

-- ---- where the rows of tables below one end

then_less : (a b : Ordering) → ordering_then a b ≡ Less → a ≡ Greater → ⊥
then_less Less b is at = cc
then_less Equal b is at = cc
then_less Greater b is at = cc

pub rows_first : (a b : Cell) (bound : ℕ) → cell_cmp a b ≡ Less → is_row_below b bound ≡ true → is_row_below a bound ≡ true
rows_first (Presence t k) (Presence u l) bound less is =
    let apart : nat_cmp t u ≡ Greater → ⊥ = then_less (nat_cmp t u) (key_cmp k l) less in
    elim (cases_lt u t) [
      | inl above ↦ absurd (apart (grind (arith, nat_tests)))
      | inr not_above ↦ grind (arith, nat_tests, is)
    ]
rows_first (Presence t k) (Field u l d) bound less is = absurd (false≢true is)
rows_first (Field t k c) (Presence u l) bound less is = cc
rows_first (Field t k c) (Field u l d) bound less is = absurd (false≢true is)

-- the rows of tables below the bound end between the places
pub record IsCutting (cells : List (Cell × Value)) (bound low high : ℕ) : Type 0 where
  pub in_order : low ≤ high
  pub within : high ≤ length cells
  pub before : (k : ℕ) (e : Cell × Value) → k < low → slice_get cells k ≡ Some e → is_row_below e.0 bound ≡ true
  pub after : (k : ℕ) (e : Cell × Value) → high ≤ k → slice_get cells k ≡ Some e → is_row_below e.0 bound ≡ false

pub cutting_first : (cells : List (Cell × Value)) (bound : ℕ) → IsCutting cells bound 0 (length cells)
cutting_first cells bound = record {
  in_order = omega arith;
  within = omega arith;
  before = λ k e under is. absurd (omega arith);
  after = λ k e over is. let h : k < length cells = slice_get_within cells k e is in absurd (omega arith);
}

pub cutting_above :
    (cells : List (Cell × Value)) (bound low high middle : ℕ) (m : Cell × Value) → IsAscending cells → IsCutting cells bound low high →
    middle < high → slice_get cells middle ≡ Some m → is_row_below m.0 bound ≡ true → IsCutting cells bound (middle + 1) high
cutting_above cells bound low high middle m ascending is under at row = record {
  in_order = omega arith;
  within = is.within;
  before = λ k e below at_k. elim (cases_lt k middle) [
    | inl earlier ↦ rows_first e.0 m.0 bound (ascending k middle e m earlier at_k at) row
    | inr here ↦
        let same : e ≡ m = same_entry cells k middle e m (omega arith) at_k at in
        subst (λ (x : Cell × Value). is_row_below x.0 bound ≡ true) (sym same) row
  ];
  after = is.after;
}

pub cutting_below :
    (cells : List (Cell × Value)) (bound low high middle : ℕ) (m : Cell × Value) → IsAscending cells → IsCutting cells bound low high →
    low ≤ middle → middle < high → slice_get cells middle ≡ Some m → is_row_below m.0 bound ≡ false → IsCutting cells bound low middle
cutting_below cells bound low high middle m ascending is over under at no_row = record {
  in_order = over;
  within = let h = is.within in omega arith;
  before = is.before;
  after = λ k e above at_k. elim (cases_lt middle k) [
    | inl past ↦ not_true (is_row_below e.0 bound)
        (λ row. false≢true (sym no_row ∙ rows_first m.0 e.0 bound (ascending middle k m e past at at_k) row))
    | inr here ↦
        let same : e ≡ m = same_entry cells k middle e m (omega arith) at_k at in
        subst (λ (x : Cell × Value). is_row_below x.0 bound ≡ false) (sym same) no_row
  ];
}
  where
    not_true : (b : Bool) → (b ≡ true → ⊥) → b ≡ false
    not_true true none = absurd (none refl)
    not_true false none = refl

pub cut_is : (cells : List (Cell × Value)) (bound low high : ℕ) → IsCutting cells bound low high → high ≤ low → IsCut cells bound low
cut_is cells bound low high is over = record {
  within = let h = is.within in let o = is.in_order in omega arith;
  before = is.before;
  after = λ k e past at. is.after k e (omega arith) at;
}
