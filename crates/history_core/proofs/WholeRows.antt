-- When cells are an initial state of whole rows: each cell is right.
use Rattle.std.proofs.Common.{◌≡◌, ◌≢◌, ℕ, ◌+◌, ◌<◌, ◌≤◌, zero, suc, List, [], ◌∷◌, Some, None, true, length, get_or, arith, refl, ap, sym, ◌∙◌, subst, ◌↔◌, inl, inr}
use Rattle.std.specs.List.{slice_get, Contains}
use Rattle.std.proofs.lemmas.Bool.{cases_lt}
use Rattle.std.proofs.lemmas.Option.{slice_get_within, slice_get-get_or}
use Rattle.std.proofs.lemmas.Cmp.{tied_itself}
use Rattle.std.specs.declared.cmp.Ordering.TheVariants.{Less, Equal}
use Rattle.cell_base.specs.declared.key.Key.{Key}
use Rattle.cell_base.specs.declared.cell.Cell.{Cell}
use Rattle.cell_base.specs.declared.cell.Cell.TheVariants.{Presence, Field}
use Rattle.cell_base.specs.declared.value.Value.{Value}
use Rattle.cell_base.specs.declared.value.Value.TheVariants.{Flag}
use Rattle.sql_tree.specs.declared.table.Table.{Table}
use Rattle.txn_buffer.specs.Buffer.{IsAbsent, StandsAt}
use Rattle.txn_buffer.proofs.Lists.{at_contains, contains_at}
use Rattle.history_core.specs.Initial.{IsAscending, IsInitialState, FitsCell, HoldsWholeRows, IsThereInitially}
use Rattle.history_core.specs.Judged.{IsAboveLast, HasField, IsWholeRow, HasColumn, HasFields, IsRightCell, IsRightAt}
use Rattle.history_core.proofs.Searches.{cell_cmp, cell_total}

-- ---- ascending, by neighbours

pub ascends_from :
    (cells : List (Cell × Value)) → ((k : ℕ) → k < length cells → IsAboveLast cells k) → IsAscending cells
ascends_from cells each i zero a b less at_i at_j = absurd (omega arith)
ascends_from cells each i (suc j) a b less at_i at_j =
    let within : suc j < length cells = slice_get_within cells (suc j) b at_j in
    elim (cases_lt i j) [
      | inl earlier ↦
          let m : Cell × Value = get_or cells j b in
          let at_m : slice_get cells j ≡ Some m = slice_get-get_or cells j b (omega arith) in
          cell_total.trans a.0 m.0 b.0 (ascends_from cells each i j a m earlier at_i at_m)
          (each (suc j) within j m b (omega arith) at_m at_j)
      | inr here ↦
          let same : i ≡ j = omega arith in
          each (suc j) within j a b (omega arith) (sym (ap (λ (n : ℕ). slice_get cells n) same) ∙ at_i) at_j
    ]

pub ascends_each : (cells : List (Cell × Value)) → IsAscending cells → (k : ℕ) → k < length cells → IsAboveLast cells k
ascends_each cells ascending k within i a b next at_i at_k = ascending i k a b (omega arith) at_i at_k

-- ---- a cell has one value

pub one_value :
    (cells : List (Cell × Value)) (cell : Cell) (v w : Value) → IsAscending cells → Contains cells (cell, v) → Contains cells (cell, w) → v ≡ w
one_value cells cell v w ascending first second =
    let i = at_contains cells (cell, v) first in
    let j = at_contains cells (cell, w) second in
    let tied : cell_cmp cell cell ≡ Equal = tied_itself cell_total cell in
    elim (cases_lt i.0 j.0) [
      | inl less ↦ let both : Equal ≡ Less = sym tied ∙ ascending i.0 j.0 (cell, v) (cell, w) less i.1 j.1 in cc
      | inr not_less ↦ elim (cases_lt j.0 i.0) [
        | inl more ↦ let both : Equal ≡ Less = sym tied ∙ ascending j.0 i.0 (cell, w) (cell, v) more j.1 i.1 in cc
        | inr not_more ↦
            let same : i.0 ≡ j.0 = omega arith in
            let both : Some (cell, v) ≡ Some (cell, w) = sym i.1 ∙ ap (λ (n : ℕ). slice_get cells n) same ∙ j.1 in
            let pairs : (cell, v) ≡ (cell, w) = cc in
            ap (λ (p : Cell × Value). p.1) pairs
      ]
    ]

-- the cell stands there with the value exactly where the list has both
pub there_at :
    (cells : List (Cell × Value)) (cell : Cell) (value : Value) (at : ℕ) (m : Cell × Value) → IsAscending cells → StandsAt cells cell at →
    slice_get cells at ≡ Some m → (m.1 ≡ value) ↔ Contains cells (cell, value)
there_at cells cell value at m ascending stands is =
    let both : Some m ≡ Some (cell, stands.value) = sym is ∙ stands.is in
    let pair : m ≡ (cell, stands.value) = cc in
    let member : Contains cells (cell, m.1) =
    subst (λ (v : Value). Contains cells (cell, v)) (sym (ap (λ (p : Cell × Value). p.1) pair)) (contains_at cells at (cell, stands.value) stands.is) in (
      λ same. subst (λ (v : Value). Contains cells (cell, v)) same member,
      λ there. one_value cells cell m.1 value ascending member there,
    )

-- ---- whole rows

same_table : (tables : List Table) (table : ℕ) (a b : Table) → slice_get tables table ≡ Some a → slice_get tables table ≡ Some b → a ≡ b
same_table tables table a b first second = let both : Some a ≡ Some b = sym first ∙ second in cc

pub right_cells :
    (tables : List Table) (cells : List (Cell × Value)) → ((k : ℕ) → k < length cells → IsRightAt tables cells k) →
    (cell : Cell) (value : Value) → Contains cells (cell, value) → IsRightCell tables cells cell value
right_cells tables cells right cell value member =
    let found = at_contains cells (cell, value) member in
    right found.0 (slice_get_within cells found.0 (cell, value) found.1) (cell, value) found.1

pub whole_from :
    (tables : List Table) (cells : List (Cell × Value)) → IsAscending cells → ((k : ℕ) → k < length cells → IsRightAt tables cells k) →
    IsInitialState cells × HoldsWholeRows tables cells
whole_from tables cells ascending right = (
  record { ascending = ascending; fits = λ cell value member. fits cell value (is_right cell value member) },
  record {
    known = λ table key there.
        let row = (is_right (Presence table key) (Flag true) there).1 in
        slice_get_within tables table row.of_table row.is;
    whole = λ table key of_table column there is within apart.
        let row = (is_right (Presence table key) (Flag true) there).1 in
        let same : row.of_table ≡ of_table = same_table tables table row.of_table of_table row.is is in
        let has : HasFields cells table key of_table = subst (λ (t : Table). HasFields cells table key t) same row.whole in
        (has column within).has apart;
    fields = λ table key of_table column value member is.
        let has = (is_right (Field table key column) value member).2 in
        let same : has.of_table ≡ of_table = same_table tables table has.of_table of_table has.is is in
        subst (λ (t : Table). (column < length t.columns) × (column ≢ t.key)) same (has.within, has.apart);
  },
)
  where
    is_right : (cell : Cell) (value : Value) → Contains cells (cell, value) → IsRightCell tables cells cell value
    is_right = right_cells tables cells right

    fits : (cell : Cell) (value : Value) → IsRightCell tables cells cell value → FitsCell cells cell value
    fits (Presence table key) value right = right.0
    fits (Field table key column) value right = (right.0, right.1)

there_row :
    (tables : List Table) (cells : List (Cell × Value)) → HoldsWholeRows tables cells → (table : ℕ) (key : Key) → IsThereInitially cells table key →
    (t : Table) × (slice_get tables table ≡ Some t)
there_row tables cells whole table key there = at_table tables table (whole.known table key there)
  where
    at_table : (ts : List Table) (n : ℕ) → n < length ts → (t : Table) × (slice_get ts n ≡ Some t)
    at_table [] n h = absurd (omega arith)
    at_table (t ∷ ts) zero h = (t, refl)
    at_table (t ∷ ts) (suc n) h = at_table ts n (omega arith)

pub whole_each :
    (tables : List Table) (cells : List (Cell × Value)) → IsInitialState cells → HoldsWholeRows tables cells →
    (k : ℕ) → k < length cells → IsRightAt tables cells k
whole_each tables cells is whole k within e at = right e.0 e.1 (contains_at cells k e at)
  where
    right : (cell : Cell) (value : Value) → Contains cells (cell, value) → IsRightCell tables cells cell value
    right (Presence table key) value member =
        let true_is : value ≡ Flag true = is.fits (Presence table key) value member in
        let there : IsThereInitially cells table key = subst (λ (v : Value). Contains cells (Presence table key, v)) true_is member in
        let row = there_row tables cells whole table key there in (
          true_is,
          record {
            of_table = row.0;
            is = row.1;
            whole = λ column under. record { has = λ apart. whole.whole table key row.0 column there row.1 under apart };
          },
        )
    right (Field table key column) value member =
        let fits = is.fits (Field table key column) value member in
        let row = there_row tables cells whole table key fits.0 in
        let has = whole.fields table key row.0 column value member row.1 in
        (fits.0, fits.1, record { of_table = row.0; is = row.1; within = has.0; apart = has.1 })

-- ---- one cell

-- the cell above the last one, by the two entries
pub above_last :
    (cells : List (Cell × Value)) (i at : ℕ) (a b : Cell × Value) → i + 1 ≡ at → slice_get cells i ≡ Some a → slice_get cells at ≡ Some b →
    (cell_cmp a.0 b.0 ≡ Less) ↔ IsAboveLast cells at
above_last cells i at a b next at_i at_at = (
  λ less k x y after at_k at_y.
      let same : k ≡ i = omega arith in
      let first : a ≡ x = entry cells i k a x (sym same) at_i at_k in
      let second : b ≡ y = entry cells at at b y refl at_at at_y in
      subst (λ (e : Cell × Value). cell_cmp e.0 y.0 ≡ Less) first (subst (λ (e : Cell × Value). cell_cmp a.0 e.0 ≡ Less) second less),
  λ above. above i a b next at_i at_at,
)
  where
    entry : (xs : List (Cell × Value)) (m n : ℕ) (p q : Cell × Value) → m ≡ n → slice_get xs m ≡ Some p → slice_get xs n ≡ Some q → p ≡ q
    entry xs m n p q same first second =
        let both : Some p ≡ Some q = sym first ∙ ap (λ (l : ℕ). slice_get xs l) same ∙ second in cc

-- the entry at the place is right where its cell and its value are
pub right_at :
    (tables : List Table) (cells : List (Cell × Value)) (at : ℕ) (e : Cell × Value) → slice_get cells at ≡ Some e →
    IsRightCell tables cells e.0 e.1 ↔ IsRightAt tables cells at
right_at tables cells at e is = (
  λ right x at_x.
      let both : Some e ≡ Some x = sym is ∙ at_x in
      let same : e ≡ x = cc in
      subst (λ (y : Cell × Value). IsRightCell tables cells y.0 y.1) same right,
  λ right. right e is,
)

pub field_of_key : (cells : List (Cell × Value)) (table : ℕ) (key : Key) (of_key column : ℕ) → column ≡ of_key → HasField cells table key of_key column
field_of_key cells table key of_key column same = record { has = λ apart. absurd (apart same) }

pub field_found :
    (cells : List (Cell × Value)) (table : ℕ) (key : Key) (of_key column at : ℕ) → StandsAt cells (Field table key column) at → HasField cells table key of_key column
field_found cells table key of_key column at stands =
    record { has = λ apart. (stands.value, contains_at cells at (Field table key column, stands.value) stands.is) }

pub field_absent :
    (cells : List (Cell × Value)) (table : ℕ) (key : Key) (of_key column : ℕ) → column ≢ of_key → IsAbsent cells (Field table key column) →
    HasField cells table key of_key column → ⊥
field_absent cells table key of_key column apart absent field = let found = field.has apart in absent found.0 found.1

-- a property of each number below one, and of that one
pub each_next : (P : ℕ → Type 0) (n : ℕ) → ((k : ℕ) → k < n → P k) → P n → (k : ℕ) → k < n + 1 → P k
each_next P n before at k under =
    elim (cases_lt k n) [
      | inl less ↦ before k less
      | inr here ↦ subst P (let same : n ≡ k = omega arith in same) at
    ]
