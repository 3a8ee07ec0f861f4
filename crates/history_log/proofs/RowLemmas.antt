-- Initial states, one cell after another.
use Rattle.std.proofs.Common.{◌≡◌, ℕ, ◌-◌, ◌<◌, zero, suc, List, [], ◌∷◌, ◌++◌, Some, true, length, arith, refl, ap, sym, ◌∙◌, subst, append_assoc, ◌↔◌, inl, inr}
use Rattle.std.specs.List.{slice_get, Contains}
use Rattle.std.proofs.lemmas.Bool.{cases_eq, cases_lt}
use Rattle.std.proofs.lemmas.Option.{slice_get_within}
use Rattle.std.specs.declared.cmp.Ordering.TheVariants.{Less}
use Rattle.cell_base.specs.declared.cell.Cell.{Cell}
use Rattle.cell_base.specs.declared.cell.Cell.TheVariants.{Presence, Field}
use Rattle.cell_base.specs.declared.key.Key.{Key}
use Rattle.cell_base.specs.declared.value.Value.{Value}
use Rattle.cell_base.specs.declared.value.Value.TheVariants.{Flag}
use Rattle.txn_buffer.specs.Buffer.{StandsAt}
use Rattle.txn_buffer.proofs.Lists.{contains_at, at_contains, slice_get_push_cases}
use Rattle.history_core.specs.Initial.{IsAscending, IsInitialState, IsThereInitially, FitsCell}
use Rattle.history_core.proofs.Searches.{cell_cmp, cell_total}
use Rattle.history_log.specs.Rows.{IsAbove}

-- ---- places at the front and at the end

front : {X : Type 0} (xs ys : List X) (k : ℕ) (x : X) → slice_get xs k ≡ Some x → slice_get (xs ++ ys) k ≡ Some x
front [] ys k x is = cc
front (z ∷ xs) ys zero x is = is
front (z ∷ xs) ys (suc k) x is = front xs ys k x is

back : {X : Type 0} (xs ys : List X) (k : ℕ) (x : X) → k < length xs → slice_get (xs ++ ys) k ≡ Some x → slice_get xs k ≡ Some x
back [] ys k x less is = absurd (omega arith)
back (z ∷ xs) ys zero x less is = is
back (z ∷ xs) ys (suc k) x less is = back xs ys k x (omega arith) is

at_end : {X : Type 0} (xs : List X) (x : X) → slice_get (xs ++ x ∷ []) (length xs) ≡ Some x
at_end [] x = refl
at_end (z ∷ xs) x = let more : length (z ∷ xs) ≡ suc (length xs) = omega arith in ap (λ (n : ℕ). slice_get (z ∷ (xs ++ x ∷ [])) n) more ∙ at_end xs x

contains_front : {X : Type 0} (xs ys : List X) (x : X) → Contains xs x → Contains (xs ++ ys) x
contains_front xs ys x member = let at = at_contains xs x member in contains_at (xs ++ ys) at.0 x (front xs ys at.0 x at.1)

-- ---- what may stand in a cell

fits_front : (rows more : List (Cell × Value)) (cell : Cell) (value : Value) → FitsCell rows cell value → FitsCell (rows ++ more) cell value
fits_front rows more (Presence table key) value fits = fits
fits_front rows more (Field table key column) value fits = (contains_front rows more (Presence table key, Flag true) fits.0, fits.1)

-- no presence is above a field
not_above : (t u : ℕ) (k l : Key) (c : ℕ) → cell_cmp (Field t k c) (Presence u l) ≡ Less → ⊥
not_above t u k l c less = cc

-- the presence of a field's row stands before it
fits_back :
    (rows more : List (Cell × Value)) (cell : Cell) (value : Value) → IsAscending (rows ++ more) → (place : ℕ) → slice_get rows place ≡ Some (cell, value) →
    FitsCell (rows ++ more) cell value → FitsCell rows cell value
fits_back rows more (Presence table key) value ascending place is fits = fits
fits_back rows more (Field table key column) value ascending place is fits =
    let there = at_contains (rows ++ more) (Presence table key, Flag true) fits.0 in
    let within = slice_get_within rows place (Field table key column, value) is in
    elim (cases_lt there.0 (length rows)) [
      | inl before ↦ (contains_at rows there.0 (Presence table key, Flag true) (back rows more there.0 (Presence table key, Flag true) before there.1), fits.1)
      | inr later ↦ absurd (not_above table table key key column
          (ascending place there.0 (Field table key column, value) (Presence table key, Flag true) (omega arith)
          (front rows more place (Field table key column, value) is) there.1))
    ]

fits_last : (rows : List (Cell × Value)) (cell : Cell) (value : Value) → FitsCell (rows ++ (cell, value) ∷ []) cell value → FitsCell rows cell value
fits_last rows (Presence table key) value fits = fits
fits_last rows (Field table key column) value fits =
    let there = at_contains (rows ++ (Field table key column, value) ∷ []) (Presence table key, Flag true) fits.0 in
    elim (slice_get_push_cases rows (Field table key column, value) there.0 (Presence table key, Flag true) there.1) [
      | inl old ↦ (contains_at rows there.0 (Presence table key, Flag true) old.1, fits.1)
      | inr new ↦ absurd (apart (Field table key column, value) (Presence table key, Flag true) new.1 refl refl)
    ]
  where
    apart : (a b : Cell × Value) → a ≡ b → a.0 ≡ Field table key column → b.0 ≡ Presence table key → ⊥
    apart a b same first second = let both : Field table key column ≡ Presence table key = sym first ∙ ap (λ (e : Cell × Value). e.0) same ∙ second in cc

-- ---- the beginning of an initial state is one

state_front : (rows more : List (Cell × Value)) → IsInitialState (rows ++ more) → IsInitialState rows
state_front rows more state = record {
  ascending = λ i j a b less at_i at_j. state.ascending i j a b less (front rows more i a at_i) (front rows more j b at_j);
  fits = λ cell value member.
      let at = at_contains rows (cell, value) member in
      fits_back rows more cell value state.ascending at.0 at.1 (state.fits cell value (contains_front rows more (cell, value) member));
}

pub state_so_far : (rows : List (Cell × Value)) (x : Cell × Value) (more : List (Cell × Value)) → IsInitialState (rows ++ x ∷ more) → IsInitialState (rows ++ x ∷ [])
state_so_far rows x more state = state_front (rows ++ x ∷ []) more (subst (λ (cells : List (Cell × Value)). IsInitialState cells) (sym (append_assoc rows (x ∷ []) more)) state)

-- ---- one cell more

pub state_next : (rows : List (Cell × Value)) (x : Cell × Value) → IsInitialState rows → IsAbove rows x.0 → FitsCell rows x.0 x.1 → IsInitialState (rows ++ x ∷ [])
state_next rows x state above fits = record {
  ascending = λ i j a b less at_i at_j. elim (slice_get_push_cases rows x j b at_j) [
    | inl old ↦ let within = old.0 in state.ascending i j a b less (back rows (x ∷ []) i a (omega arith) at_i) old.1
    | inr new ↦
        let last = new.0 in
        subst (λ (e : Cell × Value). cell_cmp a.0 e.0 ≡ Less) new.1 (above i a (back rows (x ∷ []) i a (omega arith) at_i))
  ];
  fits = λ cell value member.
      let at = at_contains (rows ++ x ∷ []) (cell, value) member in
      elim (slice_get_push_cases rows x at.0 (cell, value) at.1) [
        | inl old ↦ fits_front rows (x ∷ []) cell value (state.fits cell value (contains_at rows at.0 (cell, value) old.1))
        | inr new ↦ subst (λ (e : Cell × Value). FitsCell (rows ++ x ∷ []) e.0 e.1) new.1 (fits_front rows (x ∷ []) x.0 x.1 fits)
      ];
}

pub next_above : (rows : List (Cell × Value)) (x : Cell × Value) → IsInitialState (rows ++ x ∷ []) → IsAbove rows x.0
next_above rows x state k e is =
    let within = slice_get_within rows k e is in
    state.ascending k (length rows) e x within (front rows (x ∷ []) k e is) (at_end rows x)

pub next_fits : (rows : List (Cell × Value)) (x : Cell × Value) → IsInitialState (rows ++ x ∷ []) → FitsCell rows x.0 x.1
next_fits rows x state = fits_last rows x.0 x.1 (state.fits x.0 x.1 (contains_at (rows ++ x ∷ []) (length rows) x (at_end rows x)))

pub no_rows : IsInitialState []
no_rows = record { ascending = λ i j a b less at_i at_j. cc; fits = λ cell value member. let within = member.1 in absurd (omega arith) }

pub one_row : (table : ℕ) (key : Key) → IsInitialState ((Presence table key, Flag true) ∷ [])
one_row table key = state_next [] (Presence table key, Flag true) no_rows (λ k e is. cc) refl

-- ---- above the last is above all

pub above_last :
    (rows : List (Cell × Value)) (last : Cell × Value) (cell : Cell) → IsAscending rows → slice_get rows (length rows - 1) ≡ Some last →
    (cell_cmp last.0 cell ≡ Less) ↔ IsAbove rows cell
above_last rows last cell ascending is = (
  λ less k e at. elim (cases_eq k (length rows - 1)) [
    | inl same ↦
        let both : Some e ≡ Some last = sym at ∙ ap (λ (n : ℕ). slice_get rows n) same ∙ is in
        let one : e ≡ last = cc in
        subst (λ (x : Cell × Value). cell_cmp x.0 cell ≡ Less) (sym one) less
    | inr other ↦
        let within = slice_get_within rows k e at in
        cell_total.trans e.0 last.0 cell (ascending k (length rows - 1) e last (omega arith) at is) less
  ],
  λ above. above (length rows - 1) last is,
)

-- ---- the presence that stands in an initial state says that its row is there

pub there_from : (rows : List (Cell × Value)) → IsInitialState rows → (table : ℕ) (key : Key) (at : ℕ) → StandsAt rows (Presence table key) at → IsThereInitially rows table key
there_from rows state table key at stands =
    let member = contains_at rows at (Presence table key, stands.value) stands.is in
    subst (λ (v : Value). Contains rows (Presence table key, v)) (state.fits (Presence table key) stands.value member) member
