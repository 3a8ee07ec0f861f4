-- What an index lists at its cells, as a list is put in.
use Rattle.std.proofs.Common.{◌≡◌, get_or, Bool, true, false, cond, Some, None, List, [], ◌∷◌, ℕ, rules, ap, sym, ◌∙◌, subst, inl, inr, ◌⊎◌, refl, arith, Ok, Err, Result}
use Rattle.std.specs.Prelude.{OnOk}
use Rattle.std.specs.HashMap.{get}
use Rattle.std.specs.Map.{lookup}
use Rattle.std.specs.List.{Contains}
use Rattle.std.specs.List.Sorted.{IsStrictlyIncreasing}
use Rattle.std.proofs.lemmas.Bool.{false≢true}
use Rattle.cell_base.specs.declared.cell.Cell.{Cell}
use Rattle.indexed_history.specs.declared.index.Index.{Index}
use Rattle.indexed_history.specs.Index.{same_cell, some_numbers, numbers_at, AreAscending, GainsNumber, LosesNumber, GainsWriter, LosesWriter, ListsSame}

pub cell_same : (a b : Cell) → same_cell a b ≡ true → a ≡ b
cell_same a b is = search rules

pub cell_here : (a : Cell) → same_cell a a ≡ true
cell_here a = search rules

pub bool_cases : (b : Bool) → (b ≡ true) ⊎ (b ≡ false)
bool_cases true = inl refl
bool_cases false = inr refl

-- what is found at the cell
pub found_at : (index : Index) (cell : Cell) (numbers : List ℕ) → Some numbers ≡ get same_cell index.lists cell → numbers_at index cell ≡ numbers
found_at index cell numbers is = ap some_numbers (sym is)

pub found_none : (index : Index) (cell : Cell) → None ≡ get same_cell index.lists cell → numbers_at index cell ≡ []
found_none index cell is = ap some_numbers (sym is)

-- no list was put in
pub same_lists : (old new : Index) → new.lists.entries ≡ old.lists.entries → ListsSame old new
same_lists old new same q = ap (λ (es : List (Cell × List ℕ)). some_numbers (lookup (same_cell q) es)) same

pub same_ascending : (old new : Index) → ListsSame old new → AreAscending old → AreAscending new
same_ascending old new same rises q = subst IsStrictlyIncreasing (sym (same q)) (rises q)

module _ (old new : Index) (key cell : Cell) (numbers : List ℕ) (at : key ≡ cell)
    (updates : (q : Cell) → get same_cell new.lists q ≡ cond (same_cell key q) (Some numbers) (get same_cell old.lists q)) where
  -- a list was put in at the cell
  here : (q : Cell) → same_cell key q ≡ true → numbers_at new q ≡ numbers
  here q same = ap some_numbers (updates q ∙ ap (λ (b : Bool). cond b (Some numbers) (get same_cell old.lists q)) same)

  elsewhere : (q : Cell) → same_cell key q ≡ false → numbers_at new q ≡ numbers_at old q
  elsewhere q other = ap some_numbers (updates q ∙ ap (λ (b : Bool). cond b (Some numbers) (get same_cell old.lists q)) other)

  at_cell : (q : Cell) → same_cell key q ≡ true → q ≡ cell
  at_cell q same = sym (cell_same key q same) ∙ at

  off_cell : (q : Cell) → same_cell key q ≡ false → q ≡ cell → ⊥
  off_cell q other same = false≢true (sym other ∙ ap (λ (k : Cell). same_cell key k) (same ∙ sym at) ∙ cell_here key)

  pub ascending_at : IsStrictlyIncreasing numbers → AreAscending old → AreAscending new
  ascending_at rises others q =
      elim (bool_cases (same_cell key q)) [
        | inl same ↦ subst IsStrictlyIncreasing (sym (here q same)) rises
        | inr other ↦ subst IsStrictlyIncreasing (sym (elsewhere q other)) (others q)
      ]

  pub same_at : numbers ≡ numbers_at old cell → ListsSame old new
  same_at is q =
      elim (bool_cases (same_cell key q)) [
        | inl same ↦ here q same ∙ is ∙ ap (λ (k : Cell). numbers_at old k) (sym (at_cell q same))
        | inr other ↦ elsewhere q other
      ]

  pub gains_at : (number : ℕ) → GainsNumber (numbers_at old cell) number numbers → GainsWriter old cell number new
  gains_at number gains q other =
      elim (bool_cases (same_cell key q)) [
        | inl same ↦
            let place = at_cell q same in
            let before : numbers_at old cell ≡ numbers_at old q = ap (λ (k : Cell). numbers_at old k) (sym place) in (
              λ there. elim ((gains other).0 (subst (λ (ns : List ℕ). Contains ns other) (here q same) there)) [
                | inl was ↦ inl (subst (λ (ns : List ℕ). Contains ns other) before was)
                | inr now ↦ inr (place, now)
              ],
              λ either. subst (λ (ns : List ℕ). Contains ns other) (sym (here q same)) ((gains other).1 (elim either [
                | inl was ↦ inl (subst (λ (ns : List ℕ). Contains ns other) (sym before) was)
                | inr now ↦ inr now.1
              ])),
            )
        | inr apart ↦ (
          λ there. inl (subst (λ (ns : List ℕ). Contains ns other) (elsewhere q apart) there),
          λ either. elim either [
            | inl was ↦ subst (λ (ns : List ℕ). Contains ns other) (sym (elsewhere q apart)) was
            | inr now ↦ absurd (off_cell q apart now.0)
          ],
        )
      ]

  pub loses_at : (number : ℕ) → LosesNumber (numbers_at old cell) number numbers → LosesWriter old cell number new
  loses_at number loses q other =
      elim (bool_cases (same_cell key q)) [
        | inl same ↦
            let place = at_cell q same in
            let before : numbers_at old cell ≡ numbers_at old q = ap (λ (k : Cell). numbers_at old k) (sym place) in (
              λ there.
                  let both = (loses other).0 (subst (λ (ns : List ℕ). Contains ns other) (here q same) there) in
                  (subst (λ (ns : List ℕ). Contains ns other) before both.0, λ now. both.1 now.1),
              λ both. subst (λ (ns : List ℕ). Contains ns other) (sym (here q same))
                  ((loses other).1 (subst (λ (ns : List ℕ). Contains ns other) (sym before) both.0, λ is. both.1 (place, is))),
            )
        | inr apart ↦ (
          λ there. (subst (λ (ns : List ℕ). Contains ns other) (elsewhere q apart) there, λ now. off_cell q apart now.0),
          λ both. subst (λ (ns : List ℕ). Contains ns other) (sym (elsewhere q apart)) both.0,
        )
      ]

-- one number at a cell that had none
pub gains_one : (old : List ℕ) (number : ℕ) → old ≡ [] → GainsNumber old number (number ∷ [])
gains_one old number none other = (
  λ there. inr (one there),
  λ either. elim either [
    | inl was ↦ let there = subst (λ (ns : List ℕ). Contains ns other) none was in let within = there.1 in absurd (omega arith)
    | inr now ↦ subst (λ (k : ℕ). Contains (number ∷ []) k) (sym now) (0, omega arith, refl)
  ],
)
  where
    one : Contains (number ∷ []) other → other ≡ number
    one (k, within, is) = let at : k ≡ 0 = omega arith in sym (sym (ap (λ (i : ℕ). get_or (number ∷ []) i other) at) ∙ is)

-- the cell has no list
pub loses_nothing : (old new : Index) (cell : Cell) (number : ℕ) → ListsSame old new → numbers_at old cell ≡ [] → LosesWriter old cell number new
loses_nothing old new cell number same none q other = (
  λ there.
      let was = subst (λ (ns : List ℕ). Contains ns other) (same q) there in
      (was, λ now. nothing (subst (λ (ns : List ℕ). Contains ns other) none (subst (λ (k : Cell). Contains (numbers_at old k) other) now.0 was))),
  λ both. subst (λ (ns : List ℕ). Contains ns other) (sym (same q)) both.0,
)
  where
    nothing : Contains [] other → ⊥
    nothing there = let within = there.1 in omega arith

-- what follows on success
pub on_ok : {A E : Type 0} (P Q : Type 0) (r : Result A E) → (P → Q) → OnOk r P → OnOk r Q
on_ok P Q (Ok a) f h = f h
on_ok P Q (Err e) f h = h

pub gains_from : (old mid new : Index) (cell : Cell) (number : ℕ) → ListsSame old mid → GainsWriter mid cell number new → GainsWriter old cell number new
gains_from old mid new cell number same gains q other = (
  λ there. elim ((gains q other).0 there) [
    | inl was ↦ inl (subst (λ (ns : List ℕ). Contains ns other) (same q) was)
    | inr now ↦ inr now
  ],
  λ either. (gains q other).1 (elim either [
    | inl was ↦ inl (subst (λ (ns : List ℕ). Contains ns other) (sym (same q)) was)
    | inr now ↦ inr now
  ]),
)
