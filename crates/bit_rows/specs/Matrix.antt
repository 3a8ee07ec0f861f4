-- Rows of a matrix: row n, and what a change of one row does.
use Rattle.std.specs.Prelude.{◌≡◌, ℕ, List, [], length, slice_index_or}
use Rattle.bit_rows.specs.Members.{IsUnion}

-- the members of row n, none where there is no such row
abbrev pub row_at : List (List ℕ) → ℕ → List ℕ
row_at rows n = slice_index_or rows n []

-- the row of the target has been joined with another row; all others stay
pub record JoinsAt (target : ℕ) (gained : List ℕ) (old new : List (List ℕ)) : Type 0 where
  pub size : length new ≡ length old
  pub joined : IsUnion (row_at old target) gained (row_at new target)
  pub others : (k : ℕ) → ¬ k ≡ target → row_at new k ≡ row_at old k

-- the row of the target has lost its members; all others stay
pub record EmptiesAt (target : ℕ) (old new : List (List ℕ)) : Type 0 where
  pub size : length new ≡ length old
  pub none : row_at new target ≡ []
  pub others : (k : ℕ) → ¬ k ≡ target → row_at new k ≡ row_at old k
