-- Rows of what comes before each number, as lists of members.
use Rattle.std.specs.Prelude.{◌≡◌, ◌<◌, ◌≤◌, ◌↔◌, ◌⊎◌, ◌++◌, ◌∷◌, [], ℕ, suc, List, Any, Contains, length, map, slice_index_or}
use Rattle.graph_base.specs.declared.Edge.{Edge}
pub use Rattle.bit_rows.specs.Matrix.{row_at, JoinsAt}
use Rattle.bit_rows.specs.declared.TheConstants.{ROW_BITS}
use Rattle.reach_rows.specs.declared.Star.{Star}

abbrev pub edge_of : ℕ → ℕ → Edge
edge_of n m = record { before = n; after = m }

-- the pairs of the rows, the first of which is row n
abbrev pub pairs_from : ℕ → List (List ℕ) → List Edge
pairs_from n [] = []
pairs_from n (row ∷ rows) = map (λ m. edge_of m n) row ++ pairs_from (suc n) rows

-- each member of a row with the row's number
unfoldable pub pairs_of : List (List ℕ) → List Edge
pairs_of rows = pairs_from 0 rows

-- a is in the row of b
abbrev pub HasPair : List (List ℕ) → ℕ → ℕ → Type 0
HasPair rows a b = Contains (row_at rows b) a

-- rows that are closed under following them, and in which no number comes before itself
pub record IsClosed (rows : List (List ℕ)) : Type 0 where
  pub some : 0 < length rows
  pub few : length rows ≤ ROW_BITS
  pub below : (a b : ℕ) → HasPair rows a b → a < length rows
  pub transitive : (a b c : ℕ) → HasPair rows a b → HasPair rows b c → HasPair rows a c
  pub irreflexive : (a : ℕ) → ¬ HasPair rows a a

-- with each number the row has what comes before it
abbrev pub IsDown : List (List ℕ) → List ℕ → Type 0
IsDown rows row = (a b : ℕ) → HasPair rows a b → Contains row b → Contains row a

-- n is m or comes before it
abbrev pub IsUpTo : List (List ℕ) → ℕ → ℕ → Type 0
IsUpTo rows n m = (n ≡ m) ⊎ HasPair rows n m

-- the row has gained what stands in a relation to one number
abbrev pub GainsOne : (ℕ → ℕ → Type 0) → ℕ → List ℕ → List ℕ → Type 0
GainsOne R m old new = (n : ℕ) → Contains new n ↔ (Contains old n ⊎ R n m)

-- the row has gained what stands in a relation to some member
abbrev pub GainsAll : (ℕ → ℕ → Type 0) → List ℕ → List ℕ → List ℕ → Type 0
GainsAll R members old new = (n : ℕ) → Contains new n ↔ (Contains old n ⊎ Any (λ m. R n m) members)

-- a row that has the target has gained the members of another row; any other row stays
abbrev pub Carries : ℕ → List ℕ → List ℕ → List ℕ → Type 0
Carries target gained old new = (n : ℕ) → Contains new n ↔ (Contains old n ⊎ (Contains old target × Contains gained n))

-- one row has been carried over; all others stay
pub record CarriesAt (number target : ℕ) (gained : List ℕ) (old new : List (List ℕ)) : Type 0 where
  pub size : length new ≡ length old
  pub carried : Carries target gained (row_at old number) (row_at new number)
  pub others : (k : ℕ) → ¬ k ≡ number → row_at new k ≡ row_at old k

-- each of so many rows, from the first on, has been carried over; all others stay
pub record CarriesUpTo (count : ℕ) (target : ℕ) (gained : List ℕ) (old new : List (List ℕ)) : Type 0 where
  pub size : length new ≡ length old
  pub carried : (k : ℕ) → k < count → Carries target gained (row_at old k) (row_at new k)
  pub others : (k : ℕ) → count ≤ k → row_at new k ≡ row_at old k

-- the row of the target, and each row that has the target, has gained the members of another row
pub record Spreads (target : ℕ) (gained : List ℕ) (old new : List (List ℕ)) : Type 0 where
  pub size : length new ≡ length old
  pub rows : (k n : ℕ) →
      HasPair new n k ↔ (HasPair old n k ⊎ (((k ≡ target) ⊎ HasPair old target k) × Contains gained n))

-- row k has the members of star k and what comes before them
abbrev pub AreStarRows : List (List ℕ) → List Star → List (List ℕ) → Type 0
AreStarRows rows stars befores =
    (k : ℕ) (star : Star) → k < length stars → slice_index_or stars k star ≡ star →
    (n : ℕ) → Contains (row_at befores k) n ↔ Any (λ m. IsUpTo rows n m) star.members.items
