-- Stars: edges from each of some members to one target.
use Rattle.std.specs.Prelude.{◌≡◌, ◌<◌, ◌↔◌, ◌++◌, ℕ, List, [], ◌∷◌, All, Any, Contains, length, map, slice_index_or}
use Rattle.graph_base.specs.declared.Edge.{Edge}
use Rattle.graph_base.specs.Walk.{Leads}
use Rattle.reach_rows.specs.declared.Star.{Star}
use Rattle.reach_rows.specs.Rows.{row_at}

-- the edges from each member to the target
abbrev pub star_of : List ℕ → ℕ → List Edge
star_of members target = map (λ m. record { before = m; after = target }) members

-- the edges of all stars
abbrev pub edges_of : List Star → List Edge
edges_of [] = []
edges_of (star ∷ stars) = star_of star.members.items star.target ++ edges_of stars

-- the target and each member are below the size
abbrev pub IsStarInRange : ℕ → Star → Type 0
IsStarInRange size star = (star.target < size) × All (λ m. m < size) star.members.items

-- row k has what a walk, which may be empty, leads from to some member of star k
abbrev pub LeadInto : List Edge → List Star → List (List ℕ) → Type 0
LeadInto edges stars befores =
    (k : ℕ) (star : Star) → k < length stars → slice_index_or stars k star ≡ star →
    (n : ℕ) → Contains (row_at befores k) n ↔ Any (λ m. Leads edges n m) star.members.items

-- a walk, which may be empty, leads from the target of star i to some member of star j
pub record Follows (edges : List Edge) (stars : List Star) (i j : ℕ) : Type 0 where
  pub from : Star
  pub to : Star
  pub from_in : i < length stars
  pub from_is : slice_index_or stars i from ≡ from
  pub to_in : j < length stars
  pub to_is : slice_index_or stars j to ≡ to
  pub leads : Any (λ m. Leads edges from.target m) to.members.items
