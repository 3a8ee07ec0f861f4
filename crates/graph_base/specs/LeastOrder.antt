-- The least order by a relation alone: that of the edges, or that of their closure.
use Rattle.std.specs.Prelude.{◌≡◌, ◌<◌, ◌≤◌, ℕ, List, Contains, length, take, slice_index}
use Rattle.graph_base.specs.Order.{place_of}

-- each related pair leads from an earlier place to a later one
abbrev pub RisesAlong : (ℕ → ℕ → Type 0) → List ℕ → Type 0
RisesAlong R order = (a b : ℕ) → R a b → place_of order a < place_of order b

-- n isn't placed yet, and all numbers that are related to it are
pub record MayFollow (size : ℕ) (R : ℕ → ℕ → Type 0) (placed : List ℕ) (n : ℕ) : Type 0 where
  pub in_range : n < size
  pub unplaced : ¬ Contains placed n
  pub ready : (m : ℕ) → R m n → Contains placed m

-- n is the least number that may follow
pub record IsLeastToFollow (size : ℕ) (R : ℕ → ℕ → Type 0) (placed : List ℕ) (n : ℕ) : Type 0 where
  pub may : MayFollow size R placed n
  pub least : (m : ℕ) → MayFollow size R placed m → n ≤ m

-- there are as many numbers as the size says, and each is the least that may follow those before it
pub record PlacesLeast (size : ℕ) (R : ℕ → ℕ → Type 0) (order : List ℕ) : Type 0 where
  pub all : length order ≡ size
  pub each : (k : ℕ) → k < size → IsLeastToFollow size R (take k order) (slice_index order k)
