-- The edges that lead to each number, from the last one to the first.
use Rattle.std.specs.Prelude.{◌≡◌, ◌≢◌, ◌<◌, ◌≤◌, ◌-◌, ℕ, Bool, Some, List, length, slice_get, slice_index}
use Rattle.graph_base.specs.declared.Edge.{Edge}
use Rattle.order_witness.specs.Marks.{IsMarked, IsUnmarked}

-- the turn is 0, or the edge before it leads to the number
abbrev pub LeadsInto : List Edge → ℕ → ℕ → Type 0
LeadsInto edges number turn = (edge : Edge) → 0 < turn → slice_get edges (turn - 1) ≡ Some edge → edge.after ≡ number

-- of the first edges, as many as the end says, the last one that leads to the number stands before the turn, which is 0 where none does
pub record IsTurn (edges : List Edge) (number turn end : ℕ) : Type 0 where
  pub within : turn ≤ end
  pub into : LeadsInto edges number turn
  pub none : (k : ℕ) (edge : Edge) → turn ≤ k → k < end → slice_get edges k ≡ Some edge → edge.after ≢ number

-- each number below the size has its turn
pub record AreTurns (edges : List Edge) (size end : ℕ) (turns : List ℕ) : Type 0 where
  pub size_is : length turns ≡ size
  pub each : (n : ℕ) → n < size → IsTurn edges n (slice_index turns n) end

-- at the place of each edge stands the turn of its number among the edges before it
pub record AreEarlier (edges : List Edge) (end : ℕ) (earlier : List ℕ) : Type 0 where
  pub count : length earlier ≡ end
  pub each : (k : ℕ) (edge : Edge) → k < end → slice_get edges k ≡ Some edge → IsTurn edges edge.after (slice_index earlier k) k

-- from the turn on each edge to the number comes from a marked one
pub record IsPassed (edges : List Edge) (marks : List Bool) (number turn : ℕ) : Type 0 where
  pub within : turn ≤ length edges
  pub into : LeadsInto edges number turn
  pub marked : (k : ℕ) (edge : Edge) → turn ≤ k → slice_get edges k ≡ Some edge → edge.after ≡ number → IsMarked marks edge.before

-- so it is with the turn of each number below the size
pub record ArePassed (edges : List Edge) (marks : List Bool) (size : ℕ) (turns : List ℕ) : Type 0 where
  pub size_is : length turns ≡ size
  pub each : (n : ℕ) → n < size → IsPassed edges marks n (slice_index turns n)

-- the edge before the turn comes from a number that isn't marked
abbrev pub IsBlocked : List Edge → List Bool → ℕ → Type 0
IsBlocked edges marks turn = (edge : Edge) → 0 < turn → slice_get edges (turn - 1) ≡ Some edge → IsUnmarked marks edge.before

-- all below k are marked
abbrev pub AreMarkedBelow : List Bool → ℕ → Type 0
AreMarkedBelow marks k = (m : ℕ) → m < k → IsMarked marks m
