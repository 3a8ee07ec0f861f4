-- Which number may be placed next, by what reaches it.
use Rattle.std.specs.Prelude.{◌≡◌, ◌<◌, ◌≤◌, ℕ, Bool, List, length, get_or}
use Rattle.graph_base.specs.declared.Edge.{Edge}
use Rattle.graph_base.specs.Walk.{Reaches}
use Rattle.order_witness.specs.Marks.{IsMarked, IsUnmarked}

-- each number that reaches this one is marked
abbrev pub IsReadyBy : List Edge → List Bool → ℕ → Type 0
IsReadyBy edges marks n = (m : ℕ) → Reaches edges m n → IsMarked marks m

-- the number isn't marked, and each that reaches it is
pub record MayBeMarked (edges : List Edge) (marks : List Bool) (n : ℕ) : Type 0 where
  pub unmarked : IsUnmarked marks n
  pub ready : IsReadyBy edges marks n

-- each below k that reaches n is marked
abbrev pub IsPassed : List Edge → List Bool → ℕ → ℕ → Type 0
IsPassed edges marks n k = (m : ℕ) → m < k → Reaches edges m n → IsMarked marks m

-- of each number below the size the list has how far those that reach it were found marked
pub record ArePassed (size : ℕ) (edges : List Edge) (marks : List Bool) (passed : List ℕ) : Type 0 where
  pub size_is : length passed ≡ size
  pub each : (n : ℕ) → n < size → (get_or passed n 0 ≤ size) × IsPassed edges marks n (get_or passed n 0)

-- all below k are marked
abbrev pub AreMarkedBelow : List Bool → ℕ → Type 0
AreMarkedBelow marks k = (m : ℕ) → m < k → IsMarked marks m
