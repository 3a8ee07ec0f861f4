-- What kept rows stand for.
use Rattle.std.specs.Prelude.{ℕ, List, Contains}
use Rattle.graph_base.specs.declared.Edge.{Edge}
use Rattle.graph_base.specs.Walk.{Reaches}
use Rattle.graph_base.specs.Trial.{AllTouch}

-- how many numbers there are, and the pairs of which the first reaches the second
pub record Ancestry : Type 0 where
  pub size : ℕ
  pub pairs : List Edge

-- nothing comes after the number
pub record IsLast (edges : List Edge) (n : ℕ) : Type 0 where
  pub reaches_none : (b : ℕ) → ¬ Reaches edges n b

-- with each number the row has what comes before it
abbrev pub IsDownOver : List Edge → List ℕ → Type 0
IsDownOver edges row = (a b : ℕ) → Reaches edges a b → Contains row b → Contains row a

-- some one number stands in every edge
abbrev pub ShareNumber : List Edge → Type 0
ShareNumber trial = (hub : ℕ) × AllTouch hub trial
