-- What was handed out and is to come back.
use Rattle.std.specs.Prelude.{ℕ, List}

-- what came back, and how many are out
pub record Returns (T : Type 0) : Type 0 where
  -- what came back, in order
  pub list : List T
  -- how many are out
  pub out : ℕ
