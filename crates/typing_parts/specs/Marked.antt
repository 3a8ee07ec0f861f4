-- Marks for the columns of a table.
use Rattle.std.specs.Prelude.{◌≡◌, ◌<◌, ℕ, Bool, false, ◌||◌, List, length, get_or}

-- After a walk there are as many marks as before, and a column is marked where it was marked or is one of these.
pub record IsMarked (before after : List Bool) (also : ℕ → Bool) : Type 0 where
  pub same : length after ≡ length before
  pub each : (c : ℕ) → c < length before → get_or after c false ≡ (get_or before c false || also c)
