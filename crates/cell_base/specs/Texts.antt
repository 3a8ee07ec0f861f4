-- Texts, as lists of their bytes.
use Rattle.std.specs.Prelude.{ℕ, List, Contains}

-- a text that a zero byte can end, so it holds none
abbrev pub HasNoZero : List ℕ → Type 0
HasNoZero text = ¬ (Contains text 0)
