-- Choice words from a list.
use Rattle.std.specs.Prelude.{◌≡◌, ℕ, List, drop, unwrap_or, slice_get}

-- the next word is the first that is left, or 0 where none is
abbrev pub DrawsFirst : List ℕ → ℕ → List ℕ → Type 0
DrawsFirst left word rest = (word ≡ unwrap_or (slice_get left 0) 0) × (rest ≡ drop 1 left)
