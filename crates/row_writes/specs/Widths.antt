-- How many values rows have.
use Rattle.std.specs.Prelude.{◌≤◌, ⊤, ℕ, List, [], ◌∷◌, length}
use Rattle.row_meaning.specs.Pictures.{TableRow}

-- each row has at most so many values
abbrev pub AreWithin : ℕ → List TableRow → Type 0
AreWithin width [] = ⊤
AreWithin width (row ∷ rows) = (length row.1 ≤ width) × AreWithin width rows
