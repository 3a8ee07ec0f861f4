-- Rows beside one another.
use Rattle.std.specs.Prelude.{Bool, true, false, if◌then◌else◌, List, [], ◌∷◌}
use Rattle.cell_base.specs.declared.key.Key.{Key}
use Rattle.row_meaning.specs.Insertion.{same_key}
use Rattle.row_meaning.specs.Pictures.{TableRow}

-- whether a row has the key of the one before it, where this key stands before the first
abbrev pub has_twins_after : Key → List TableRow → Bool
has_twins_after before [] = false
has_twins_after before (row ∷ rows) = if same_key before row.0 then true else has_twins_after row.0 rows

abbrev pub has_twins : List TableRow → Bool
has_twins [] = false
has_twins (row ∷ rows) = has_twins_after row.0 rows
