-- Values are put into a row one after another.
use Rattle.std.proofs.Common.{◌≡◌, ℕ, List, [], ◌∷◌, ◌++◌, refl}
use Rattle.std.specs.Prelude.{slice_set}
use Rattle.cell_base.specs.declared.value.Value.{Value}
use Rattle.row_meaning.specs.Pictures.{with_values}

pub one_more : (row : List Value) (read : List (ℕ × Value)) (column : ℕ) (v : Value)
    → with_values row (read ++ (column, v) ∷ []) ≡ slice_set (with_values row read) column v
one_more row [] column v = refl
one_more row ((c, w) ∷ read) column v = one_more (slice_set row c w) read column v
