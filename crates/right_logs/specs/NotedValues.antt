-- What the noted values mean.
use Rattle.std.specs.Prelude.{◌≡◌, ◌<◌, ◌≤◌, ◌^◌, ℕ, ℤ, pos, negsuc, nat_lt, if◌then◌else◌, Some, None, Option, List, map, length, slice_get, slice_index_or}
use Rattle.cell_base.specs.declared.value.Value.{Value}
use Rattle.cell_base.specs.declared.value.Value.TheVariants as values
use Rattle.right_logs.specs.declared.noted_values.NotedValue.{NotedValue}
use Rattle.right_logs.specs.declared.noted_values.NotedValue.TheVariants as notes

-- the value that the note stands for, beside those that are kept apart
abbrev pub means : List Value → NotedValue → Value
means apart notes.Unset = values.Unset
means apart notes.Null = values.Null
means apart (notes.Flag flag) = values.Flag flag
means apart (notes.Compact number) = values.Int (pos number)
means apart (notes.Apart number) = slice_index_or apart number values.Unset

abbrev pub values_in : List Value → List NotedValue → List Value
values_in apart noted = map (means apart) noted

-- there are no more values apart than notes, and each number is that of one of them
pub record AreApart (apart : List Value) (noted : List NotedValue) : Type 0 where
  pub few : length apart ≤ length noted
  pub within : (k number : ℕ) → slice_get noted k ≡ Some (notes.Apart number) → number < length apart

-- the note of an integer, where it is compact
abbrev pub compact_number : ℤ → Option NotedValue
compact_number (pos n) = if nat_lt n (2 ^ 32) then Some (notes.Compact n) else None
compact_number (negsuc n) = None

-- the note of the value, where it needn't be kept apart
abbrev pub compact_of : Value → Option NotedValue
compact_of values.Unset = Some notes.Unset
compact_of values.Null = Some notes.Null
compact_of (values.Flag flag) = Some (notes.Flag flag)
compact_of (values.Int n) = compact_number n
compact_of (values.Wide n) = None
compact_of (values.Text text) = None
