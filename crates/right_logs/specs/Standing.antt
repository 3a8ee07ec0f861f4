-- How far the transactions up to each reach in the order.
use Rattle.std.specs.Prelude.{◌<◌, ◌≤◌, ℕ, List, length, slice_index}

-- none of the numbers up to one stands after the place beside it
abbrev pub AreHighest : List ℕ → List ℕ → Type 0
AreHighest places highest = (m n : ℕ) → m ≤ n → n < length highest → slice_index places m ≤ slice_index highest n
