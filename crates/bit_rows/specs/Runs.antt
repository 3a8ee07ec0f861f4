-- Runs of numbers: from a first one up to, without, an end.
use Rattle.std.specs.Prelude.{◌≡◌, ◌<◌, ◌≤◌, ◌-◌, ◌*◌, ◌^◌, ◌↔◌, ◌⊎◌, ℕ, List, length, min, slice_index, bit_or}
use Rattle.std.specs.List.{range_with_len}

-- the number is in the run
abbrev pub IsInRun : ℕ → ℕ → ℕ → Type 0
IsInRun first end n = (first ≤ n) × (n < end)

-- the numbers of the run, in rising order
unfoldable pub numbers_of : ℕ → ℕ → List ℕ
numbers_of first end = range_with_len first (end - first)

-- a run has the numbers of two others
abbrev pub JoinsRun : ℕ → ℕ → ℕ → ℕ → ℕ → ℕ → Type 0
JoinsRun first end other_first other_end joined_first joined_end =
    (n : ℕ) → IsInRun joined_first joined_end n ↔ (IsInRun first end n ⊎ IsInRun other_first other_end n)

-- the bits of one word that the run has
abbrev pub bits_of_run : ℕ → ℕ → ℕ → ℕ
bits_of_run first end word = 2 ^ min (end - 64 * word) 64 - 2 ^ (first - 64 * word)

-- the words from one on, up to another one, have gained the run's bits; all others stay
pub record FillsWords (first end from to : ℕ) (old new : List ℕ) : Type 0 where
  pub size : length new ≡ length old
  pub filled : (k : ℕ) → from ≤ k → k < to → slice_index new k ≡ bit_or (slice_index old k) (bits_of_run first end k)
  pub others : (k : ℕ) → (k < from) ⊎ (to ≤ k) → slice_index new k ≡ slice_index old k

-- all bits of the words from one on, up to another one, have been set; all other words stay
pub record SetsWords (from to : ℕ) (old new : List ℕ) : Type 0 where
  pub size : length new ≡ length old
  pub whole : (k : ℕ) → from ≤ k → k < to → slice_index new k ≡ bit_or (slice_index old k) 18446744073709551615
  pub others : (k : ℕ) → (k < from) ⊎ (to ≤ k) → slice_index new k ≡ slice_index old k
