-- The walk that looks for a ReadyForQuery inside a block, step by step.
use Rattle.std.proofs.Common.{◌≡◌, ◌<◌, ◌+◌, ◌-◌, ℕ, zero, suc, List, length, drop, Bool, true, false, ◌==◌, if◌then◌else◌, refl, sym, ◌∙◌, ap, slice_range, arith}
use Rattle.std.proofs.lemmas.List.{drop-drop}
use Rattle.std.proofs.lemmas.Bool.{cond-true, cond-false}
use Rattle.client_framing.specs.Fronts.{number_at}
use Rattle.setup_client.specs.Errors.{has_message, kind_at, following}
use Rattle.setup_client.specs.Blocks.{is_in_block, says_block, block_among}

-- no message is there
none_there : (more : ℕ) (bytes : List ℕ) → has_message bytes ≡ false → block_among more bytes ≡ false
none_there zero bytes none = refl
none_there (suc more) bytes none = cond-false _ _ _ none

-- the message at the front is the one
block_there : (more : ℕ) (bytes : List ℕ) → 0 < more → has_message bytes ≡ true → says_block bytes ≡ true → block_among more bytes ≡ true
block_there zero bytes some whole says = absurd (omega (arith, some))
block_there (suc more) bytes some whole says = cond-true _ _ _ whole ∙ cond-true _ _ _ says

-- it is another one
other_there : (more : ℕ) (bytes : List ℕ) → has_message bytes ≡ true → says_block bytes ≡ false → block_among (suc more) bytes ≡ block_among more (following bytes)
other_there more bytes whole other = cond-true _ _ _ whole ∙ cond-false _ _ _ other

one_less : (n k : ℕ) → k < n → suc (n - (k + 1)) ≡ n - k
one_less n k less = omega (arith, less)

module _ (told : List ℕ) (counter at : ℕ) (bytes : List ℕ) (is : bytes ≡ drop at told) (within : counter < length told) where
  pub block_ends : has_message bytes ≡ false → false ≡ block_among (length told - counter) (drop at told)
  block_ends none = sym (none_there (length told - counter) bytes none) ∙ ap (block_among (length told - counter)) is

  pub block_found : has_message bytes ≡ true → says_block bytes ≡ true → true ≡ block_among (length told - counter) (drop at told)
  block_found whole says =
      sym (block_there (length told - counter) bytes (omega (arith, within)) whole says) ∙ ap (block_among (length told - counter)) is

  pub block_goes_on : (size : ℕ) → size ≡ 1 + number_at 1 bytes → has_message bytes ≡ true → says_block bytes ≡ false →
      block_among (length told - (counter + 1)) (drop (at + size) told) ≡ block_among (length told - counter) (drop at told)
  block_goes_on size size_is whole other =
      ap (block_among (length told - (counter + 1)))
      (sym (drop-drop size at told) ∙ ap (drop size) (sym is) ∙ ap (λ (n : ℕ). drop n bytes) size_is)
      ∙ sym (other_there (length told - (counter + 1)) bytes whole other)
      ∙ ap (λ (n : ℕ). block_among n bytes) (one_less (length told) counter within)
      ∙ ap (block_among (length told - counter)) is

-- what the code tests of a message is what is defined
pub says_as : (bytes : List ℕ) (size : ℕ) (said answer : Bool) → size ≡ 1 + number_at 1 bytes →
    said ≡ (if kind_at bytes == 90 then is_in_block (slice_range bytes 5 size) else false) → said ≡ answer → says_block bytes ≡ answer
says_as bytes size said answer size_is is now =
    ap (λ (n : ℕ). if kind_at bytes == 90 then is_in_block (slice_range bytes 5 n) else false) (sym size_is) ∙ sym is ∙ now
