-- Walks over the bytes that a session was told, step by step.
use Rattle.std.proofs.Common.{◌≡◌, ◌<◌, ◌+◌, ◌-◌, ℕ, zero, suc, List, [], ◌∷◌, ◌++◌, length, take, drop, Bool, true, false, ◌==◌, None, Some, refl, sym, ◌∙◌, ap, slice_index, slice_range, arith}
use Rattle.std.proofs.lemmas.List.{drop_more, drop-drop, take_all, length-drop}
use Rattle.std.proofs.lemmas.Bool.{cond-true, cond-false, ne_eqb}
use Rattle.cell_base.specs.Texts.{HasNoZero}
use Rattle.client_framing.specs.Fronts.{number_at}
use Rattle.cell_base.proofs.Zeros.{NoZero, no_zero_from}
use Rattle.setup_client.specs.Errors.{text_at, is_field, field_from, fault_of, has_message, kind_at, body_at, following, number_after, first_among}

text_by : (text after : List ℕ) → NoZero text → text_at (text ++ 0 ∷ after) ≡ text
text_by [] after none = refl
text_by (x ∷ text) after none = cond-false _ _ _ (ne_eqb x 0 none.0) ∙ ap (λ (bs : List ℕ). x ∷ bs) (text_by text after none.1)

text_whole : (text : List ℕ) → NoZero text → text_at text ≡ text
text_whole [] none = refl
text_whole (x ∷ text) none = cond-false _ _ _ (ne_eqb x 0 none.0) ∙ ap (λ (bs : List ℕ). x ∷ bs) (text_whole text none.1)

-- a text ends before the first zero byte
pub text_ends : (bytes text after : List ℕ) → bytes ≡ text ++ 0 ∷ after → HasNoZero text → text ≡ text_at bytes
text_ends bytes text after is none = sym (ap text_at is ∙ text_by text after (no_zero_from text none))

pub text_goes_on : (bytes : List ℕ) → HasNoZero bytes → bytes ≡ text_at bytes
text_goes_on bytes none = sym (text_whole bytes (no_zero_from bytes none))

-- one byte on, where no field of the letter begins
pub field_skips : (begins : Bool) (letter : ℕ) (body : List ℕ) (at : ℕ) → at < length body →
    is_field begins letter (slice_index body at) ≡ false →
    field_from begins letter (drop at body) ≡ field_from (slice_index body at == 0) letter (drop (at + 1) body)
field_skips begins letter body at within none =
    ap (field_from begins letter) (drop_more body at 0 within) ∙ cond-false _ _ _ none

-- a field of the letter begins here
pub field_found : (begins : Bool) (letter : ℕ) (body : List ℕ) (at : ℕ) → at < length body →
    is_field begins letter (slice_index body at) ≡ true →
    field_from begins letter (drop at body) ≡ text_at (drop (at + 1) body)
field_found begins letter body at within some =
    ap (field_from begins letter) (drop_more body at 0 within) ∙ cond-true _ _ _ some

-- no message is there
pub none_there : (more number : ℕ) (bytes : List ℕ) → has_message bytes ≡ false → first_among more number bytes ≡ None
none_there zero number bytes none = refl
none_there (suc more) number bytes none = cond-false _ _ _ none

-- the message at the front is an error
pub error_there : (more number : ℕ) (bytes : List ℕ) → 0 < more → has_message bytes ≡ true → kind_at bytes == 69 ≡ true →
    first_among more number bytes ≡ Some (fault_of number (body_at bytes))
error_there zero number bytes some whole error = absurd (omega (arith, some))
error_there (suc more) number bytes some whole error = cond-true _ _ _ whole ∙ cond-true _ _ _ error

-- the message at the front is none
pub other_there : (more number : ℕ) (bytes : List ℕ) → has_message bytes ≡ true → kind_at bytes == 69 ≡ false →
    first_among (suc more) number bytes ≡ first_among more (number_after (kind_at bytes) number) (following bytes)
other_there more number bytes whole other = cond-true _ _ _ whole ∙ cond-false _ _ _ other

-- what is left of a slice
pub rest_is : (bytes : List ℕ) (at : ℕ) → take (length bytes - at) (drop at bytes) ≡ drop at bytes
rest_is bytes at = take_all (length bytes - at) (drop at bytes) (omega (arith, length-drop at bytes))

one_less : (n k : ℕ) → k < n → suc (n - (k + 1)) ≡ n - k
one_less n k less = omega (arith, less)

-- The walk ends where no message stands, or with the error that stands there; else it goes on after the message, with one message less to come.
module _ (told : List ℕ) (counter at number : ℕ) (bytes : List ℕ) (is : bytes ≡ drop at told) (within : counter < length told) where
  pub walk_ends : has_message bytes ≡ false → None ≡ first_among (length told - counter) number (drop at told)
  walk_ends none =
      sym (none_there (length told - counter) number bytes none) ∙ ap (first_among (length told - counter) number) is

  pub walk_finds : (size : ℕ) → size ≡ 1 + number_at 1 bytes → has_message bytes ≡ true → kind_at bytes == 69 ≡ true →
      Some (fault_of number (slice_range bytes 5 size)) ≡ first_among (length told - counter) number (drop at told)
  walk_finds size size_is whole error =
      ap (λ (n : ℕ). Some (fault_of number (slice_range bytes 5 n))) size_is
      ∙ sym (error_there (length told - counter) number bytes (omega (arith, within)) whole error)
      ∙ ap (first_among (length told - counter) number) is

  pub walk_goes_on : (size : ℕ) → size ≡ 1 + number_at 1 bytes → has_message bytes ≡ true → kind_at bytes == 69 ≡ false →
      first_among (length told - (counter + 1)) (number_after (kind_at bytes) number) (drop (at + size) told)
      ≡ first_among (length told - counter) number (drop at told)
  walk_goes_on size size_is whole other =
      ap (first_among (length told - (counter + 1)) (number_after (kind_at bytes) number))
      (sym (drop-drop size at told) ∙ ap (drop size) (sym is) ∙ ap (λ (n : ℕ). drop n bytes) size_is)
      ∙ sym (other_there (length told - (counter + 1)) number bytes whole other)
      ∙ ap (λ (n : ℕ). first_among n number bytes) (one_less (length told) counter within)
      ∙ ap (first_among (length told - counter) number) is
