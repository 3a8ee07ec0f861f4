-- How many bytes a row takes as a message.
use Rattle.std.proofs.Common.{◌≡◌, ℕ, ◌+◌, ◌^◌, ◌-◌, ◌≤◌, Bool, true, false, List, [], ◌∷◌, length, take, min, refl, sym, ap, ◌∙◌, length-append, arith}
use Rattle.std.specs.Prelude.{ℤ, Some, sum_by}
use Rattle.std.specs.Fmt.{signed_decimal}
use Rattle.std.proofs.lemmas.List.{take_all}
use Rattle.std.proofs.lemmas.List.Concat.{length-flat_map}
use Rattle.cell_base.specs.declared.value.Value.{Value}
use Rattle.cell_base.specs.declared.value.Value.TheVariants.{Unset, Null, Flag, Int, Wide, Text}
use Rattle.pg_framing.specs.Replies.{framed, text_bytes, value_bytes, data_row}
use Rattle.pg_framing.proofs.Numbers.{length-four_bytes}
use Rattle.pg_framing.proofs.Lengths.{length-two_bytes}

abbrev pub size : Value → ℕ
size v = length (value_bytes v)

-- ---- values

some_size : (text : List ℕ) → 4 + length text ≡ length (text_bytes (Some text))
some_size text = simp (length-append, length-four_bytes) refl

pub null_size : 4 ≡ length (value_bytes Null)
unfolding value_bytes
null_size = sym (length-four_bytes 4294967295)

pub unset_size : 4 ≡ length (value_bytes Unset)
unfolding value_bytes
unset_size = sym (length-four_bytes 4294967295)

pub flag_size : (flag : Bool) → 5 ≡ length (value_bytes (Flag flag))
unfolding value_bytes
flag_size true = some_size (116 ∷ [])
flag_size false = some_size (102 ∷ [])

pub int_size : (n : ℤ) → 4 + length (signed_decimal n) ≡ length (value_bytes (Int n))
unfolding value_bytes
int_size n = some_size (signed_decimal n)

pub wide_size : (n : ℤ) → 4 + length (signed_decimal n) ≡ length (value_bytes (Wide n))
unfolding value_bytes
wide_size n = some_size (signed_decimal n)

pub text_size : (text : List ℕ) → 4 + length text ≡ length (value_bytes (Text text))
unfolding value_bytes
text_size text = some_size text

-- ---- rows

pub row_size : (row : List Value) → 7 + sum_by size row ≡ length (data_row row)
unfolding data_row framed
row_size row = simp (length-append, length-four_bytes, length-two_bytes, length-flat_map value_bytes row) (omega arith)

-- where all values are counted
pub row_bytes : (row : List Value) (i n : ℕ) → length row ≤ i → n ≡ min (7 + sum_by size (take i row)) (2 ^ 64 - 1)
    → n ≡ min (length (data_row row)) (2 ^ 64 - 1)
row_bytes row i n over is = is ∙ ap (λ vs. min (7 + sum_by size vs) (2 ^ 64 - 1)) (take_all i row over) ∙ ap (λ k. min k (2 ^ 64 - 1)) (row_size row)
