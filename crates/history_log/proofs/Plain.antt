-- Which bytes words are made of: neither a line feed nor a blank, and outside cells no point.
use Rattle.std.proofs.Common.{◌≡◌, ◌≢◌, ℕ, ℤ, zero, suc, pos, negsuc, ◌+◌, ◌/◌, ◌%◌, ◌<◌, ◌^◌, ◌==◌, ◌&&◌, ◌||◌, Bool, true, false, List, [], ◌∷◌, ◌++◌, length, get_or, refl, nat_lt, ◌∙◌, arith}
use Rattle.std.proofs.lemmas.Fmt.{decimal_by_steps}
use Rattle.std.proofs.lemmas.Bool.Decides.{nat_tests}
use Rattle.std.specs.Prelude.{codes}
use Rattle.std.specs.Fmt.{decimal, signed_decimal}
use Rattle.std.specs.List.{AllByRecursion, join_with_byte}
use Rattle.std.specs.Str.{IsUtf8}
use Rattle.hex.specs.Hex.{encode_with, lower_digits, IsBytes}
use Rattle.cell_base.specs.declared.cell.Cell.{Cell}
use Rattle.cell_base.specs.declared.cell.Cell.TheVariants.{Presence, Field}
use Rattle.cell_base.specs.declared.key.Key.{Key}
use Rattle.cell_base.specs.declared.key.Key.TheVariants as keys
use Rattle.cell_base.specs.declared.value.Value.{Value}
use Rattle.cell_base.specs.declared.value.Value.TheVariants as values
use Rattle.cell_base.specs.declared.level.Level.{Level}
use Rattle.cell_base.specs.declared.level.Level.TheVariants.{Rc, Ra, Cc}
use Rattle.history_log.specs.Cut.{Lacks}
use Rattle.history_log.specs.Spelling.{text_word, key_word, cell_parts, cell_word, value_word, level_word}
use Rattle.history_log.specs.Reading.{FitsKey, FitsCell, FitsValue, IsI64}
use Rattle.history_log.proofs.Spelled.{mag_small, utf8_bytes}

-- neither a line feed nor a blank
abbrev pub IsInk : ℕ → Type 0
IsInk b = (b ≢ 10) × (b ≢ 32)

-- nor a point
abbrev pub IsPlain : ℕ → Type 0
IsPlain b = (b ≢ 10) × (b ≢ 32) × (b ≢ 46)

abbrev pub Ink : List ℕ → Type 0
Ink bs = AllByRecursion IsInk bs

abbrev pub Plain : List ℕ → Type 0
Plain bs = AllByRecursion IsPlain bs

module _ (P : ℕ → Type 0) where
  pub all_append : (xs ys : List ℕ) → AllByRecursion P xs → AllByRecursion P ys → AllByRecursion P (xs ++ ys)
  all_append [] ys p q = q
  all_append (x ∷ xs) ys p q = (p.0, all_append xs ys p.1 q)

  pub all_at : (xs : List ℕ) (k : ℕ) → AllByRecursion P xs → k < length xs → P (get_or xs k 0)
  all_at [] k p lt = absurd (omega arith)
  all_at (x ∷ xs) zero p lt = p.0
  all_at (x ∷ xs) (suc k) p lt = all_at xs k p.1 (omega arith)

pub all_weaker : (P Q : ℕ → Type 0) (f : (b : ℕ) → P b → Q b) (xs : List ℕ) → AllByRecursion P xs → AllByRecursion Q xs
all_weaker P Q f [] p = tt
all_weaker P Q f (x ∷ xs) p = (f x p.0, all_weaker P Q f xs p.1)

pub ink : (bs : List ℕ) → Plain bs → Ink bs
ink bs plain = all_weaker IsPlain IsInk (λ b p. (p.0, p.1)) bs plain

not_at : (c : ℕ) (xs : List ℕ) (k : ℕ) → AllByRecursion (λ b. b ≢ c) xs → k < length xs → get_or xs k c ≡ c → ⊥
not_at c [] k h lt e = omega arith
not_at c (x ∷ xs) zero h lt e = h.0 e
not_at c (x ∷ xs) (suc k) h lt e = not_at c xs k h.1 (omega arith) e

pub lacks_from : (c : ℕ) (xs : List ℕ) → AllByRecursion (λ b. b ≢ c) xs → Lacks c xs
lacks_from c xs h k = not_at c xs k.0 h k.1 k.2

pub plain_lacks_point : (bs : List ℕ) → Plain bs → Lacks 46 bs
plain_lacks_point bs plain = lacks_from 46 bs (all_weaker IsPlain (λ b. b ≢ 46) (λ b p. p.2) bs plain)

pub ink_lacks_blank : (bs : List ℕ) → Ink bs → Lacks 32 bs
ink_lacks_blank bs inked = lacks_from 32 bs (all_weaker IsInk (λ b. b ≢ 32) (λ b p. p.1) bs inked)

-- digits are above each byte of the marks
decimal_high : (n : ℕ) → n < 2 ^ 64 → AllByRecursion (λ b. 47 < b) (decimal n)
decimal_high = decimal_by_steps (λ n ds. AllByRecursion (λ b. 47 < b) ds) (λ n lt. (omega arith, tt))
    (λ n ds low done. all_append (λ b. 47 < b) ds ((48 + n % 10) ∷ []) done (omega arith, tt))

pub digits_lack : (byte n : ℕ) → byte < 48 → n < 2 ^ 32 → Lacks byte (decimal n)
digits_lack byte n low fits = lacks_from byte (decimal n) (all_weaker (λ b. 47 < b) (λ b. b ≢ byte) (λ b high e. omega arith) (decimal n) (decimal_high n (omega arith)))

-- literals, by a test that computes
unfoldable pub test_plain : List ℕ → Bool
test_plain [] = true
test_plain (b ∷ bs) = (nat_lt 46 b || (b == 45)) && test_plain bs

and_parts : (a b : Bool) → (a && b) ≡ true → (a ≡ true) × (b ≡ true)
and_parts true b e = (refl, e)
and_parts false b e = (cc, cc)

plain_byte : (b : ℕ) → (nat_lt 46 b || (b == 45)) ≡ true → IsPlain b
plain_byte b e = grind (arith, nat_tests)

pub plain_by_test : (bs : List ℕ) → test_plain bs ≡ true → Plain bs
unfolding test_plain
plain_by_test [] e = tt
plain_by_test (b ∷ bs) e = let both = and_parts (nat_lt 46 b || (b == 45)) (test_plain bs) e in (plain_byte b both.0, plain_by_test bs both.1)

high_plain : (b : ℕ) → 47 < b → IsPlain b
high_plain b h = (λ e. omega arith, λ e. omega arith, λ e. omega arith)

pub decimal_plain : (n : ℕ) → n < 2 ^ 64 → Plain (decimal n)
decimal_plain = decimal_by_steps (λ n ds. Plain ds) (λ n lt. (high_plain (48 + n) (omega arith), tt))
    (λ n ds low done. all_append IsPlain ds ((48 + n % 10) ∷ []) done (high_plain (48 + n % 10) (omega arith), tt))

pub signed_plain : (z : ℤ) → IsI64 z → Plain (signed_decimal z)
signed_plain (pos n) fits = decimal_plain n (let m : n < 2 ^ 63 = mag_small (pos n) fits in omega arith)
signed_plain (negsuc n) fits = ((λ e. omega arith, λ e. omega arith, λ e. omega arith), decimal_plain (suc n) (let m : n < 2 ^ 63 = mag_small (negsuc n) fits in omega arith))

hex_digit_plain : (d : ℕ) → d < 16 → IsPlain (get_or lower_digits d 0)
unfolding test_plain
hex_digit_plain d lt = all_at IsPlain lower_digits d (plain_by_test lower_digits refl) lt

hex_plain : (bytes : List ℕ) → IsBytes bytes → Plain (encode_with lower_digits bytes)
unfolding encode_with
hex_plain [] small = tt
hex_plain (b ∷ bs) small =
    let lt : b < 256 = small 0 in
    (hex_digit_plain (b / 16) (omega arith), (hex_digit_plain (b % 16) (omega arith), hex_plain bs (λ i. small (suc i))))

pub text_plain : (bytes : List ℕ) → IsUtf8 bytes → Plain (text_word bytes)
text_plain bytes is = ((λ e. omega arith, λ e. omega arith, λ e. omega arith), hex_plain bytes (utf8_bytes bytes is))

pub key_plain : (key : Key) → FitsKey key → Plain (key_word key)
key_plain (keys.Int n) fits = signed_plain n fits
key_plain (keys.Text bytes) fits = text_plain bytes fits

-- the parts of a cell, and the cell
pub parts_plain : (cell : Cell) → FitsCell cell → AllByRecursion Plain (cell_parts cell)
parts_plain (Presence table key) fits = (letter_p, (decimal_plain table (omega (arith, fits.0)), (key_plain key fits.1, tt))) where
  letter_p : Plain (codes "p")
  letter_p = ((λ e. omega arith, λ e. omega arith, λ e. omega arith), tt)
parts_plain (Field table key column) fits = (letter_f, (decimal_plain table (omega (arith, fits.0)), (key_plain key fits.1, (decimal_plain column (omega (arith, fits.2)), tt)))) where
  letter_f : Plain (codes "f")
  letter_f = ((λ e. omega arith, λ e. omega arith, λ e. omega arith), tt)

joined_ink : (parts : List (List ℕ)) → AllByRecursion Plain parts → Ink (join_with_byte 46 parts)
joined_ink [] all = tt
joined_ink (x ∷ []) all = ink x all.0
joined_ink (x ∷ y ∷ xs) all = all_append IsInk x (46 ∷ join_with_byte 46 (y ∷ xs)) (ink x all.0) ((λ e. omega arith, λ e. omega arith), joined_ink (y ∷ xs) all.1)

pub cell_ink : (cell : Cell) → FitsCell cell → Ink (cell_word cell)
cell_ink cell fits = joined_ink (cell_parts cell) (parts_plain cell fits)

pub cell_lacks_blank : (byte : ℕ) (cell : Cell) → byte ≡ 32 → FitsCell cell → Lacks byte (cell_word cell)
cell_lacks_blank byte cell is fits = lacks_from byte (cell_word cell) (all_weaker IsInk (λ b. b ≢ byte) (λ b inked e. inked.1 (e ∙ is)) (cell_word cell) (cell_ink cell fits))

pub value_plain : (value : Value) → FitsValue value → Plain (value_word value)
unfolding test_plain
value_plain values.Unset fits = plain_by_test (codes "unset") refl
value_plain values.Null fits = plain_by_test (codes "null") refl
value_plain (values.Flag true) fits = plain_by_test (codes "true") refl
value_plain (values.Flag false) fits = plain_by_test (codes "false") refl
value_plain (values.Int n) fits = signed_plain n fits
value_plain (values.Wide n) fits = absurd fits
value_plain (values.Text bytes) fits = text_plain bytes fits

pub level_plain : (level : Level) → Plain (level_word level)
unfolding test_plain
level_plain Rc = plain_by_test (codes "rc") refl
level_plain Ra = plain_by_test (codes "ra") refl
level_plain Cc = plain_by_test (codes "cc") refl
