-- One word is of one value.
use Rattle.std.proofs.Common.{◌≡◌, ℕ, ℤ, pos, negsuc, ◌+◌, ◌%◌, ◌<◌, ◌^◌, List, [], ◌∷◌, Result, Ok, ◌==◌, nat_lt, true, false, cond, refl, sym, ap, ◌∙◌, subst, arith, slice_index}
use Rattle.std.proofs.lemmas.Bool.Decides.{nat_tests}
use Rattle.std.proofs.lemmas.Fmt.{decimal_by_steps, decimal_injective, signed_decimal_injective}
use Rattle.std.specs.Fmt.{decimal, signed_decimal}
use Rattle.std.specs.List.{AllByRecursion}
use Rattle.std.specs.Str.{IsUtf8}
use Rattle.hex.specs.Hex.{encode_lower, decode_of}
use Rattle.hex.specs.declared.error.FromHexError.{FromHexError}
use Rattle.hex.proofs.HexLemmas.{decode_of-encode_lower}
use Rattle.cell_base.specs.declared.cell.Cell.{Cell}
use Rattle.cell_base.specs.declared.cell.Cell.TheVariants.{Presence, Field}
use Rattle.cell_base.specs.declared.key.Key.{Key}
use Rattle.cell_base.specs.declared.key.Key.TheVariants as keys
use Rattle.cell_base.specs.declared.value.Value.{Value}
use Rattle.cell_base.specs.declared.value.Value.TheVariants as values
use Rattle.history_log.specs.declared.cells.CellKind.TheVariants as kinds
use Rattle.history_log.specs.Cut.{cut_at}
use Rattle.history_log.specs.Spelling.{text_word, kind_word, key_word, cell_parts, cell_word, value_word}
use Rattle.history_log.specs.Reading.{IsU32, IsI64, FitsKey, FitsCell, FitsValue}
use Rattle.history_log.proofs.Spelled.{mag_small, utf8_bytes}
use Rattle.history_log.proofs.Plain.{all_append}
use Rattle.history_log.proofs.Misreads.{cell_cut}

-- numbers begin below the letters

low_first : (bs : List ℕ) → AllByRecursion (λ b. b < 58) bs → slice_index bs 0 < 58
low_first [] all = omega arith
low_first (b ∷ bs) all = all.0

low_decimal : (n : ℕ) → n < 2 ^ 64 → AllByRecursion (λ b. b < 58) (decimal n)
low_decimal = decimal_by_steps (λ n ds. AllByRecursion (λ b. b < 58) ds) (λ n lt. (omega arith, tt))
    (λ n ds low done. all_append (λ b. b < 58) ds ((48 + n % 10) ∷ []) done (omega arith, tt))

low_signed : (z : ℤ) → IsI64 z → slice_index (signed_decimal z) 0 < 58
low_signed (pos n) fits = low_first (decimal n) (low_decimal n (let m : n < 2 ^ 63 = mag_small (pos n) fits in omega arith))
low_signed (negsuc n) fits = omega arith

-- the kind of a value, by the first letter of its word

data Kind : Type 0 where
  unset : Kind
  null : Kind
  truth : Kind
  falsity : Kind
  int : Kind
  wide : Kind
  text : Kind

kind : Value → Kind
kind values.Unset = unset
kind values.Null = null
kind (values.Flag true) = truth
kind (values.Flag false) = falsity
kind (values.Int n) = int
kind (values.Wide n) = wide
kind (values.Text bytes) = text

kind_at : ℕ → Kind
kind_at b = cond (nat_lt b 58) int (cond (b == 117) unset (cond (b == 110) null (cond (b == 116) truth (cond (b == 102) falsity text))))

low_kind : (b : ℕ) → b < 58 → kind_at b ≡ int
unfolding kind_at
low_kind b lt = let e : nat_lt b 58 ≡ true = grind (arith, nat_tests) in rw e

kind_back : (v : Value) → FitsValue v → kind_at (slice_index (value_word v) 0) ≡ kind v
unfolding kind_at kind
kind_back values.Unset fits = refl
kind_back values.Null fits = refl
kind_back (values.Flag true) fits = refl
kind_back (values.Flag false) fits = refl
kind_back (values.Int n) fits = low_kind (slice_index (signed_decimal n) 0) (low_signed n fits)
kind_back (values.Wide n) fits = absurd fits
kind_back (values.Text bytes) fits = refl

IsOf : Kind → Value → Type 0
IsOf unset v = v ≡ values.Unset
IsOf null v = v ≡ values.Null
IsOf truth v = v ≡ values.Flag true
IsOf falsity v = v ≡ values.Flag false
IsOf int v = (n : ℤ) × (v ≡ values.Int n)
IsOf wide v = (n : ℤ) × (v ≡ values.Wide n)
IsOf text v = (bytes : List ℕ) × (v ≡ values.Text bytes)

is_of : (v : Value) → IsOf (kind v) v
unfolding IsOf kind
is_of values.Unset = refl
is_of values.Null = refl
is_of (values.Flag true) = refl
is_of (values.Flag false) = refl
is_of (values.Int n) = (n, refl)
is_of (values.Wide n) = (n, refl)
is_of (values.Text bytes) = (bytes, refl)

pub same_text : (a b : List ℕ) → IsUtf8 a → IsUtf8 b → text_word a ≡ text_word b → a ≡ b
same_text a b u v e =
    let d : decode_of (encode_lower a) ≡ Ok a = decode_of-encode_lower a (utf8_bytes a u) in
    let g : decode_of (encode_lower b) ≡ Ok b = decode_of-encode_lower b (utf8_bytes b v) in
    oks a b (sym d ∙ ap decode_of (tails e) ∙ g) where
      tails : text_word a ≡ text_word b → encode_lower a ≡ encode_lower b
      tails e = cc

      oks : (a b : List ℕ) → ◌≡◌ {A = Result (List ℕ) FromHexError} (Ok a) (Ok b) → a ≡ b
      oks a b e = cc

pub same_value : (v w : Value) → FitsValue v → FitsValue w → value_word v ≡ value_word w → v ≡ w
unfolding IsOf kind
same_value v w fv fw e = by_kind v w fv fw e (subst (λ (k : Kind). IsOf k w) (sym (kind_back w fw) ∙ ap (λ (x : List ℕ). kind_at (slice_index x 0)) (sym e) ∙ kind_back v fv) (is_of w)) where
  by_kind : (v w : Value) → FitsValue v → FitsValue w → value_word v ≡ value_word w → IsOf (kind v) w → v ≡ w
  by_kind values.Unset w fv fw e is = sym is
  by_kind values.Null w fv fw e is = sym is
  by_kind (values.Flag true) w fv fw e is = sym is
  by_kind (values.Flag false) w fv fw e is = sym is
  by_kind (values.Int n) w fv fw e is =
      let f = subst (λ (x : Value). FitsValue x) is.1 fw in
      let g = subst (λ (x : Value). signed_decimal n ≡ value_word x) is.1 e in
      ap values.Int (signed_decimal_injective n is.0 (mag_small n fv) (mag_small is.0 f) g) ∙ sym is.1
  by_kind (values.Wide n) w fv fw e is = absurd fv
  by_kind (values.Text bytes) w fv fw e is =
      let f = subst (λ (x : Value). FitsValue x) is.1 fw in
      let g = subst (λ (x : Value). text_word bytes ≡ value_word x) is.1 e in
      ap values.Text (same_text bytes is.0 fv f g) ∙ sym is.1

pub same_key : (a b : Key) → FitsKey a → FitsKey b → key_word a ≡ key_word b → a ≡ b
same_key (keys.Int n) (keys.Int m) fa fb e = ap keys.Int (signed_decimal_injective n m (mag_small n fa) (mag_small m fb) e)
same_key (keys.Int n) (keys.Text b) fa fb e = absurd (let h = same_value (values.Int n) (values.Text b) fa fb e in cc)
same_key (keys.Text a) (keys.Int m) fa fb e = absurd (let h = same_value (values.Text a) (values.Int m) fa fb e in cc)
same_key (keys.Text a) (keys.Text b) fa fb e = ap keys.Text (same_text a b fa fb e)

pub same_number : (a b : ℕ) → IsU32 a → IsU32 b → decimal a ≡ decimal b → a ≡ b
same_number a b fa fb e = decimal_injective a b (omega arith) (omega arith) e

kinds_differ : kind_word kinds.Presence ≡ kind_word kinds.Field → ⊥
kinds_differ e = let h : slice_index (kind_word kinds.Presence) 0 ≡ slice_index (kind_word kinds.Field) 0 = ap (λ (w : List ℕ). slice_index w 0) e in omega arith

same_parts : (a b : Cell) → FitsCell a → FitsCell b → cell_parts a ≡ cell_parts b → a ≡ b
same_parts (Presence t k) (Presence u l) fa fb e =
    let te : t ≡ u = same_number t u fa.0 fb.0 (cc) in
    let ke : k ≡ l = same_key k l fa.1 fb.1 (cc) in
    ap (λ x. Presence x k) te ∙ ap (λ x. Presence u x) ke
same_parts (Presence t k) (Field u l d) fa fb e = absurd (kinds_differ (cc))
same_parts (Field t k c) (Presence u l) fa fb e = absurd (kinds_differ (cc))
same_parts (Field t k c) (Field u l d) fa fb e =
    let te : t ≡ u = same_number t u fa.0 fb.0 (cc) in
    let ke : k ≡ l = same_key k l fa.1 fb.1 (cc) in
    let ce : c ≡ d = same_number c d fa.2 fb.2 (cc) in
    ap (λ x. Field x k c) te ∙ ap (λ x. Field u x c) ke ∙ ap (λ x. Field u l x) ce

pub same_cell : (a b : Cell) → FitsCell a → FitsCell b → cell_word a ≡ cell_word b → a ≡ b
same_cell a b fa fb e = same_parts a b fa fb (sym (cell_cut a fa) ∙ ap (cut_at 46) e ∙ cell_cut b fb)
