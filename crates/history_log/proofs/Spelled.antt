-- What the words of numbers and of texts are made of.
use Rattle.std.proofs.Common.{◌≡◌, ◌≢◌, ◌⊎◌, ℕ, zero, suc, ℤ, ◌+◌, ◌/◌, ◌%◌, ◌<◌, ◌^◌, ◌&&◌, Bool, true, false, List, [], ◌∷◌, ◌++◌, inl, inr, Result, Ok, Err, refl, sym, ap, ◌∙◌, nat_lt, eqb, subst, arith, w64}
use Rattle.std.proofs.lemmas.Bool.{cond_both, ltb-true}
use Rattle.std.proofs.lemmas.Str.{IsUtf8-from_ascii}
use Rattle.std.proofs.lemmas.Fmt.{IsAscii-decimal, IsAscii-signed, parse-decimal, parse-signed_decimal}
use Rattle.std.specs.Cmp.Lexicographic.{pointwise, other_text}
use Rattle.std.specs.Str.{IsUtf8}
use Rattle.std.specs.Str.Parse.{ParsesUnsigned, ParsesSigned}
use Rattle.std.specs.Int.Signed.{mag}
use Rattle.std.specs.Result.{IsErrAnd}
use Rattle.std.specs.List.{AllByRecursion}
use Rattle.cell_base.specs.declared.key.Key.{Key}
use Rattle.cell_base.specs.declared.key.Key.TheVariants as keys
use Rattle.cell_base.specs.declared.value.Value.{Value}
use Rattle.cell_base.specs.declared.value.Value.TheVariants as values
use Rattle.history_log.specs.declared.misread.Misread.{Misread}
use Rattle.history_log.specs.declared.misread.Misread.TheVariants.{Form, Memory}
use Rattle.hex.specs.Hex.{encode_lower, decode_of, IsBytes}
use Rattle.hex.specs.declared.error.FromHexError.{FromHexError}
use Rattle.hex.specs.declared.error.FromHexError.TheVariants.{OutOfMemory}
use Rattle.hex.proofs.HexLemmas.{decode_of-encode_lower, decode_of-ok}
use Rattle.std.proofs.Math.Utf8.{encode, encodes, scalar, scalars, scalar_cases}
use Rattle.history_log.specs.Reading.{IsI64, IsNumber, IsInteger, IsHex, IsText, IsKey, IsNamedValue, IsValue, Reads}

pub number_utf8 : (n : ℕ) (word : List ℕ) → IsNumber n word → IsUtf8 word
number_utf8 n word is = IsUtf8-from_ascii word (rw is.1 (IsAscii-decimal n (omega (arith, is.0))))

pub number_parsed : {E : Type 0} (n : ℕ) (word text : List ℕ) (r : Result ℕ E) → IsNumber n word → text ≡ word → ParsesUnsigned 32 10 text r → r ≡ Ok n
number_parsed n word text r is e parses = parse-decimal 32 n text r is.0 (omega (arith, is.0)) (e ∙ is.1) parses

pub mag_small : (n : ℤ) → IsI64 n → mag n < 2 ^ 63
mag_small n fits = fits.sfits

pub integer_utf8 : (n : ℤ) (word : List ℕ) → IsInteger n word → IsUtf8 word
integer_utf8 n word is = IsUtf8-from_ascii word (rw is.1 (IsAscii-signed n (mag_small n is.0)))

pub integer_parsed : {E : Type 0} (n : ℤ) (word text : List ℕ) (r : Result ℤ E) → IsInteger n word → text ≡ word → ParsesSigned w64 10 text r → r ≡ Ok n
integer_parsed n word text r is e parses = parse-signed_decimal w64 n text r is.0 (mag_small n is.0) (e ∙ is.1) parses

-- bytes of UTF-8 are bytes

bytes_append : (xs ys : List ℕ) → AllByRecursion (λ b. b < 256) xs → AllByRecursion (λ b. b < 256) ys → AllByRecursion (λ b. b < 256) (xs ++ ys)
bytes_append [] ys p q = q
bytes_append (x ∷ xs) ys p q = (p.0, bytes_append xs ys p.1 q)

next_small : (n : ℕ) → 128 + n % 64 < 256
next_small n = omega arith

and_parts : (a b : Bool) → (a && b) ≡ true → (a ≡ true) × (b ≡ true)
and_parts true b e = (refl, e)
and_parts false b e = (cc, cc)

encode_bytes : (c : ℕ) → scalar c ≡ true → AllByRecursion (λ b. b < 256) (encode c)
unfolding encode
encode_bytes c is =
    let small : c < 1114112 = scalar_small c is in
    cond_both (nat_lt c 128) _ _ (λ bs. AllByRecursion (λ b. b < 256) bs) (λ e. (omega (arith, ltb-true c 128 e), tt)) (λ _.
    cond_both (nat_lt c 2048) _ _ (λ bs. AllByRecursion (λ b. b < 256) bs) (λ e. (omega (arith, ltb-true c 2048 e), (next_small c, tt))) (λ _.
    cond_both (nat_lt c 65536) _ _ (λ bs. AllByRecursion (λ b. b < 256) bs) (λ e. (omega (arith, ltb-true c 65536 e), (next_small (c / 64), (next_small c, tt)))) (λ _.
    (omega arith, (next_small (c / 4096), (next_small (c / 64), (next_small c, tt))))))) where
      scalar_small : (c : ℕ) → scalar c ≡ true → c < 1114112
      scalar_small c e = elim (scalar_cases c e) [ inl h ↦ omega arith | inr h ↦ h.1 ]

encodes_bytes : (cs : List ℕ) → scalars cs ≡ true → AllByRecursion (λ b. b < 256) (encodes cs)
encodes_bytes [] is = tt
encodes_bytes (c ∷ cs) is =
    let both = and_parts (scalar c) (scalars cs) is in
    bytes_append (encode c) (encodes cs) (encode_bytes c both.0) (encodes_bytes cs both.1)

by_index : (bs : List ℕ) → AllByRecursion (λ b. b < 256) bs → IsBytes bs
by_index [] all i = omega arith
by_index (b ∷ bs) all zero = all.0
by_index (b ∷ bs) all (suc i) = by_index bs all.1 i

pub utf8_bytes : (bs : List ℕ) → IsUtf8 bs → IsBytes bs
utf8_bytes bs is = by_index bs (subst (λ xs. AllByRecursion (λ b. b < 256) xs) is.1.1 (encodes_bytes is.0 is.1.0))

-- hex digits

pub hex_decodes : (bytes digits : List ℕ) → IsHex bytes digits → decode_of digits ≡ Ok bytes
hex_decodes bytes digits is = rw is.1 (decode_of-encode_lower bytes is.0)

pub hex_differs : (x digits bytes again : List ℕ) (answer : Bool) → IsHex x digits → decode_of digits ≡ Ok bytes → again ≡ encode_lower bytes
    → answer ≡ pointwise eqb again digits → answer ≡ false → ⊥
hex_differs x digits bytes again answer is decoded spelled answers differ =
    let same : x ≡ bytes = let d = hex_decodes x digits is in cc in
    other_text again digits (sym differ ∙ answers) (spelled ∙ ap encode_lower (sym same) ∙ sym is.1)

-- what is left of a failure

pub residual : {X A : Type 0} (P : X → A → Type 0) (r : Result X Misread) (e : Misread) (written : A) → IsErrAnd r (λ d. d ≡ e) → Reads P (Err e) written → Reads P r written
residual P (Ok x) e written is fails = absurd is
residual P (Err d) e written is fails = rw is fails

pub misread_hex : (r : Result (List ℕ) Misread) (e : FromHexError) (digits : List ℕ) → IsErrAnd r (λ m. m ≡ Form → e ≢ OutOfMemory)
    → (e ≡ OutOfMemory) ⊎ (decode_of digits ≡ Err e) → Reads IsHex r digits
misread_hex (Ok bytes) e digits is h = absurd is
misread_hex (Err Form) e digits is (inl memory) = λ x spelled. is refl memory
misread_hex (Err Form) e digits is (inr fails) = λ x spelled. let d = hex_decodes x digits spelled in cc
misread_hex (Err Memory) e digits is h = tt

pub misread_text : (m : Misread) (digits word : List ℕ) → word ≡ 120 ∷ digits → Reads IsHex (Err m) digits → Reads IsText (Err m) word
misread_text Form digits word e fails = λ x is. fails x (utf8_bytes x is.0, cc)
misread_text Memory digits word e fails = tt

pub not_utf8_text : (bytes digits word : List ℕ) → word ≡ 120 ∷ digits → IsHex bytes digits → (¬ (IsUtf8 bytes)) → (x : List ℕ) → IsText x word → ⊥
not_utf8_text bytes digits word e is_hex fails x is =
    let d = hex_decodes bytes digits is_hex in
    let h : IsHex x digits = (utf8_bytes x is.0, cc) in
    let g = hex_decodes x digits h in
    let same : x ≡ bytes = cc in
    fails (subst (λ (bs : List ℕ). IsUtf8 bs) same is.0)

key_fails : (key : Key) (word : List ℕ) → IsKey key word → ((x : List ℕ) → IsText x word → ⊥) → ((n : ℤ) → IsInteger n word → ⊥) → ⊥
key_fails (keys.Int n) word is text integer = integer n is
key_fails (keys.Text bytes) word is text integer = text bytes is

pub misread_key : (m : Misread) (word : List ℕ) → Reads IsText (Err m) word → ((n : ℤ) → IsInteger n word → ⊥) → Reads IsKey (Err m) word
misread_key Form word text integer = λ key is. key_fails key word is text integer
misread_key Memory word text integer = tt

value_fails : (value : Value) (word : List ℕ) → IsValue value word → ((x : List ℕ) → IsText x word → ⊥) → ((n : ℤ) → IsInteger n word → ⊥)
    → ((x : Value) → IsNamedValue x word → ⊥) → ⊥
value_fails values.Unset word is text integer named = named values.Unset is
value_fails values.Null word is text integer named = named values.Null is
value_fails (values.Flag flag) word is text integer named = named (values.Flag flag) is
value_fails (values.Int n) word is text integer named = integer n is
value_fails (values.Wide n) word is text integer named = is.0
value_fails (values.Text bytes) word is text integer named = text bytes is

pub misread_value : (m : Misread) (word : List ℕ) → Reads IsText (Err m) word → ((n : ℤ) → IsInteger n word → ⊥) → ((x : Value) → IsNamedValue x word → ⊥) → Reads IsValue (Err m) word
misread_value Form word text integer named = λ value is. value_fails value word is text integer named
misread_value Memory word text integer named = tt

pub decoded_bytes : (result bytes digits : List ℕ) → result ≡ bytes → decode_of digits ≡ Ok bytes → digits ≡ encode_lower bytes → IsHex result digits
decoded_bytes result bytes digits e decoded spelled = rw e ((decode_of-ok digits bytes decoded).3, spelled)
