-- Numbers digit by digit, and lists of numbers comma by comma.
use Rattle.std.proofs.Common.{◌≡◌, ◌≢◌, ℕ, ◌+◌, ◌-◌, ◌*◌, ◌<◌, ◌≤◌, List, [], ◌∷◌, ◌++◌, length, append_assoc, take, drop, get_or, refl, sym, ◌∙◌, ap, subst, arith}
use Rattle.std.specs.Prelude.{All, Contains, fold}
use Rattle.std.proofs.lemmas.List.{take_more, take_all, take-append-drop}
use Rattle.std.proofs.lemmas.List.Sums.{fold-append}
use Rattle.std.proofs.lemmas.List.Elements.{All-push, All-weaker, All-contains, Contains-append_right}
use Rattle.command_line.specs.Numbers.{IsDigit, number_of, IsNumber, IsWord, Lists}
use Rattle.command_line.proofs.Digits.{value_more}
use Rattle.command_line.proofs.Commas.{no_comma_from, cut_same}

-- the number before the digit, ten times, and the digit
abbrev more_of : ℕ → ℕ → ℕ
more_of n c = 10 * n + (c - 48)

grows : (n : ℕ) (digits : List ℕ) → n ≤ fold more_of n digits
grows n [] = omega arith
grows n (c ∷ digits) = omega (arith, grows (more_of n c) digits)

-- the first digits spell no greater number than all
front_small : (digits : List ℕ) (i : ℕ) → number_of (take i digits) ≤ number_of digits
front_small digits i =
    let e : number_of digits ≡ fold more_of (number_of (take i digits)) (drop i digits) =
    ap number_of (sym (take-append-drop i digits)) ∙ fold-append more_of 0 (take i digits) (drop i digits) in
    rw e (grows (number_of (take i digits)) (drop i digits))

pub each_more : (digits : List ℕ) (i : ℕ) → i < length digits → All IsDigit (take i digits) → IsDigit (get_or digits i 0) → All IsDigit (take (i + 1) digits)
each_more digits i lt each digit = rw (take_more digits i 0 lt) (All-push IsDigit (take i digits) (get_or digits i 0) each digit)

-- a byte that is no digit, or whose number is too great, stands in no word
pub no_word : (bound : ℕ) (digits : List ℕ) (i n : ℕ) → i < length digits → n ≡ number_of (take i digits)
    → (IsDigit (get_or digits i 0) → bound ≤ 10 * n + (get_or digits i 0 - 48)) → (m : ℕ) → IsNumber bound digits m → ⊥
no_word bound digits i n lt e great m is =
    let p : bound ≤ 10 * n + (get_or digits i 0 - 48) = great (is.each i 0 lt) in
    omega (arith, p, is.value, is.bounded, value_more digits i n lt e, front_small digits (i + 1))

-- a word holds no comma
pub word_has_no_comma : (digits : List ℕ) (n : ℕ) → IsWord digits n → ¬ (Contains digits 44)
word_has_no_comma digits n is h = All-contains (λ c. c ≢ 44) digits 44 (All-weaker IsDigit (λ c. c ≢ 44) (λ c d e. omega arith) digits is.each) h refl

pub holds_comma : (text front after : List ℕ) → text ≡ front ++ (44 ∷ after) → Contains text 44
holds_comma text front after e =
    let P : List ℕ → Type 0 = λ t. Contains t 44 in
    subst P (sym e) (Contains-append_right front (44 ∷ after) 44 (0, omega arith, refl))

-- a list that is cut at its first comma: a word before it, a list after it
pub lists_at_comma : (text front after words : List ℕ) → text ≡ front ++ (44 ∷ after) → ¬ (Contains front 44) → Lists text words
    → ((n : ℕ) × IsWord front n) × ((more : List ℕ) × Lists after more)
lists_at_comma text front after [] e none h = absurd h
lists_at_comma text front after (n ∷ []) e none h = absurd (word_has_no_comma text n h (holds_comma text front after e))
lists_at_comma text front after (n ∷ (m ∷ more)) e none (first, rest, f, is, lists) =
    let r = cut_same front after first rest (no_comma_from front none) (no_comma_from first (word_has_no_comma first n is)) (sym e ∙ f) in
    let W : List ℕ → Type 0 = λ t. IsWord t n in
    let L : List ℕ → Type 0 = λ t. Lists t (m ∷ more) in
    ((n, subst W (sym r.0) is), (m ∷ more, subst L (sym r.1) lists))

-- a list without a comma is a word
pub lists_last : (text words : List ℕ) → ¬ (Contains text 44) → Lists text words → (n : ℕ) × IsWord text n
lists_last text [] none h = absurd h
lists_last text (n ∷ []) none h = (n, h)
lists_last text (n ∷ (m ∷ more)) none (first, rest, f, is, lists) = absurd (none (holds_comma text first rest f))

-- one more word is read
pub lists_more : (text words rest front after : List ℕ) (n : ℕ) → ((m : ℕ) (more : List ℕ) → Lists rest (m ∷ more) → Lists text (words ++ (m ∷ more)))
    → rest ≡ front ++ (44 ∷ after) → IsWord front n → (m : ℕ) (more : List ℕ) → Lists after (m ∷ more) → Lists text ((words ++ (n ∷ [])) ++ (m ∷ more))
lists_more text words rest front after n read e is m more lists = rw (append_assoc words (n ∷ []) (m ∷ more)) (read n (m ∷ more) (front, after, e, is, lists))

-- all digits are read
pub word_whole : (bound : ℕ) (digits : List ℕ) (i n : ℕ) → 0 < length digits → length digits ≤ i → n ≡ number_of (take i digits) → All IsDigit (take i digits) → n < bound → IsNumber bound digits n
word_whole bound digits i n some end e each bounded =
    let whole : take i digits ≡ digits = take_all i digits end in
    record {
      some = some;
      each = subst (All IsDigit) whole each;
      value = e ∙ ap number_of whole;
      bounded = bounded;
    }
