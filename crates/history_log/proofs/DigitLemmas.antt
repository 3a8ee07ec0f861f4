-- How a number is spelled, digit by digit.
use Rattle.std.proofs.Common.{◌≡◌, ℕ, ◌+◌, ◌-◌, ◌*◌, ◌/◌, ◌%◌, ◌<◌, List, [], ◌∷◌, ◌++◌, length, get_or, take, drop, decimal, append_assoc, arith, ap, sym, ◌∙◌}
use Rattle.std.proofs.lemmas.Fmt.{decimal_digit, decimal_step}
use Rattle.std.proofs.lemmas.List.{take_rest, take-append-drop}

pub first_digit : (word : List ℕ) (digit : ℕ) → digit < 10 → get_or word 0 0 ≡ 48 + digit → decimal digit ≡ take 1 word
first_digit [] digit small is = absurd (omega arith)
first_digit (byte ∷ rest) digit small is = decimal_digit digit small ∙ ap (λ (b : ℕ). b ∷ []) (sym is)

pub more_digits : (number digit byte : ℕ) → 0 < number → number < 429496729 → digit < 10 → byte ≡ 48 + digit → decimal (number * 10 + digit) ≡ decimal number ++ byte ∷ []
more_digits number digit byte positive small least is =
    let front : (number * 10 + digit) / 10 ≡ number = omega arith in
    let last : 48 + (number * 10 + digit) % 10 ≡ byte = omega arith in
    decimal_step (number * 10 + digit) (omega arith) (omega arith) ∙ ap (λ (n : ℕ). decimal n ++ (48 + (number * 10 + digit) % 10) ∷ []) front ∙ ap (λ (b : ℕ). decimal number ++ b ∷ []) last

-- what stands after the digits
pub after_digits : (text : List ℕ) (at number : ℕ) → decimal number ≡ take at text → text ≡ decimal number ++ take (length text - at) (drop at text)
after_digits text at number is =
    sym (take-append-drop at text) ∙ ap (λ (bytes : List ℕ). bytes ++ drop at text) (sym is) ∙ ap (λ (rest : List ℕ). decimal number ++ rest) (sym (take_rest text at))

-- one digit more is read off the front of what stands after the digits
pub digit_taken : (text rest : List ℕ) (number more digit : ℕ) → 0 < length rest → get_or rest 0 0 ≡ 48 + digit → decimal more ≡ decimal number ++ (48 + digit) ∷ [] → text ≡ decimal number ++ rest
    → text ≡ decimal more ++ take (length rest - 1) (drop 1 rest)
digit_taken text [] number more digit some is spelled before = absurd (omega (arith, some))
digit_taken text (byte ∷ rest) number more digit some is spelled before =
    before ∙ ap (λ (b : ℕ). decimal number ++ b ∷ rest) is ∙ sym (append_assoc (decimal number) ((48 + digit) ∷ []) rest)
    ∙ ap (λ (d : List ℕ). d ++ rest) (sym spelled) ∙ ap (λ (r : List ℕ). decimal more ++ r) (sym (take_rest (byte ∷ rest) 1))
