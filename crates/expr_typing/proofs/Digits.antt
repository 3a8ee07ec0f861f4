-- The number that decimal digits spell, digit by digit.
use Rattle.std.proofs.Common.{◌≡◌, ℕ, ◌+◌, ◌-◌, ◌*◌, ◌^◌, ◌<◌, ◌≤◌, min, Bool, true, false, List, [], ◌∷◌, ◌++◌, length, take, get_or, Option, Some, None, Ok, Err, refl, ap, ◌∙◌, lit<, arith}
use Rattle.std.proofs.lemmas.List.{take_more}
use Rattle.std.specs.Prelude.{if◌then◌else◌, nat_le}
use Rattle.std.specs.Option.{option_map}
use Rattle.std.proofs.lemmas.Bool.{le-leb, lt-leb}
use Rattle.cell_base.specs.declared.sql_state.SqlState.TheVariants.{S22003, S22P02}
use Rattle.typing_rules.specs.Literals.{decimal, decimal_from, with_sign, within}

decimal_more : (n : ℕ) (z : List ℕ) (b : ℕ) → decimal_from n (z ++ b ∷ []) ≡ 10 * decimal_from n z + (b - 48)
decimal_more n [] b = refl
decimal_more n (c ∷ z) b = decimal_more (10 * n + (c - 48)) z b

capped : (m n d b top : ℕ) → 9 < top → n ≡ min m top → d ≡ min (min (n * 10) top + b) top → d ≡ min (10 * m + b) top
capped m n d b top h e f = omega arith

-- one digit more, where the number stays at its greatest value
pub digits_more : (z : List ℕ) (i n d : ℕ) → i < length z → n ≡ min (decimal (take i z)) (2 ^ 64 - 1) → d ≡ min (min (n * 10) (2 ^ 64 - 1) + (get_or z i 0 - 48)) (2 ^ 64 - 1)
    → d ≡ min (decimal (take (i + 1) z)) (2 ^ 64 - 1)
digits_more z i n d h e f =
    let more : take (i + 1) z ≡ take i z ++ get_or z i 0 ∷ [] = take_more z i 0 h in
    let value : decimal (take (i + 1) z) ≡ 10 * decimal (take i z) + (get_or z i 0 - 48) = ap decimal more ∙ decimal_more 0 (take i z) (get_or z i 0) in
    rw value (capped (decimal (take i z)) n d (get_or z i 0 - 48) (2 ^ 64 - 1) (lit< tt) e f)

-- ---- within a range of numbers

abbrev pub capped_number : Bool × ℕ → Bool × ℕ
capped_number n = (n.0, min n.1 (2 ^ 64 - 1))

abbrev pub top_of : ℕ → Bool → ℕ
top_of half minus = if minus then half else half - 1

pub none_within : (half : ℕ) (o : Option (Bool × ℕ)) → None ≡ option_map capped_number o → within half o ≡ Err S22P02
none_within half None e = refl
none_within half (Some n) e = cc

top_low : (half : ℕ) (minus : Bool) → half ≤ 2 ^ 63 → top_of half minus ≤ 2 ^ 63
top_low half true h = h
top_low half false h = omega arith

uncapped : (number n top : ℕ) → number ≡ min n (2 ^ 64 - 1) → top ≤ 2 ^ 63 → number ≤ top → number ≡ n
uncapped number n top e h l = omega arith

uncapped_above : (number n top : ℕ) → number ≡ min n (2 ^ 64 - 1) → top < number → top < n
uncapped_above number n top e l = omega arith

pub some_within : (half number : ℕ) (minus : Bool) (o : Option (Bool × ℕ)) → half ≤ 2 ^ 63 → Some (minus, number) ≡ option_map capped_number o → number ≤ top_of half minus
    → within half o ≡ Ok (with_sign minus number)
some_within half number minus None h e l = cc
some_within half number minus (Some n) h e l =
    let same_pair : (minus, number) ≡ capped_number n = cc in
    let p : minus ≡ n.0 = ap (λ (x : Bool × ℕ). x.0) same_pair in
    let q : number ≡ min n.1 (2 ^ 64 - 1) = ap (λ (x : Bool × ℕ). x.1) same_pair in
    let same : number ≡ n.1 = uncapped number n.1 (top_of half minus) q (top_low half minus h) l in
    let test : nat_le n.1 (top_of half n.0) ≡ true = rw (← p, ← same) (le-leb number (top_of half minus) l) in
    rw test (cc)

pub none_above : (half number : ℕ) (minus : Bool) (o : Option (Bool × ℕ)) → half ≤ 2 ^ 63 → Some (minus, number) ≡ option_map capped_number o → top_of half minus < number
    → within half o ≡ Err S22003
none_above half number minus None h e l = cc
none_above half number minus (Some n) h e l =
    let same_pair : (minus, number) ≡ capped_number n = cc in
    let p : minus ≡ n.0 = ap (λ (x : Bool × ℕ). x.0) same_pair in
    let q : number ≡ min n.1 (2 ^ 64 - 1) = ap (λ (x : Bool × ℕ). x.1) same_pair in
    let big : top_of half minus < n.1 = uncapped_above number n.1 (top_of half minus) q l in
    let test : nat_le n.1 (top_of half n.0) ≡ false = rw (← p) (lt-leb n.1 (top_of half minus) big) in
    rw test refl
