-- The number that decimal digits spell.
use Rattle.std.proofs.Common.{◌≡◌, ℕ, ◌+◌, ◌-◌, ◌*◌, ◌^◌, ◌<◌, ◌≤◌, min, true, false, List, [], ◌∷◌, ◌++◌, length, take, drop, get_or, Ok, refl, ap, sym, ◌∙◌, lit<, length-drop, arith}
use Rattle.std.specs.Prelude.{◌==◌, nat_le}
use Rattle.std.specs.List.{prefix_len}
use Rattle.std.proofs.lemmas.Bool.{leb-true, and_parts}
use Rattle.std.proofs.lemmas.List.{take_more, length-take, length-take-le}
use Rattle.std.proofs.lemmas.List.Sums.{prefix_len-le-length}
use Rattle.sql_tree.specs.declared.token.TokenKind.TheVariants as k
use Rattle.sql_lexer.specs.declared.piece.Piece.TheVariants.{Kind}
use Rattle.sql_lexer.specs.Bytes.{decimal, decimal_from, is_digit, AllAre}
use Rattle.sql_lexer.specs.Front.{param}
use Rattle.sql_lexer.proofs.Runs.{front_all}

decimal_more : (n : ℕ) (z : List ℕ) (b : ℕ) → decimal_from n (z ++ b ∷ []) ≡ 10 * decimal_from n z + (b - 48)
decimal_more n [] b = refl
decimal_more n (c ∷ z) b = decimal_more (10 * n + (c - 48)) z b

capped : (m n d b top : ℕ) → 9 < top → n ≡ min m top → d ≡ min (min (n * 10) top + b) top → d ≡ min (10 * m + b) top
capped m n d b top h e f = omega arith

-- one digit more, where the number stays at its greatest value
pub digits_more : (z : List ℕ) (i n d : ℕ) → i < length z → n ≡ min (decimal (take i z)) (2 ^ 64 - 1) → d ≡ min (min (n * 10) (2 ^ 64 - 1) + (get_or z i 0 - 48)) (2 ^ 64 - 1)
    → d ≡ min (decimal (take (i + 1) z)) (2 ^ 64 - 1)
digits_more z i n d h e f =
    let more : take (i + 1) z ≡ take i z ++ get_or z i 0 ∷ [] = take_more z i 0 h in
    let value : decimal (take (i + 1) z) ≡ 10 * decimal (take i z) + (get_or z i 0 - 48) = ap decimal more ∙ decimal_more 0 (take i z) (get_or z i 0) in
    rw value (capped (decimal (take i z)) n d (get_or z i 0 - 48) (2 ^ 64 - 1) (lit< tt) e f)

-- ---- parameters

digit_low : (b : ℕ) → is_digit b ≡ true → b - 48 ≤ 9
digit_low b e = let p = and_parts (nat_le 48 b) (nat_le b 57) e in let h : b ≤ 57 = leb-true b 57 p.1 in omega arith

-- up to five digits spell a number below 100000
pub small : (z : List ℕ) → AllAre is_digit z → length z ≤ 5 → decimal z < 100000
small [] d h = lit< tt
small (a ∷ []) d h = omega (arith, digit_low a d.0)
small (a ∷ b ∷ []) d h = omega (arith, digit_low a d.0, digit_low b d.1.0)
small (a ∷ b ∷ c ∷ []) d h = omega (arith, digit_low a d.0, digit_low b d.1.0, digit_low c d.1.1.0)
small (a ∷ b ∷ c ∷ e ∷ []) d h = omega (arith, digit_low a d.0, digit_low b d.1.0, digit_low c d.1.1.0, digit_low e d.1.1.1.0)
small (a ∷ b ∷ c ∷ e ∷ f ∷ []) d h = omega (arith, digit_low a d.0, digit_low b d.1.0, digit_low c d.1.1.0, digit_low e d.1.1.1.0, digit_low f d.1.1.1.1.0)
small (a ∷ b ∷ c ∷ e ∷ f ∷ g ∷ z) d h = absurd (omega arith)

-- the digits of a parameter: the longest run in five bytes
abbrev pub run : List ℕ → ℕ
run front = prefix_len is_digit (drop 1 front)

pub param_small : (z front : List ℕ) (end : ℕ) → front ≡ take 6 z → end ≡ 1 + run front → decimal (take (end - 1) (drop 1 front)) < 100000
param_small z front end f e =
    let size : end - 1 ≡ run front = omega arith in
    let within = prefix_len-le-length is_digit (drop 1 front) in
    let long = length-take-le (run front) (drop 1 front) within in
    let short : length front ≤ 6 = omega (arith, ap length f, length-take 6 z) in
    rw size (small (take (run front) (drop 1 front)) (front_all is_digit (drop 1 front)) (omega (arith, length-drop 1 front)))

param_at : (at : ℕ) (z : List ℕ) → (1 + run (take 6 z) == 1) ≡ false → param at z ≡ Ok (Kind (k.Param (decimal (take (1 + run (take 6 z) - 1) (drop 1 (take 6 z))))), 1 + run (take 6 z))
unfolding param
param_at at z e = rw e refl

pub param_value : (at : ℕ) (z front : List ℕ) (end n : ℕ) → front ≡ take 6 z → end ≡ 1 + run front → (end == 1) ≡ false → n ≡ min (decimal (take (end - 1) (drop 1 front))) (2 ^ 64 - 1)
    → param at z ≡ Ok (Kind (k.Param n), end)
param_value at z front end n f e g h =
    let low = param_small z front end f e in
    let value : n ≡ decimal (take (end - 1) (drop 1 front)) = omega arith in
    let size : end ≡ 1 + run (take 6 z) = e ∙ ap (λ y. 1 + run y) f in
    let test : (1 + run (take 6 z) == 1) ≡ false = ap (λ m. m == 1) (sym size) ∙ g in
    let whole : n ≡ decimal (take (1 + run (take 6 z) - 1) (drop 1 (take 6 z))) = value ∙ ap (λ m. decimal (take (m - 1) (drop 1 front))) size ∙ ap (λ y. decimal (take (1 + run (take 6 z) - 1) (drop 1 y))) f in
    param_at at z test ∙ ap (λ m. Ok (Kind (k.Param m), 1 + run (take 6 z))) (sym whole) ∙ ap (λ m. Ok (Kind (k.Param n), m)) (sym size)
