-- The classes of bytes of PostgreSQL's lexical structure, and the number that digits spell.
use Rattle.std.specs.Prelude.{◌≡◌, ℕ, ◌+◌, ◌-◌, ◌*◌, Bool, true, false, not, ◌&&◌, ◌||◌, ◌==◌, nat_le, List, [], ◌∷◌, map}
use Rattle.std.specs.Char.{is_ascii_digit, is_ascii_alphanumeric, is_ascii_alphabetic, to_ascii_lowercase}

-- tab, line feed, vertical tab, form feed, carriage return and blank
abbrev pub is_space : ℕ → Bool
is_space b = b == 32 || (nat_le 9 b && nat_le b 13)

-- all but line feed and carriage return
abbrev pub is_in_line : ℕ → Bool
is_in_line b = not (b == 10 || b == 13)

abbrev pub is_digit : ℕ → Bool
is_digit = is_ascii_digit

-- an ASCII letter, `_`, or a byte of a character past ASCII
abbrev pub begins_word : ℕ → Bool
begins_word b = is_ascii_alphabetic b || b == 95 || nat_le 128 b

-- the same, a digit, or `$`
abbrev pub is_in_word : ℕ → Bool
is_in_word b = is_ascii_alphanumeric b || b == 95 || b == 36 || nat_le 128 b

-- a letter that gives a string another meaning where it stands directly before: e, b, x or n, in either case
abbrev pub is_prefix : ℕ → Bool
is_prefix b = b == 101 || b == 69 || b == 98 || b == 66 || b == 120 || b == 88 || b == 110 || b == 78

-- each byte passes
abbrev pub AllAre : (ℕ → Bool) → List ℕ → Type 0
AllAre p [] = Unit {0}
AllAre p (b ∷ z) = (p b ≡ true) × AllAre p z

-- whether the text has a first byte, and it passes
abbrev pub begins : (ℕ → Bool) → List ℕ → Bool
begins p [] = false
begins p (b ∷ z) = p b

-- whether a number in front of the text goes on, with a point, or with an exponent: an `e` and a digit
abbrev pub begins_fraction : List ℕ → Bool
begins_fraction [] = false
begins_fraction (b ∷ z) = b == 46 || ((b == 101 || b == 69) && begins is_digit z)

-- the text with ASCII capitals as small letters
abbrev pub folded : List ℕ → List ℕ
folded = map to_ascii_lowercase

-- the number that begins with n and goes on with the decimal digits
abbrev pub decimal_from : ℕ → List ℕ → ℕ
decimal_from n [] = n
decimal_from n (b ∷ z) = decimal_from (10 * n + (b - 48)) z

abbrev pub decimal : List ℕ → ℕ
decimal = decimal_from 0
