-- The integer that a quoted literal stands for, and the value that a literal has where a type is asked.
use Rattle.std.specs.Prelude.{ℕ, ◌+◌, ◌-◌, ◌*◌, ◌^◌, Bool, true, false, ◌||◌, ◌&&◌, if◌then◌else◌, ◌==◌, nat_le, List, [], ◌∷◌, reverse, length, Option, Some, None, Ok, Err, ℤ, pos, neg_ℤ}
use Rattle.std.specs.List.{list_all}
use Rattle.cell_base.specs.declared.sql_state.SqlState.TheVariants.{S0A000, S22003, S22P02}
use Rattle.cell_base.specs.declared.sql_type.SqlType.{SqlType}
use Rattle.cell_base.specs.declared.sql_type.SqlType.TheVariants as type
use Rattle.cell_base.specs.declared.value.Value.{Value}
use Rattle.cell_base.specs.declared.value.Value.TheVariants as value
use Rattle.std.specs.Option.{option_map}
use Rattle.typing_rules.specs.Outcome.{Outcome, and_then}

-- white space: the bytes 09 to 0d and 20
abbrev pub is_blank : ℕ → Bool
is_blank b = (nat_le 9 b && nat_le b 13) || b == 32

abbrev pub is_digit : ℕ → Bool
is_digit b = nat_le 48 b && nat_le b 57

-- what stands after the blanks at the front
abbrev pub after_blanks : List ℕ → List ℕ
after_blanks [] = []
after_blanks (b ∷ bs) = if is_blank b then after_blanks bs else b ∷ bs

-- without the blanks at both ends
abbrev pub trimmed : List ℕ → List ℕ
trimmed bs = reverse (after_blanks (reverse (after_blanks bs)))

abbrev pub decimal_from : ℕ → List ℕ → ℕ
decimal_from n [] = n
decimal_from n (b ∷ bs) = decimal_from (10 * n + (b - 48)) bs

-- the number that decimal digits spell
abbrev pub decimal : List ℕ → ℕ
decimal = decimal_from 0

-- the number that one or more digits spell
abbrev pub unsigned : List ℕ → Option ℕ
unsigned digits = if length digits == 0 then None else (if list_all is_digit digits then Some (decimal digits) else None)

-- a sign, where one is written, and one or more digits: whether the sign is a minus, and the number
abbrev pub signed : List ℕ → Option (Bool × ℕ)
signed [] = None
signed (b ∷ bs) =
    if b == 45 then option_map (λ n. (true, n)) (unsigned bs)
    else (if b == 43 then option_map (λ n. (false, n)) (unsigned bs) else option_map (λ n. (false, n)) (unsigned (b ∷ bs)))

-- optional white space, an optional sign, one or more digits, optional white space
abbrev pub integer_of : List ℕ → Option (Bool × ℕ)
integer_of text = signed (trimmed text)

abbrev pub with_sign : Bool → ℕ → ℤ
with_sign true n = neg_ℤ (pos n)
with_sign false n = pos n

-- the value within a signed type whose numbers are from -half to half - 1
abbrev pub within : ℕ → Option (Bool × ℕ) → Outcome ℤ
within half None = Err S22P02
within half (Some n) = if nat_le n.1 (if n.0 then half else half - 1) then Ok (with_sign n.0 n.1) else Err S22003

unfoldable pub whole : ℕ → List ℕ → Outcome ℤ
whole half text = within half (integer_of text)

-- the value that a quoted literal has where it takes this type
abbrev pub quoted : SqlType → List ℕ → Outcome Value
quoted type.Boolean text = Err S0A000
quoted type.Integer text = and_then (whole (2 ^ 31) text) (λ n. Ok (value.Int n))
quoted type.Bigint text = and_then (whole (2 ^ 63) text) (λ n. Ok (value.Int n))
quoted type.Text text = Ok (value.Text text)
quoted (type.Varchar n) text = Ok (value.Text text)
quoted type.Numeric text = Err S0A000
