-- The types of SQL, and which values are of a type (PostgreSQL's documentation, chapter "Data Types").
use Rattle.std.specs.Prelude.{ℕ, ◌^◌, Bool, true, false, ◌&&◌, ◌||◌, nat_lt}
use Rattle.std.specs.Prelude.{ℤ, pos, negsuc}
use Rattle.cell_base.specs.declared.sql_type.SqlType.{SqlType}
use Rattle.cell_base.specs.declared.sql_type.SqlType.TheVariants.{Boolean, Integer, Bigint, Text, Varchar, Numeric}
use Rattle.cell_base.specs.declared.value.Value.{Value}
use Rattle.cell_base.specs.declared.value.Value.TheVariants as value

abbrev pub is_boolean : SqlType → Bool
is_boolean Boolean = true
is_boolean _ = false

-- integer or bigint
abbrev pub is_number : SqlType → Bool
is_number Integer = true
is_number Bigint = true
is_number _ = false

-- text or a varchar
abbrev pub is_text : SqlType → Bool
is_text Text = true
is_text (Varchar limit) = true
is_text _ = false

abbrev pub is_numeric : SqlType → Bool
is_numeric Numeric = true
is_numeric _ = false

-- both numbers, both texts, or both booleans
abbrev pub are_comparable : SqlType → SqlType → Bool
are_comparable a b = (is_number a && is_number b) || ((is_text a && is_text b) || (is_boolean a && is_boolean b))

-- the type of a sum, a difference, a product, a quotient and a remainder: bigint where one is bigint, and else integer
abbrev pub wider : SqlType → SqlType → SqlType
wider Integer Integer = Integer
wider _ _ = Bigint

-- the number is at least -half and below half
abbrev pub is_within : ℕ → ℤ → Bool
is_within half (pos n) = nat_lt n half
is_within half (negsuc n) = nat_lt n half

-- the number is one of the type: 32 bits for integer, 64 bits for bigint
abbrev pub fits : SqlType → ℤ → Bool
fits Integer n = is_within (2 ^ 31) n
fits Bigint n = is_within (2 ^ 63) n
fits _ n = false

-- The value is one of the type; null is a value of none. Each `Int` is a bigint, since it has 64 bits.
abbrev pub is_of : SqlType → Value → Bool
is_of Boolean (value.Flag flag) = true
is_of Integer (value.Int n) = is_within (2 ^ 31) n
is_of Bigint (value.Int n) = true
is_of Text (value.Text text) = true
is_of (Varchar limit) (value.Text text) = true
is_of Numeric (value.Wide n) = true
is_of _ _ = false

abbrev pub is_null : Value → Bool
is_null value.Null = true
is_null _ = false

-- null, or a value of the type
abbrev pub is_null_or_of : SqlType → Value → Bool
is_null_or_of kind v = is_null v || is_of kind v
