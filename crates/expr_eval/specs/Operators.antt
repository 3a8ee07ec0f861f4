-- What the operators of SQL give (PostgreSQL's documentation, chapter "Functions and Operators").
use Rattle.std.specs.Prelude.{ℤ, pos, zero, ◌+ℤ◌, ◌-ℤ◌, ◌*ℤ◌, neg_ℤ, Bool, true, false, not, Option, Some, None, option_map, Result, Ok, Err, if◌then◌else◌}
use Rattle.std.specs.Int.RustNames.{int_div, int_rem}
use Rattle.std.specs.declared.cmp.Ordering.{Ordering}
use Rattle.std.specs.Ordering.{nat_cmp, int_cmp, bool_cmp, is_eq, is_ne, is_lt, is_le, is_gt, is_ge}
use Rattle.std.specs.Cmp.Lexicographic.{slice_cmp}
use Rattle.cell_base.specs.declared.sql_type.SqlType.{SqlType}
use Rattle.cell_base.specs.declared.sql_state.SqlState.{SqlState}
use Rattle.cell_base.specs.declared.sql_state.SqlState.TheVariants.{S22003, S22012}
use Rattle.cell_base.specs.declared.value.Value.{Value}
use Rattle.cell_base.specs.declared.value.Value.TheVariants.{Null, Flag, Int, Text}
use Rattle.sql_tree.specs.declared.op.Op.{Op}
use Rattle.sql_tree.specs.declared.op.Op.TheVariants.{Add, Sub, Mul, Div, Rem, Eq, Ne, Lt, Le, Gt, Ge, And, Or}
use Rattle.typing_rules.specs.Kinds.{fits}

-- a value or a code
abbrev pub Outcome : Type 0
Outcome = Result Value SqlState

-- ---- integers

-- the number, where it is one of the type
abbrev pub in_range : SqlType → ℤ → Outcome
in_range kind n = if fits kind n then Ok (Int n) else Err S22003

abbrev pub is_zero : ℤ → Bool
is_zero (pos zero) = true
is_zero _ = false

-- there is no quotient and no remainder by 0
abbrev pub divided : ℤ → Outcome → Outcome
divided divisor result = if is_zero divisor then Err S22012 else result

-- `/` truncates toward zero, and `%` has the dividend's sign
abbrev pub computed : SqlType → Op → ℤ → ℤ → Outcome
computed kind Add a b = in_range kind (a +ℤ b)
computed kind Sub a b = in_range kind (a -ℤ b)
computed kind Mul a b = in_range kind (a *ℤ b)
computed kind Div a b = divided b (in_range kind (int_div a b))
computed kind Rem a b = divided b (in_range kind (int_rem a b))
computed kind _ a b = Ok Null

-- with an operand that is no integer, null too, there is none
abbrev pub arithmetic : SqlType → Op → Value → Value → Outcome
arithmetic kind op (Int a) (Int b) = computed kind op a b
arithmetic kind op _ _ = Ok Null

abbrev pub negated : SqlType → Value → Outcome
negated kind (Int n) = in_range kind (neg_ℤ n)
negated kind _ = Ok Null

-- ---- comparisons

-- integers by value, text by bytes, false below true; null has no place, nor have values of two types
abbrev pub order_of : Value → Value → Option Ordering
order_of (Int a) (Int b) = Some (int_cmp a b)
order_of (Text a) (Text b) = Some (slice_cmp nat_cmp a b)
order_of (Flag a) (Flag b) = Some (bool_cmp a b)
order_of _ _ = None

-- whether the comparison holds of values in this order
abbrev pub holds : Op → Ordering → Bool
holds Eq order = is_eq order
holds Ne order = is_ne order
holds Lt order = is_lt order
holds Le order = is_le order
holds Gt order = is_gt order
holds Ge order = is_ge order
holds _ order = false

abbrev pub flag_or_null : Option Bool → Value
flag_or_null (Some flag) = Flag flag
flag_or_null None = Null

abbrev pub compared : Op → Value → Value → Value
compared op a b = flag_or_null (option_map (holds op) (order_of a b))

-- ---- three-valued logic: null stands for unknown

abbrev pub both : Value → Value → Value
both (Flag false) b = Flag false
both a (Flag false) = Flag false
both (Flag true) (Flag true) = Flag true
both _ _ = Null

abbrev pub either : Value → Value → Value
either (Flag true) b = Flag true
either a (Flag true) = Flag true
either (Flag false) (Flag false) = Flag false
either _ _ = Null

abbrev pub denied : Value → Value
denied (Flag flag) = Flag (not flag)
denied _ = Null

-- ---- all of them

abbrev pub binary : SqlType → Op → Value → Value → Outcome
binary kind And a b = Ok (both a b)
binary kind Or a b = Ok (either a b)
binary kind Eq a b = Ok (compared Eq a b)
binary kind Ne a b = Ok (compared Ne a b)
binary kind Lt a b = Ok (compared Lt a b)
binary kind Le a b = Ok (compared Le a b)
binary kind Gt a b = Ok (compared Gt a b)
binary kind Ge a b = Ok (compared Ge a b)
binary kind op a b = arithmetic kind op a b
