-- The conversion of a value to a column's type (PostgreSQL's documentation, "Value Storage" and "Character Types").
use Rattle.std.specs.Prelude.{ℕ, Bool, ◌||◌, ◌==◌, nat_le, List, length, take, drop, chars, encode_utf8_all, Result, Ok, Err, if◌then◌else◌}
use Rattle.std.specs.List.{list_all}
use Rattle.cell_base.specs.declared.sql_type.SqlType.{SqlType}
use Rattle.cell_base.specs.declared.sql_type.SqlType.TheVariants.{Boolean, Integer, Bigint, Text, Varchar}
use Rattle.cell_base.specs.declared.sql_state.SqlState.{SqlState}
use Rattle.cell_base.specs.declared.sql_state.SqlState.TheVariants.{S22001, S22003, S42804, S54000}
use Rattle.cell_base.specs.declared.value.Value.{Value}
use Rattle.cell_base.specs.declared.value.Value.TheVariants as value
use Rattle.typing_rules.specs.Kinds.{fits}

-- a text has at most 65,536 bytes
abbrev pub stored_text : List ℕ → Result Value SqlState
stored_text text = if nat_le (length text) 65536 then Ok (value.Text text) else Err S54000

abbrev pub are_spaces : List ℕ → Bool
are_spaces = list_all (λ c. c == 32)

-- A text of more characters than the limit loses what is too much where all of it is spaces. 0 stands for no limit.
-- Characters are Unicode's, not bytes.
abbrev pub limited_text : ℕ → List ℕ → Result Value SqlState
limited_text limit text =
    if limit == 0 || nat_le (length (chars text)) limit then stored_text text
    else (if are_spaces (drop limit (chars text)) then stored_text (encode_utf8_all (take limit (chars text))) else Err S22001)

-- The value as one of the type, or why there is none. Null goes to every type, and a value that isn't set counts as null.
-- Each `Int` is a bigint, since it has 64 bits.
abbrev pub assigned : SqlType → Value → Result Value SqlState
assigned kind value.Unset = Ok value.Null
assigned kind value.Null = Ok value.Null
assigned Boolean (value.Flag flag) = Ok (value.Flag flag)
assigned Integer (value.Int n) = if fits Integer n then Ok (value.Int n) else Err S22003
assigned Bigint (value.Int n) = Ok (value.Int n)
assigned Text (value.Text text) = stored_text text
assigned (Varchar limit) (value.Text text) = limited_text limit text
assigned _ _ = Err S42804
