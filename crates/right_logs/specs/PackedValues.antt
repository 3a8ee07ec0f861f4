-- Which note a number of 32 bits stands for.
use Rattle.std.specs.Prelude.{◌-◌, ℕ, true, false, nat_eq, nat_lt, if◌then◌else◌}
use Rattle.right_logs.specs.declared.noted_values.NotedValue.{NotedValue}
use Rattle.right_logs.specs.declared.noted_values.NotedValue.TheVariants.{Unset, Null, Flag, Compact, Apart}

-- from 2,147,483,648 on: the values that have a name, and then the numbers of those that are kept apart
abbrev pub upper_note : ℕ → NotedValue
upper_note place =
    if nat_eq place 0 then Unset
    else if nat_eq place 1 then Null
    else if nat_eq place 2 then Flag false
    else if nat_eq place 3 then Flag true
    else Apart (place - 4)

-- below it: the integer that is the number
abbrev pub noted_by : ℕ → NotedValue
noted_by code = if nat_lt code 2147483648 then Compact code else upper_note (code - 2147483648)
