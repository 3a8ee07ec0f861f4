-- What an aggregate keeps of the values that it has seen, and its value then.
use Rattle.std.specs.Prelude.{ℤ, pos, ◌+◌, ◌+ℤ◌, min, Bool, if◌then◌else◌, Option, Some, None, unwrap_or, Ok, Err}
use Rattle.std.specs.declared.cmp.Ordering.{Ordering}
use Rattle.std.specs.Ordering.{is_lt, is_gt}
use Rattle.cell_base.specs.declared.sql_type.SqlType.{SqlType}
use Rattle.cell_base.specs.declared.sql_type.SqlType.TheVariants.{Bigint}
use Rattle.cell_base.specs.declared.sql_state.SqlState.TheVariants.{S22003}
use Rattle.cell_base.specs.declared.value.Value.{Value}
use Rattle.cell_base.specs.declared.value.Value.TheVariants.{Null}
use Rattle.sql_tree.specs.declared.op.Aggregate.{Aggregate}
use Rattle.sql_tree.specs.declared.op.Aggregate.TheVariants as aggregate
use Rattle.typing_rules.specs.Outcome.{Outcome}
use Rattle.typing_rules.specs.Kinds.{is_null}
use Rattle.row_meaning.specs.Groups.{number_in, integer, better}
use Rattle.row_totals.specs.declared.tally.Extreme.{Extreme}
use Rattle.row_totals.specs.declared.tally.Extreme.TheVariants as extreme
use Rattle.row_totals.specs.declared.tally.Partial.{Partial}
use Rattle.row_totals.specs.declared.tally.Partial.TheVariants.{Nothing, Number, Outside}
use Rattle.row_totals.specs.declared.tally.Tally.{Tally}
use Rattle.row_totals.specs.declared.tally.Tally.TheVariants.{Count, Sum, Best}

abbrev pub started : SqlType → Aggregate → Tally
started kind aggregate.Count = Count 0
started kind aggregate.Sum = Sum kind Nothing
started kind aggregate.Min = Best extreme.Least None
started kind aggregate.Max = Best extreme.Greatest None

abbrev pub kept_as : ℤ → Outcome Value → Partial
kept_as n (Ok v) = Number n
kept_as n (Err code) = Outside

-- the number, where it is one of the type
abbrev pub kept : SqlType → ℤ → Partial
kept kind n = kept_as n (number_in kind n)

abbrev pub summed : SqlType → Partial → Value → Partial
summed kind Nothing v = kept kind (pos 0 +ℤ integer v)
summed kind (Number n) v = kept kind (n +ℤ integer v)
summed kind Outside v = Outside

-- max looks for what is above, min for what is below
abbrev pub wins : Extreme → Ordering → Bool
wins extreme.Greatest order = is_gt order
wins extreme.Least order = is_lt order

abbrev pub preferred : Extreme → Option Value → Value → Option Value
preferred sought None v = Some v
preferred sought (Some found) v = Some (better (wins sought) found v)

-- a count stops where no bigint is as great any more
abbrev pub counted : Tally → Value → Tally
counted (Count n) v = Count (min (n + 1) 18446744073709551615)
counted (Sum kind so_far) v = Sum kind (summed kind so_far v)
counted (Best sought found) v = Best sought (preferred sought found v)

-- with one value more; a null doesn't count
abbrev pub with_value : Tally → Value → Tally
with_value tally v = if is_null v then tally else counted tally v

abbrev pub told_sum : SqlType → Partial → Outcome Value
told_sum kind Nothing = Ok Null
told_sum kind (Number n) = number_in kind n
told_sum kind Outside = Err S22003

abbrev pub told : Tally → Outcome Value
told (Count n) = number_in Bigint (pos n)
told (Sum kind so_far) = told_sum kind so_far
told (Best sought found) = Ok (unwrap_or found Null)
