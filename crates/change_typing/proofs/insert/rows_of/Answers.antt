-- The rows of the INSERT are those over the columns that get values.
use Rattle.std.proofs.Common.{◌∙◌, ap}
use Rattle.change_typing.specs.Targets.{targets}
use Rattle.change_typing.proofs.Numbers.{all_columns}
use Rattle.change_typing.proofs.Rows.{all_given, listed_given}
use Rattle.change_typing.proofs.insert.rows_of.Goals as goal

pub typed_rows-requires : goal.typed_rows-requires
typed_rows-requires c =
    rw c.as_slice.ensures (all_columns c.as_slice-columns.result.now (targets c.in_ok-all-in-empty.all) c.in_ok-all-in-empty.ensures)

pub returns-in_ok-all-in-empty : goal.returns-in_ok-all-in-empty
returns-in_ok-all-in-empty c =
    all_given c.args.table.now c.as_slice-columns.result.now c.args.listed.now (targets c.as_slice.result.now) c.args.rows.now c.typed_rows.result
    c.in-empty.len_below c.as_slice-columns.ensures (ap targets c.as_slice.ensures ∙ c.in_ok-all-in-empty.ensures) c.typed_rows.ensures

pub returns-in-len1-up : goal.returns-in-len1-up
returns-in-len1-up c =
    listed_given c.args.table.now c.as_slice-columns.result.now c.args.listed.now c.args.rows.now c.typed_rows-in-len1-up.result
    c.in-len1-up.len_at_least c.as_slice-columns.ensures c.typed_rows-in-len1-up.ensures
