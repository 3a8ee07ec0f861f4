-- The rows so far, and what is left.
use Rattle.std.proofs.Common.{◌≡◌, map, drop}
use Rattle.typing_rules.proofs.Lists.{with_rest}
use Rattle.typing_rules.specs.Outcome.{all_of}
use Rattle.change_typing.specs.Rows.{row_over}
use Rattle.change_typing.specs.Targets.{targets}
use Rattle.change_typing.proofs.row.typed_rows.Given as goal

abbrev pub invariant-loop-row : goal.invariant-loop-row
invariant-loop-row l =
    with_rest (row_over l.columns (targets l.given)) l.typed (drop l.row-index l.rows) ≡ all_of (map (row_over l.columns (targets l.given)) l.rows)
