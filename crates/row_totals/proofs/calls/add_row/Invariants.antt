use Rattle.std.proofs.Common.{◌≡◌, map, take, drop}
use Rattle.typing_rules.specs.Outcome.{all_of}
use Rattle.expr_eval.specs.Lent.{seen}
use Rattle.row_totals.specs.Calls.{added_to}
use Rattle.typing_rules.proofs.Lists.{with_rest}
use Rattle.row_totals.proofs.calls.add_row.Given as goal

abbrev pub invariant-loop-call : goal.invariant-loop-call
invariant-loop-call l =
    with_rest (added_to (seen l.row)) (take l.call-index l.call-items) (drop l.call-index l.call-items) ≡ all_of (map (added_to (seen l.row)) l.fn.calls.items)
