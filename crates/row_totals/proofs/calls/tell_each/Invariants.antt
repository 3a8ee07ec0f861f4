use Rattle.std.proofs.Common.{◌≡◌, map, drop}
use Rattle.typing_rules.specs.Outcome.{all_of}
use Rattle.row_totals.specs.declared.calls.Call.{Call}
use Rattle.row_totals.specs.Tallies as tallies
use Rattle.typing_rules.proofs.Lists.{with_rest}
use Rattle.row_totals.proofs.calls.tell_each.Given as goal

abbrev pub invariant-loop-call : goal.invariant-loop-call
invariant-loop-call l =
    with_rest (λ (call : Call). tallies.told call.tally) l.values (drop l.call-index l.call-items) ≡ all_of (map (λ (call : Call). tallies.told call.tally) l.fn.calls.items)
