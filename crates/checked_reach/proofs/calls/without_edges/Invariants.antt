use Rattle.std.proofs.Common.{◌≡◌}
use Rattle.checked_reach.proofs.calls.without_edges.Given as goal

abbrev pub invariant-loop-number : goal.invariant-loop-number
invariant-loop-number l = l.reach.size ≡ l._number
