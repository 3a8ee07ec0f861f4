use Rattle.std.proofs.Common.{◌≡◌, ◌+◌}
use Rattle.rows_bench.proofs.grown.grow_to.Given as goal

abbrev pub invariant-loop-last : goal.invariant-loop-last
invariant-loop-last l = l.reach.size ≡ l.last + 1
