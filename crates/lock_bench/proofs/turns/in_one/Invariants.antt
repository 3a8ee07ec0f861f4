use Rattle.std.proofs.Common.{◌≡◌}
use Rattle.lock_bench.proofs.turns.in_one.Given as goal

abbrev pub invariant-loop : goal.invariant-loop
invariant-loop g l = (l.pass.lock ≡ l.fn.pass.lock) × (l.pass.parts ≡ l.fn.pass.parts)
