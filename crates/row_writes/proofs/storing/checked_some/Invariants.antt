-- The CHECKs that are left decide.
use Rattle.std.proofs.Common.{◌≡◌, drop, map}
use Rattle.row_meaning.specs.Storing as spec
use Rattle.row_writes.proofs.storing.checked_some.Given as goal

abbrev pub invariant-loop-check : goal.invariant-loop-check
invariant-loop-check l = spec.checked (map (λ c. c.now) (drop l.check-index l.checks)) l.row ≡ spec.checked (map (λ c. c.now) l.checks) l.row
