-- The CHECKs that are left decide.
use Rattle.std.proofs.Common.{◌≡◌, drop}
use Rattle.row_meaning.specs.Storing as spec
use Rattle.row_writes.proofs.storing.checked.Given as goal

abbrev pub invariant-loop-check : goal.invariant-loop-check
invariant-loop-check l = spec.checked (drop l.check-index l.checks) l.row ≡ spec.checked l.checks l.row
