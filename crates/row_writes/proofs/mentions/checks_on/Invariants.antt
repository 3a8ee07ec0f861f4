-- The CHECKs that were kept, and those to keep of what is left.
use Rattle.std.proofs.Common.{◌≡◌, ◌++◌, drop, map}
use Rattle.row_meaning.specs.Changes as changes
use Rattle.row_writes.proofs.mentions.checks_on.Given as goal

abbrev pub invariant-loop-check : goal.invariant-loop-check
invariant-loop-check l = map (λ c. c.now) l.kept.items ++ changes.checks_on l.set (drop l.check-index l.checks) ≡ changes.checks_on l.set l.checks
