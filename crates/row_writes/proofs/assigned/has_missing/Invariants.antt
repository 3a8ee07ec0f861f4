-- The columns that are left decide.
use Rattle.std.proofs.Common.{◌≡◌, drop}
use Rattle.row_meaning.specs.Changes as changes
use Rattle.row_writes.proofs.assigned.has_missing.Given as goal

abbrev pub invariant-loop-i : goal.invariant-loop-i
invariant-loop-i l = changes.has_missing l.i (drop l.i l.columns) l.set (drop l.i l.values) ≡ changes.has_missing 0 l.columns l.set l.values
