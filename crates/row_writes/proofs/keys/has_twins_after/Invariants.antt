-- The rows that are left, after the one before them, decide.
use Rattle.std.proofs.Common.{◌≡◌, drop}
use Rattle.row_writes.specs.Twins as twins
use Rattle.row_writes.proofs.keys.has_twins_after.Given as goal

abbrev pub invariant-loop-row : goal.invariant-loop-row
invariant-loop-row l = twins.has_twins_after l.before (drop l.row-index l.rows) ≡ twins.has_twins_after l.fn.first l.rows
