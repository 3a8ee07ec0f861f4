-- The values so far, and what is left.
use Rattle.std.proofs.Common.{◌≡◌, drop}
use Rattle.row_meaning.specs.Changes as changes
use Rattle.typing_rules.proofs.Lists.{with_rest}
use Rattle.row_writes.specs.Places.{assigning}
use Rattle.row_writes.proofs.assigned.assignments.Given as goal

abbrev pub invariant-loop-assignment : goal.invariant-loop-assignment
invariant-loop-assignment l = with_rest (assigning l.columns l.row) l.values (drop l.assignment-index l.set) ≡ changes.assignments l.columns l.set l.row
