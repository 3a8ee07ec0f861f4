-- The assignments that are left decide.
use Rattle.std.proofs.Common.{◌≡◌, drop}
use Rattle.row_meaning.specs.Changes as changes
use Rattle.row_writes.proofs.assigned.assigned_number.Given as goal

abbrev pub invariant-loop-number : goal.invariant-loop-number
invariant-loop-number l = changes.is_assigned (drop l.number-index l.set) l.column ≡ changes.is_assigned l.set l.column
