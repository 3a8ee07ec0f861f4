-- The assignments that are left, after the columns so far.
use Rattle.std.proofs.Common.{◌≡◌, [], drop}
use Rattle.typing_rules.specs.Changes.{assigned_from}
use Rattle.change_typing.specs.Targets.{targets}
use Rattle.change_typing.proofs.targets.assigned_columns.Given as goal

abbrev pub invariant-loop-name : goal.invariant-loop-name
invariant-loop-name l = assigned_from l.table (targets l.assigned) (drop l.name-index l.set) ≡ assigned_from l.table [] l.set
