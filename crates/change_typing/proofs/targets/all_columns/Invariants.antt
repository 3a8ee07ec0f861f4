-- The columns so far, and what is left.
use Rattle.std.proofs.Common.{◌≡◌, ◌++◌, drop}
use Rattle.typing_rules.specs.Tables.{numbered_from, all_targets}
use Rattle.change_typing.specs.Targets.{targets}
use Rattle.change_typing.proofs.targets.all_columns.Given as goal

abbrev pub invariant-loop-i : goal.invariant-loop-i
invariant-loop-i l = targets l.all ++ numbered_from l.i (drop l.i l.columns) ≡ all_targets l.columns
