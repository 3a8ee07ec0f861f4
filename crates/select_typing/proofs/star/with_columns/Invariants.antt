-- The columns so far, and what is left.
use Rattle.std.proofs.Common.{◌≡◌, ◌++◌, drop}
use Rattle.typing_rules.specs.Select.{column_outputs}
use Rattle.select_typing.specs.Outputs.{outputs}
use Rattle.select_typing.proofs.star.with_columns.Given as goal

abbrev pub invariant-loop-i : goal.invariant-loop-i
invariant-loop-i l = outputs l.all ++ column_outputs l.entry l.i (drop l.i l.columns) ≡ outputs l.fn.before ++ column_outputs l.entry 0 l.columns
