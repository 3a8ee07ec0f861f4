-- The columns of the entries so far, and what is left.
use Rattle.std.proofs.Common.{◌≡◌, ◌++◌, drop}
use Rattle.typing_rules.specs.Select.{star_outputs}
use Rattle.expr_typing.specs.Scope.{sources}
use Rattle.select_typing.specs.Outputs.{outputs}
use Rattle.select_typing.proofs.star.with_all_columns.Given as goal

abbrev pub invariant-loop-i : goal.invariant-loop-i
invariant-loop-i l = outputs l.all ++ star_outputs l.i (sources (drop l.i l.scope)) ≡ outputs l.fn.before ++ star_outputs 0 (sources l.scope)
