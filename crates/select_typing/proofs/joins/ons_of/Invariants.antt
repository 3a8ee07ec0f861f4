-- The conditions so far, and what is left.
use Rattle.std.proofs.Common.{◌≡◌, ◌+◌, drop}
use Rattle.expr_typing.specs.Scope.{sources}
use Rattle.typing_rules.specs.Select.{ons_of}
use Rattle.select_typing.proofs.OnConditions.{ons_left}
use Rattle.select_typing.proofs.joins.ons_of.Given as goal

abbrev pub invariant-loop-i : goal.invariant-loop-i
invariant-loop-i l = ons_left l.conditions (sources l.scope) (l.i + 1) (drop l.i l.from) ≡ ons_of (sources l.scope) l.from
