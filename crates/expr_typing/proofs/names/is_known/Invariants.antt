use Rattle.std.proofs.Common.{◌≡◌, drop, Some}
use Rattle.typing_rules.specs.Names.{is_known}
use Rattle.expr_typing.specs.Scope.{sources}
use Rattle.expr_typing.proofs.names.is_known.Given as goal

abbrev pub invariant-loop-entry : goal.invariant-loop-entry
invariant-loop-entry l = is_known (Some l.name) (sources (drop l.entry-index l.scope)) ≡ is_known (Some l.name) (sources l.scope)
