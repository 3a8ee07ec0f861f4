use Rattle.std.proofs.Common.{◌≡◌, ◌++◌, drop}
use Rattle.std.specs.Option.{option_map, option_to_list}
use Rattle.typing_rules.specs.Names.{columns_from}
use Rattle.expr_typing.specs.Found.{found_of}
use Rattle.expr_typing.specs.Scope.{sources}
use Rattle.expr_typing.proofs.names.only.Given as goal

abbrev pub invariant-loop-i : goal.invariant-loop-i
invariant-loop-i l =
    columns_from (option_map (λ q. q.now) l.qualifier) l.name 0 (sources l.scope)
    ≡ option_to_list (option_map found_of l.found) ++ columns_from (option_map (λ q. q.now) l.qualifier) l.name l.i (sources (drop l.i l.scope))
