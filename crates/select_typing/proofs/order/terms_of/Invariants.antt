-- The terms so far, and what is left.
use Rattle.std.proofs.Common.{◌≡◌, drop, map}
use Rattle.typing_rules.proofs.Lists.{with_rest}
use Rattle.expr_typing.specs.Scope.{sources}
use Rattle.typing_rules.specs.Outcome.{all_of}
use Rattle.typing_rules.specs.Select.{term_of}
use Rattle.select_typing.specs.Outputs.{outputs}
use Rattle.select_typing.proofs.order.terms_of.Given as goal

abbrev pub invariant-loop-term : goal.invariant-loop-term
invariant-loop-term l =
    with_rest (term_of (sources l.scope) (outputs l.outputs)) l.typed (drop l.term-index l.terms)
    ≡ all_of (map (term_of (sources l.scope) (outputs l.outputs)) l.terms)
