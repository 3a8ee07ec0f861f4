use Rattle.std.proofs.Common.{◌≡◌, drop}
use Rattle.typing_rules.specs.Expressions.{typing, typings}
use Rattle.expr_typing.specs.Scope.{sources}
use Rattle.typing_rules.proofs.Lists.{with_rest}
use Rattle.expr_typing.proofs.expression.+typing.Given as goal

abbrev pub invariant-forms-loop-expr : goal.invariant-forms-loop-expr
invariant-forms-loop-expr l =
    with_rest (λ e. typing (sources l.scope) e l.place) l.forms (drop l.expr-index l.exprs) ≡ typings (sources l.scope) l.exprs l.place
