-- Whether an aggregate is called is the same of the expressions that are left.
use Rattle.std.proofs.Common.{◌≡◌, drop}
use Rattle.std.specs.List.{list_any}
use Rattle.typing_rules.specs.Select.{calls_aggregate}
use Rattle.select_typing.proofs.aggregates.+calls.Given as goal

abbrev pub invariant-any_calls-loop-expr : goal.invariant-any_calls-loop-expr
invariant-any_calls-loop-expr l = list_any calls_aggregate (drop l.expr-index l.exprs) ≡ list_any calls_aggregate l.exprs
