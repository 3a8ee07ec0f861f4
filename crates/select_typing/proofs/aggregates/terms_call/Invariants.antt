-- Whether an aggregate is called is the same of the terms that are left.
use Rattle.std.proofs.Common.{◌≡◌, drop}
use Rattle.std.specs.List.{list_any}
use Rattle.sql_tree.specs.declared.statement.OrderTerm.{OrderTerm}
use Rattle.typing_rules.specs.Select.{calls_aggregate}
use Rattle.select_typing.proofs.aggregates.terms_call.Given as goal

abbrev pub invariant-loop-term : goal.invariant-loop-term
invariant-loop-term l = list_any (λ (t : OrderTerm). calls_aggregate t.expr) (drop l.term-index l.terms)
    ≡ list_any (λ (t : OrderTerm). calls_aggregate t.expr) l.terms
