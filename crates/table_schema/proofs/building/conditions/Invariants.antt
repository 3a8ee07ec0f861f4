use Rattle.std.proofs.Common.{◌≡◌, [], ◌∷◌, map, drop}
use Rattle.typing_rules.proofs.Lists.{with_rest}
use Rattle.typing_rules.specs.Expressions.{flag}
use Rattle.typing_rules.specs.Outcome.{all_of}
use Rattle.table_schema.proofs.building.conditions.Given as goal

abbrev pub invariant-loop-expr : goal.invariant-loop-expr
invariant-loop-expr l =
    with_rest (flag (record { name = l.table.name; columns = l.table.columns } ∷ [])) l.typed (drop l.expr-index l.exprs)
    ≡ all_of (map (flag (record { name = l.table.name; columns = l.table.columns } ∷ [])) l.exprs)
