-- There are as many empty slots as turns.
use Rattle.std.proofs.Common.{◌≡◌, Option, None, replicate}
use Rattle.sql_tree.specs.declared.typed_expr.TypedExpr.{TypedExpr}
use Rattle.change_typing.proofs.row.empty_slots.Given as goal

abbrev pub invariant-loop : goal.invariant-loop
invariant-loop l = l.slots.items ≡ replicate {A = Option TypedExpr} l.counter None
