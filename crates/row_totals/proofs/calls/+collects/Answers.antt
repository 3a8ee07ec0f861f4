use Rattle.std.proofs.Common.{List, [], ◌∷◌, ◌++◌, map, Option, ap, ◌∙◌, rules}
use Rattle.sql_tree.specs.declared.typed_expr.TypedExpr.{TypedExpr}
use Rattle.row_totals.specs.declared.calls.Call.{Call}
use Rattle.row_totals.specs.declared.tally.Tally.{Tally}
use Rattle.row_totals.specs.Calls.{meant}
use Rattle.row_totals.proofs.Collecting.{both_collected, in_collected, aggregate_collected}
use Rattle.row_totals.proofs.calls.+collects.Goals as goal

pub collect-returns-in_ok-push-in-Aggregate : goal.collect-returns-in_ok-push-in-Aggregate
collect-returns-in_ok-push-in-Aggregate t c =
    let old : List Call = c.args.calls.now.items in
    ap (map meant)
    (c.in_ok-push-in-Aggregate.ensures.items ∙ ap (λ (o : Option TypedExpr). old ++ record { operand = o; tally = c.started-tally.result } ∷ []) c.in_ok-operand-in-Aggregate.ensures
    ∙ ap (λ (k : Tally). old ++ record { operand = c.in-Aggregate.operand; tally = k } ∷ []) c.started-tally.ensures)
    ∙ aggregate_collected c.args.expr.now c.in-Aggregate.function c.in-Aggregate.operand old c.in-Aggregate.is

pub collect-returns-in_ok-collect-in-Binary : goal.collect-returns-in_ok-collect-in-Binary
collect-returns-in_ok-collect-in-Binary t c =
    both_collected c.collect-in-Binary.result c.args.expr.now c.in-Binary.field-0 c.in-Binary.left c.in-Binary.right c.args.calls.now.items c.collect.new.calls.items c.collect-in-Binary.new.calls.items c.in-Binary.is
    (search rules) (search rules)

pub collect-returns-in_ok-collect-in-In : goal.collect-returns-in_ok-collect-in-In
collect-returns-in_ok-collect-in-In t c =
    in_collected c.collect_each.result c.args.expr.now c.in-In.left c.in-In.members c.in-In.field-2 c.args.calls.now.items c.collect-in-In.new.calls.items c.collect_each.new.calls.items c.in-In.is
    (search rules) (search rules)
