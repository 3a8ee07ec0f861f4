-- One row more, and a row that fails.
use Rattle.std.proofs.Common.{List, Option, Err, map, subst, rules, arith}
use Rattle.std.proofs.lemmas.Grind.{common_steps}
use Rattle.sql_tree.specs.declared.expr.Expr.{Expr}
use Rattle.sql_tree.specs.declared.typed_expr.TypedExpr.{TypedExpr}
use Rattle.typing_rules.specs.Gives.{Gives}
use Rattle.typing_rules.specs.Outcome.{all_of}
use Rattle.change_typing.specs.Rows.{row_over}
use Rattle.change_typing.specs.Targets.{targets}
use Rattle.change_typing.proofs.Items.{item_more, item_failed}
use Rattle.change_typing.proofs.row.typed_rows.Goals as goal

pub returns-in_err-made : goal.returns-in_err-made
returns-in_err-made c =
    let e = item_failed (row_over c.args.columns.now (targets c.args.given.now)) c.args.rows.now c.loop-row.row-index c.row-item.result c.loop-row.typed
    c.in_err-made.field-0.0 (all_of (map (row_over c.args.columns.now (targets c.args.given.now)) c.args.rows.now))
    c.loop-row-test.true c.row-item.is
    (subst (λ (r : List (Option Expr)). Gives {A = List TypedExpr} (row_over c.args.columns.now (targets c.args.given.now) r) (Err c.in_err-made.field-0.0))
    c.as_slice.ensures c.in_err-made.ensures) c.loop-row.invariant in
    first_of (search (rules, e), grind (arith, common_steps, e))

pub loop-row-preserved : goal.loop-row-preserved
loop-row-preserved c =
    item_more (row_over c.args.columns.now (targets c.args.given.now)) c.args.rows.now c.loop-row.row-index c.row-item.result c.in_ok-made.made
    c.loop-row.typed c.push.new.self (all_of (map (row_over c.args.columns.now (targets c.args.given.now)) c.args.rows.now))
    c.loop-row-test.true c.row-item.is (rw c.as_slice.ensures at c.in_ok-made.ensures) c.in_ok-push.ensures.ok c.loop-row.invariant
