-- One value more, an expression that fails, and the end of the columns or the expressions, where the row is whole.
use Rattle.std.proofs.Common.{◌≡◌, length, min, rules, arith}
use Rattle.std.proofs.lemmas.Grind.{common_steps}
use Rattle.std.proofs.lemmas.List.{length_push}
use Rattle.std.proofs.lemmas.Slice.Zip.{zip_turn, zip_end}
use Rattle.row_meaning.specs.Insertion as spec
use Rattle.row_writes.proofs.Ending.{row_whole}
use Rattle.row_writes.proofs.Steps.{value_more, value_failed}
use Rattle.row_writes.proofs.insertion.row_of.Goals as goal

pub returns-in_err-value : goal.returns-in_err-value
returns-in_err-value c =
    let turn = zip_turn c.args.columns.now c.args.exprs.now c.loop-column.yielded c.into_iter-column-iterator.result c.loop-column.column-iterator c.next.new.self c.next.result
    (search rules) (search rules) c.loop-column.yielded_by (c.in-Some.column, c.in-Some.expr) c.in-Some.is c.next.ensures.steps in
    let e = value_failed (length c.loop-column.yielded) c.args.columns.now c.args.exprs.now c.in-Some.column.now c.in-Some.expr.now c.loop-column.row
    c.in_err-value.field-0.0 (spec.row_of c.args.columns.now c.args.exprs.now) turn.0 turn.1 (turn.2 c.in-Some.column.now) (turn.3 c.in-Some.expr.now)
    c.in_err-value.ensures c.loop-column.invariant.0 in
    first_of (search (rules, e), grind (arith, common_steps, e))

pub loop-column-preserved : goal.loop-column-preserved
loop-column-preserved c =
    let turn = zip_turn c.args.columns.now c.args.exprs.now c.loop-column.yielded c.into_iter-column-iterator.result c.loop-column.column-iterator c.next.new.self c.next.result
    (search rules) (search rules) c.loop-column.yielded_by (c.in-Some.column, c.in-Some.expr) c.in-Some.is c.next.ensures.steps in (
      value_more (length c.loop-column.yielded) _ c.args.columns.now c.args.exprs.now c.in-Some.column.now c.in-Some.expr.now c.in_ok-value.value
          c.loop-column.row c.push.new.self (spec.row_of c.args.columns.now c.args.exprs.now) turn.0 turn.1 (turn.2 c.in-Some.column.now) (turn.3 c.in-Some.expr.now)
          c.in_ok-value.ensures c.in_ok-push.ensures.ok (length_push c.loop-column.yielded _) c.loop-column.invariant.0,
      search rules,
      search rules,
    )

pub returns : goal.returns
returns c =
    let many : length c.loop-column.yielded ≡ min (length c.args.columns.now) (length c.args.exprs.now) =
    zip_end c.args.columns.now c.args.exprs.now c.loop-column.yielded c.into_iter-column-iterator.result c.loop-column.column-iterator c.next.new.self c.next.result
    (search rules) (search rules) c.loop-column.yielded_by
    c.in-None.is c.next.ensures.steps in
    row_whole (length c.loop-column.yielded) c.args.columns.now c.args.exprs.now c.loop-column.row (spec.row_of c.args.columns.now c.args.exprs.now) many c.loop-column.invariant.0
