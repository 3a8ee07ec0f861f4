-- One expression more, an expression that fails, and the end of the columns or the values, where all slots are filled.
use Rattle.std.proofs.Common.{◌≡◌, Option, None, Ok, length, min, replicate, ap, sym, ◌∙◌, rules, arith}
use Rattle.std.proofs.lemmas.Grind.{common_steps}
use Rattle.std.proofs.lemmas.List.{length_push}
use Rattle.std.proofs.lemmas.Slice.Zip.{zip_turn, zip_end}
use Rattle.sql_tree.specs.declared.typed_expr.TypedExpr.{TypedExpr}
use Rattle.change_typing.proofs.Ending.{slots_end}
use Rattle.change_typing.proofs.Setting.{slots_left, cell_placed, cell_failed}
use Rattle.change_typing.proofs.row.slots_of.Goals as goal

pub returns-in_err-slots-2 : goal.returns-in_err-slots-2
returns-in_err-slots-2 c =
    let turn = zip_turn c.args.columns.now c.args.row.now c.loop-at.yielded c.into_iter-at-iterator.result c.loop-at.at-iterator c.next.new.self c.next.result
    (search rules) (search rules) c.loop-at.yielded_by (c.in-Some.at, c.in-Some.expr) c.in-Some.is c.next.ensures.steps in
    let e = cell_failed (length c.loop-at.yielded) c.args.columns.now c.args.row.now c.in-Some.at.now c.in-Some.expr.now c.loop-at.slots.items
    c.in_err-slots-2.field-0.0 (slots_left (replicate {A = Option TypedExpr} c.args.count None) c.args.columns.now c.args.row.now)
    turn.0 turn.1 (turn.2 c.in-Some.at.now) (turn.3 c.in-Some.expr.now) (rw c.in_err-slots-2.ensures.refused at c.cell.ensures) c.loop-at.invariant.0 in
    first_of (search (rules, e), grind (arith, common_steps, e))

pub loop-at-preserved : goal.loop-at-preserved
loop-at-preserved c =
    let turn = zip_turn c.args.columns.now c.args.row.now c.loop-at.yielded c.into_iter-at-iterator.result c.loop-at.at-iterator c.next.new.self c.next.result
    (search rules) (search rules) c.loop-at.yielded_by (c.in-Some.at, c.in-Some.expr) c.in-Some.is c.next.ensures.steps in (
      cell_placed (length c.loop-at.yielded) _ c.args.columns.now c.args.row.now c.in-Some.at.now c.in-Some.expr.now c.cell.result
          c.loop-at.slots.items c.in_ok-slots-2.slots.items (slots_left (replicate {A = Option TypedExpr} c.args.count None) c.args.columns.now c.args.row.now)
          turn.0 turn.1 (turn.2 c.in-Some.at.now) (turn.3 c.in-Some.expr.now) c.cell.ensures c.in_ok-slots-2.ensures.placed
          (length_push c.loop-at.yielded _) c.loop-at.invariant.0,
      search rules,
      search rules,
    )

pub returns : goal.returns
returns c =
    let many : length c.loop-at.yielded ≡ min (length c.args.columns.now) (length c.args.row.now) =
    zip_end c.args.columns.now c.args.row.now c.loop-at.yielded c.into_iter-at-iterator.result c.loop-at.at-iterator c.next.new.self c.next.result
    (search rules) (search rules) c.loop-at.yielded_by
    c.in-None.is c.next.ensures.steps in
    slots_end (length c.loop-at.yielded) c.args.columns.now c.args.row.now c.loop-at.slots.items
    (slots_left (replicate {A = Option TypedExpr} c.args.count None) c.args.columns.now c.args.row.now) many c.loop-at.invariant.0
    ∙ ap Ok (sym c.from_vec.ensures)
