-- One value more, a right side that fails, and the end of the columns or the assignments, where all values are typed.
use Rattle.std.proofs.Common.{◌≡◌, length, min, rules, arith}
use Rattle.std.proofs.lemmas.Grind.{common_steps}
use Rattle.std.proofs.lemmas.List.{length_push}
use Rattle.std.proofs.lemmas.Slice.Zip.{zip_turn, zip_end}
use Rattle.typing_rules.specs.Changes as spec
use Rattle.expr_typing.specs.Scope.{sources}
use Rattle.change_typing.specs.Targets.{targets}
use Rattle.change_typing.proofs.Ending.{values_end}
use Rattle.change_typing.proofs.Setting.{value_more, value_failed}
use Rattle.change_typing.proofs.change.set_values.Goals as goal

pub returns-in_err-value : goal.returns-in_err-value
returns-in_err-value c =
    let turn = zip_turn c.args.columns.now c.args.set.now c.loop-at.yielded c.into_iter-at-iterator.result c.loop-at.at-iterator c.next.new.self c.next.result
    (search rules) (search rules) c.loop-at.yielded_by (c.in-Some.at, c.in-Some.assignment) c.in-Some.is c.next.ensures.steps in
    let e = value_failed (sources c.args.scope.now) (length c.loop-at.yielded) c.args.columns.now c.args.set.now c.in-Some.at.now c.in-Some.assignment.now
    c.loop-at.values c.in_err-value.field-0.0 (spec.set_values (sources c.args.scope.now) (targets c.args.columns.now) c.args.set.now)
    turn.0 turn.1 (turn.2 c.in-Some.at.now) (turn.3 c.in-Some.assignment.now) c.in_err-value.ensures c.loop-at.invariant.0 in
    first_of (search (rules, e), grind (arith, common_steps, e))

pub loop-at-preserved : goal.loop-at-preserved
loop-at-preserved c =
    let turn = zip_turn c.args.columns.now c.args.set.now c.loop-at.yielded c.into_iter-at-iterator.result c.loop-at.at-iterator c.next.new.self c.next.result
    (search rules) (search rules) c.loop-at.yielded_by (c.in-Some.at, c.in-Some.assignment) c.in-Some.is c.next.ensures.steps in (
      value_more (sources c.args.scope.now) (length c.loop-at.yielded) _ c.args.columns.now c.args.set.now c.in-Some.at.now c.in-Some.assignment.now
          c.in_ok-value.value c.loop-at.values c.push.new.self (spec.set_values (sources c.args.scope.now) (targets c.args.columns.now) c.args.set.now)
          turn.0 turn.1 (turn.2 c.in-Some.at.now) (turn.3 c.in-Some.assignment.now) c.in_ok-value.ensures c.in_ok-push.ensures.ok
          (length_push c.loop-at.yielded _) c.loop-at.invariant.0,
      search rules,
      search rules,
    )

pub returns : goal.returns
returns c =
    let many : length c.loop-at.yielded ≡ min (length c.args.columns.now) (length c.args.set.now) =
    zip_end c.args.columns.now c.args.set.now c.loop-at.yielded c.into_iter-at-iterator.result c.loop-at.at-iterator c.next.new.self c.next.result
    (search rules) (search rules) c.loop-at.yielded_by
    c.in-None.is c.next.ensures.steps in
    values_end (sources c.args.scope.now) (length c.loop-at.yielded) c.args.columns.now c.args.set.now c.loop-at.values
    (spec.set_values (sources c.args.scope.now) (targets c.args.columns.now) c.args.set.now) many c.loop-at.invariant.0
