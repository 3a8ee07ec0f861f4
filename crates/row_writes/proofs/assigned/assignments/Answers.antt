-- One assignment more, and an assignment that fails.
use Rattle.std.proofs.Common.{rules, arith}
use Rattle.std.proofs.lemmas.Grind.{common_steps}
use Rattle.row_meaning.specs.Changes as changes
use Rattle.row_writes.specs.Places.{assigning}
use Rattle.row_writes.proofs.Steps.{item_more, item_failed}
use Rattle.row_writes.proofs.assigned.assignments.Goals as goal

pub returns-in_err-value : goal.returns-in_err-value
returns-in_err-value c =
    let e = item_failed (assigning c.args.columns.now c.args.row.now) c.args.set.now c.loop-assignment.assignment-index c.assignment-item.result
    c.loop-assignment.values c.in_err-value.field-0.0 (changes.assignments c.args.columns.now c.args.set.now c.args.row.now)
    c.loop-assignment-test.true c.assignment-item.is c.in_err-value.ensures c.loop-assignment.invariant in
    first_of (search (rules, e), grind (arith, common_steps, e))

pub loop-assignment-preserved : goal.loop-assignment-preserved
loop-assignment-preserved c =
    item_more (assigning c.args.columns.now c.args.row.now) c.args.set.now c.loop-assignment.assignment-index c.assignment-item.result c.in_ok-value.value
    c.loop-assignment.values c.push.new.self (changes.assignments c.args.columns.now c.args.set.now c.args.row.now)
    c.loop-assignment-test.true c.assignment-item.is c.in_ok-value.ensures c.in_ok-push.ensures.ok c.loop-assignment.invariant
