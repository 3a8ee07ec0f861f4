-- One row more, and a row that fails.
use Rattle.std.proofs.Common.{map, rules, arith}
use Rattle.std.proofs.lemmas.Grind.{common_steps}
use Rattle.typing_rules.specs.Outcome.{all_of}
use Rattle.row_meaning.specs.Changes.{change_of}
use Rattle.row_writes.specs.Seen.{rows_seen}
use Rattle.row_writes.proofs.Steps.{change_more, change_failed}
use Rattle.row_writes.proofs.changes.change_each.Goals as goal

pub returns-in_err-made : goal.returns-in_err-made
returns-in_err-made c =
    let e = change_failed (change_of c.args.table.now c.args.change.now) c.args.rows.now c.loop-row.row-index c.row-item.result c.loop-row.changes
    c.in_err-made.field-0.0 (all_of (map (change_of c.args.table.now c.args.change.now) (rows_seen c.args.rows.now)))
    c.loop-row-test.true c.row-item.is c.in_err-made.ensures c.loop-row.invariant in
    first_of (search (rules, e), grind (arith, common_steps, e))

pub loop-row-preserved : goal.loop-row-preserved
loop-row-preserved c =
    change_more (change_of c.args.table.now c.args.change.now) c.args.rows.now c.loop-row.row-index c.row-item.result c.in_ok-made.made c.loop-row.changes
    c.push.new.self (all_of (map (change_of c.args.table.now c.args.change.now) (rows_seen c.args.rows.now)))
    c.loop-row-test.true c.row-item.is c.in_ok-made.ensures c.in_ok-push.ensures.ok c.loop-row.invariant
