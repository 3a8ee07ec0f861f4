-- A column that can't be assigned ends the list.
use Rattle.std.proofs.Common.{◌≡◌, [], Err, rules, arith}
use Rattle.std.proofs.lemmas.Grind.{common_steps}
use Rattle.typing_rules.specs.Changes.{assigned_from}
use Rattle.change_typing.specs.Targets.{assigned_target, targets}
use Rattle.change_typing.proofs.Numbers.{assigned_fault}
use Rattle.change_typing.proofs.targets.assigned_columns.Goals as goal

pub returns-in_err-column : goal.returns-in_err-column
returns-in_err-column c =
    let fault : assigned_target c.args.table.now (targets c.loop-name.assigned) c.loop-name-item.result.0 ≡ Err c.in_err-column.field-0.0 =
    first_of (search rules, grind (arith, common_steps)) in
    let e : assigned_from c.args.table.now [] c.args.set.now ≡ Err c.in_err-column.field-0.0 =
    assigned_fault c.args.table.now (targets c.loop-name.assigned) c.args.set.now c.loop-name.name-index c.loop-name-item.result
    c.in_err-column.field-0.0 (assigned_from c.args.table.now [] c.args.set.now)
    (omega arith) c.loop-name-item.is fault c.loop-name.invariant in
    rw e (first_of (search rules, grind (arith, common_steps)))
