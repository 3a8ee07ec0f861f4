-- The assigned columns are the table's.
use Rattle.std.proofs.Common.{length}
use Rattle.typing_rules.specs.Changes.{own_source}
use Rattle.change_typing.specs.Targets.{targets}
use Rattle.change_typing.proofs.Numbers.{assigned_are}
use Rattle.change_typing.proofs.Reading.{all_within}
use Rattle.change_typing.proofs.change.assigned.Goals as goal

pub returns-clause-within : goal.returns-clause-within
returns-clause-within c =
    all_within (own_source c.args.table.now) (length c.args.table.now.columns) (targets c.as_slice.result.now) c.args.set.now c.set_values.result
    (rw c.as_slice.ensures (assigned_are c.args.table.now c.args.set.now (targets c.in_ok-columns.columns) c.in_ok-columns.ensures))
    c.set_values.ensures
