-- A table stands at most as often as there are entries.
use Rattle.std.proofs.Common.{◌≤◌, length, arith}
use Rattle.select_typing.proofs.ReadColumns.{times_fit}
use Rattle.select_typing.specs.Entries.{entries}
use Rattle.typing_rules.specs.Select.{times_mentioned}
use Rattle.std.proofs.Common.{drop}
use Rattle.select_typing.proofs.points.times_mentioned.Goals as goal

pub overflow_add-times : goal.overflow_add-times
overflow_add-times c =
    let within : c.loop-entry.times ≤ length c.args.entries.now =
    times_fit c.args.number c.loop-entry.times (times_mentioned c.args.number (entries (drop c.loop-entry.entry-index c.args.entries.now)))
    c.args.entries.now c.loop-entry.invariant in
    omega arith
