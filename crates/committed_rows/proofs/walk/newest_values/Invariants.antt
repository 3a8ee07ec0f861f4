use Rattle.std.proofs.Common.{◌≤◌}
use Rattle.history_core.specs.Events.{begun}
use Rattle.committed_rows.specs.Walk.{AreNewestAbove}
use Rattle.committed_rows.proofs.walk.newest_values.Given as goal

abbrev pub invariant-loop-number : goal.invariant-loop-number
invariant-loop-number l = AreNewestAbove l.history.events l.number l.newest × (l.number ≤ begun l.history.events)

abbrev pub decreases-loop-number : goal.decreases-loop-number
decreases-loop-number l = l.number
