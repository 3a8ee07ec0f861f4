use Rattle.std.proofs.Common.{◌≡◌}
use Rattle.history_summary.specs.Walk.{IsWalked}
use Rattle.history_summary.proofs.walk.counts_of.Given as goal

abbrev pub invariant-loop-event : goal.invariant-loop-event
invariant-loop-event l = IsWalked l.history.events l.walk × (l.walk.counts.events ≡ l.event-index)
