use Rattle.std.proofs.Common.{◌+◌}
use Rattle.history_core.specs.Events.{begun}
use Rattle.axiom_rc.proofs.Reading.{AreNotes}
use Rattle.axiom_rc.proofs.sight.Given as goal

abbrev pub invariant-loop-seen : goal.invariant-loop-seen
invariant-loop-seen l = AreNotes (begun l.history.events + 1) l.seen-items l.seen-index l.since.items
