use Rattle.std.proofs.Common.{◌≡◌, [], take}
use Rattle.history_core.specs.Events.{begun}
use Rattle.saturation.specs.Pairs.{AddsPairs}
use Rattle.cycle_report.specs.Views.{IsNextBelow}
use Rattle.cycle_report.proofs.pairs.links_of.Given as goal

abbrev pub invariant-loop-place : goal.invariant-loop-place
invariant-loop-place l = AddsPairs (IsNextBelow l.events l.place) [] l.links.items × (l.begun ≡ begun (take l.place l.events))
