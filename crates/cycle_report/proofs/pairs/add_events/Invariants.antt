use Rattle.saturation.specs.Pairs.{AddsPairs}
use Rattle.cycle_report.specs.Views.{IsListedBelow}
use Rattle.cycle_report.proofs.pairs.add_events.Given as goal

abbrev pub invariant-loop-place : goal.invariant-loop-place
invariant-loop-place l = AddsPairs (IsListedBelow l.level l.view.events.now l.place) l.fn.edges.items l.edges.items
