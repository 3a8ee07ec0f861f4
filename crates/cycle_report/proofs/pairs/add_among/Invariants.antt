use Rattle.saturation.specs.Pairs.{AddsPairs}
use Rattle.cycle_report.proofs.PairSteps.{IsNewsAmong}
use Rattle.cycle_report.proofs.pairs.add_among.Given as goal

abbrev pub invariant-loop-at : goal.invariant-loop-at
invariant-loop-at l = AddsPairs (IsNewsAmong l.level l.view.events.now l.place l.numbers l.at) l.fn.edges.items l.edges.items
