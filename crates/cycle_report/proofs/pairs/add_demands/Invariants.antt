use Rattle.saturation.specs.Pairs.{AddsPairs}
use Rattle.cycle_report.proofs.PairSteps.{IsNewsUpTo}
use Rattle.cycle_report.proofs.pairs.add_demands.Given as goal

abbrev pub invariant-loop-at : goal.invariant-loop-at
invariant-loop-at l = AddsPairs (IsNewsUpTo l.level l.view.events.now l.place l.at) l.fn.edges.items l.edges.items
