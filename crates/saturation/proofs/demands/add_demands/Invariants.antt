use Rattle.saturation.specs.Pairs.{AddsPairs, IsDemandBelow}
use Rattle.saturation.proofs.demands.add_demands.Given as goal

abbrev pub invariant-loop-seen : goal.invariant-loop-seen
invariant-loop-seen l =
    AddsPairs (IsDemandBelow l.history.events l.reader.level l.reader.seen l.marks l.seen-index) l.fn.edges.items l.edges.items
