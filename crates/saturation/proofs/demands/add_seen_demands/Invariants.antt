use Rattle.saturation.specs.Pairs.{AddsPairs, IsFirstBelow, IsSeenDemand}
use Rattle.saturation.proofs.demands.add_seen_demands.Given as goal

abbrev pub invariant-loop-writer : goal.invariant-loop-writer
invariant-loop-writer l =
    AddsPairs (IsFirstBelow (IsSeenDemand l.history.events l.reader.level l.reader.seen l.marks l.seen) l.writer) l.fn.edges.items l.edges.items
