use Rattle.std.proofs.Common.{[]}
use Rattle.saturation.specs.Pairs.{AddsPairs, IsForcedBelow}
use Rattle.saturation.proofs.pairs.forced.Given as goal

abbrev pub invariant-loop-reader : goal.invariant-loop-reader
invariant-loop-reader l = AddsPairs (IsForcedBelow l.history.events l.reader) [] l.edges.items
