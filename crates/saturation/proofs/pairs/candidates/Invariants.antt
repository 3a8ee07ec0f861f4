use Rattle.saturation.proofs.Steps.{AreCandidatesBelow}
use Rattle.saturation.proofs.pairs.candidates.Given as goal

abbrev pub invariant-loop-number : goal.invariant-loop-number
invariant-loop-number l = AreCandidatesBelow l.history.events l.cell l.number l.numbers.items
