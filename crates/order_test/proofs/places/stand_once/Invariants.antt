use Rattle.order_test.proofs.PlaceLemmas.{StandOnceBelow}
use Rattle.order_test.proofs.places.stand_once.Given as goal

abbrev pub invariant-loop-at : goal.invariant-loop-at
invariant-loop-at l = StandOnceBelow l.order l.at
