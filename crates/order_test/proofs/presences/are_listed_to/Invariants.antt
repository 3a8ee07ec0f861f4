use Rattle.order_test.proofs.PresenceLemmas.{AreListedTo}
use Rattle.order_test.proofs.presences.are_listed_to.Given as goal

abbrev pub invariant-loop-at : goal.invariant-loop-at
invariant-loop-at l = AreListedTo l.pairs l.keys l.top l.at
