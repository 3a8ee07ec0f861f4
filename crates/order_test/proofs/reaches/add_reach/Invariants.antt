use Rattle.order_test.proofs.ReachLemmas.{AddsUpTo}
use Rattle.order_test.proofs.reaches.add_reach.Given as goal

abbrev pub invariant-loop-at : goal.invariant-loop-at
invariant-loop-at l = AddsUpTo l.places.at.items l.numbers l.at l.fn.highest.items l.highest.items l.top
