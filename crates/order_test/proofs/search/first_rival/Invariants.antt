use Rattle.order_test.proofs.SearchLemmas.{NoRivalUpTo}
use Rattle.order_test.proofs.search.first_rival.Given as goal

abbrev pub invariant-loop-at : goal.invariant-loop-at
invariant-loop-at l = NoRivalUpTo l.survey l.read l.at
