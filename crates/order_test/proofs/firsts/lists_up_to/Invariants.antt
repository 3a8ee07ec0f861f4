use Rattle.order_test.proofs.FirstLemmas.{AreListed}
use Rattle.order_test.proofs.firsts.lists_up_to.Given as goal

abbrev pub invariant-loop-at : goal.invariant-loop-at
invariant-loop-at l = AreListed l.pairs l.keys l.at
