use Rattle.order_test.proofs.QuickLemmas.{AreHarmlessEarly}
use Rattle.order_test.proofs.quick.all_are_harmless_early.Given as goal

abbrev pub invariant-loop-at : goal.invariant-loop-at
invariant-loop-at l = AreHarmlessEarly l.survey l.read l.at l.all
