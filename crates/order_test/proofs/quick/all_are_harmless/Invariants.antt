use Rattle.order_test.specs.Scenes.{AreHarmless}
use Rattle.order_test.proofs.quick.all_are_harmless.Given as goal

abbrev pub invariant-loop-at : goal.invariant-loop-at
invariant-loop-at l = AreHarmless l.survey l.read l.at l.all
