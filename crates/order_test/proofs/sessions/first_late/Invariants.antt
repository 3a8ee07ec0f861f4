use Rattle.order_test.proofs.SightLemmas.{NoneLateBelow}
use Rattle.order_test.proofs.sessions.first_late.Given as goal

abbrev pub invariant-loop-at : goal.invariant-loop-at
invariant-loop-at l = NoneLateBelow l.survey.events.now l.survey.order.now l.earlier l.at
