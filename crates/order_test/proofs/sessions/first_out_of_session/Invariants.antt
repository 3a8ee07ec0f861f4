use Rattle.order_test.proofs.SightLemmas.{NoneOutBelow}
use Rattle.order_test.proofs.sessions.first_out_of_session.Given as goal

abbrev pub invariant-loop-at : goal.invariant-loop-at
invariant-loop-at l = NoneOutBelow l.survey.events.now l.survey.order.now l.at
