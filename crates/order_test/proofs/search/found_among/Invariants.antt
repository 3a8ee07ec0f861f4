use Rattle.order_test.specs.Unkept.{IsKeptBelow}
use Rattle.order_test.proofs.search.found_among.Given as goal

abbrev pub invariant-loop-place : goal.invariant-loop-place
invariant-loop-place l = IsKeptBelow l.survey.events.now l.survey.order.now l.place
