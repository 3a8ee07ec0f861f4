use Rattle.order_test.proofs.SearchLemmas.{kept_step, kept_all}
use Rattle.order_test.proofs.search.found_among.Goals as goal

pub returns : goal.returns
returns c = kept_all c.args.survey.now.events.now c.args.survey.now.order.now c.loop-place.place c.loop-place-test.false c.loop-place.invariant

pub loop-place-preserved : goal.loop-place-preserved
loop-place-preserved c =
    kept_step c.args.survey.now.events.now c.args.survey.now.order.now c.loop-place.place (rw c.in-None.is at c.in_ok-unkept.ensures) c.loop-place.invariant
