use Rattle.order_test.proofs.SearchLemmas.{kept_step, kept_all}
use Rattle.order_test.proofs.search.first_unreached.Goals as goal

pub loop-place-preserved : goal.loop-place-preserved
loop-place-preserved c =
    kept_step c.args.survey.now.events.now c.args.survey.now.order.now c.loop-place.place (c.event_is_reached.ensures c.if-not-event_is_reached.false) c.loop-place.invariant

pub returns-clause-kept : goal.returns-clause-kept
returns-clause-kept c = λ earlier below. kept_all c.args.survey.now.events.now c.args.survey.now.order.now c.loop-place.place c.loop-place-test.false c.loop-place.invariant earlier
