use Rattle.std.proofs.lemmas.Result.{IfOk-weaker}
use Rattle.order_test.proofs.SearchLemmas.{found_is}
use Rattle.order_test.proofs.search.found_by_records.Goals as goal

pub returns : goal.returns
returns g c =
    IfOk-weaker c.found_after.result _ _
    (λ found among. found_is c.args.survey.now.events.now c.args.survey.now.order.now found c.requires.survey.holds c.in-None.ensures.none among)
    c.found_after.ensures
