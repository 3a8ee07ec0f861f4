use Rattle.std.proofs.Common.{sym, ◌∙◌, subst, ℕ, arith}
use Rattle.std.proofs.lemmas.List.{get_or_default}
use Rattle.order_test.specs.Sights.{IsReadAt}
use Rattle.order_test.proofs.SearchLemmas.{read_at, kept_without_read}
use Rattle.order_test.proofs.search.event_is_reached.Goals as goal

pub read_is_reached-requires-clause-read : goal.read_is_reached-requires-clause-read
read_is_reached-requires-clause-read c =
    let read =
    read_at c.args.survey.now.events.now c.args.survey.now.glance.now.owners.items c.args.place c.event_at-event.result.now c.requires.survey.glance_is.owners c.requires.survey.orderly
    c.event_at-event.ensures c.in-Some.ensures.some.0
    in
    subst (λ (n : ℕ). IsReadAt c.args.survey.now.events.now c.args.place c.event_at-event.result.now n)
    (get_or_default c.args.survey.now.glance.now.owners.items c.args.place 0 c.index-reader.result.now
    (let n = c.requires.survey.glance_is.owners.count in let w = c.requires.within in omega arith) ∙ sym c.index-reader.ensures) read

pub read_is_reached-requires-clause-source : goal.read_is_reached-requires-clause-source
read_is_reached-requires-clause-source c = c.in-Some.ensures.some.1

pub returns-in-None : goal.returns-in-None
returns-in-None c = λ h.
    kept_without_read c.args.survey.now.events.now c.args.survey.now.order.now c.args.place c.event_at-event.result.now c.event_at-event.ensures c.in-None.ensures.none
