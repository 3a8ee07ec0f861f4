use Rattle.std.proofs.Common.{sym, ◌∙◌, subst, ℕ, arith}
use Rattle.std.proofs.lemmas.List.{get_or_default}
use Rattle.order_test.specs.Sights.{IsReadAt}
use Rattle.order_test.proofs.SearchLemmas.{read_at}
use Rattle.order_test.proofs.search.found_at.Goals as goal

pub found_of-requires-clause-read : goal.found_of-requires-clause-read
found_of-requires-clause-read c =
    let read =
    read_at c.args.survey.now.events.now c.args.survey.now.glance.now.owners.items c.args.place c.event_at-event.result.now c.requires.survey.glance_is.owners c.requires.survey.orderly
    c.event_at-event.ensures (c.is_reading.ensures.0 c.if-not-is_reading.false)
    in
    subst (λ (n : ℕ). IsReadAt c.args.survey.now.events.now c.args.place c.event_at-event.result.now n)
    (get_or_default c.args.survey.now.glance.now.owners.items c.args.place 0 c.index-reader.result.now
    (let n = c.requires.survey.glance_is.owners.count in let w = c.requires.within in omega arith) ∙ sym c.index-reader.ensures) read
