use Rattle.std.proofs.Common.{sym, ◌∙◌, refl, subst, ℕ, arith}
use Rattle.std.proofs.lemmas.Bool.{false≢true}
use Rattle.std.proofs.lemmas.List.{get_or_default}
use Rattle.order_test.specs.Sights.{IsReadAt}
use Rattle.order_test.proofs.SearchLemmas.{read_at, kept_without_read}
use Rattle.order_test.proofs.search.event_is_kept.Goals as goal

pub returns-then-not-is_reading : goal.returns-then-not-is_reading
returns-then-not-is_reading c = (
  λ h.
      kept_without_read c.args.survey.now.events.now c.args.survey.now.order.now c.args.place c.event_at-event.result.now c.event_at-event.ensures
      (λ reading. false≢true (sym c.if-not-is_reading.true ∙ c.is_reading.ensures.1 reading)),
  λ kept. refl,
)

pub read_is_kept-requires-clause-read : goal.read_is_kept-requires-clause-read
read_is_kept-requires-clause-read c =
    let read =
    read_at c.args.survey.now.events.now c.args.survey.now.glance.now.owners.items c.args.place c.event_at-event.result.now c.requires.survey.glance_is.owners c.requires.survey.orderly
    c.event_at-event.ensures (c.is_reading.ensures.0 c.if-not-is_reading.false)
    in
    subst (λ (n : ℕ). IsReadAt c.args.survey.now.events.now c.args.place c.event_at-event.result.now n)
    (get_or_default c.args.survey.now.glance.now.owners.items c.args.place 0 c.index-reader.result.now
    (let n = c.requires.survey.glance_is.owners.count in let w = c.requires.within in omega arith) ∙ sym c.index-reader.ensures) read
