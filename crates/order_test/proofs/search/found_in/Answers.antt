use Rattle.std.proofs.Common.{◌≡◌, ◌+◌, ℕ, length, sym, ◌∙◌, subst}
use Rattle.std.proofs.lemmas.Bool.{false≢true}
use Rattle.history_core.specs.Events.{begun}
use Rattle.graph_base.proofs.Fronts.{length_from_once}
use Rattle.order_test.specs.Unkept.{HoldsAll}
use Rattle.order_test.specs.Places.{ArePlaces}
use Rattle.order_test.proofs.search.found_in.Goals as goal

pub glance_of-requires-clause-places : goal.glance_of-requires-clause-places
glance_of-requires-clause-places g c =
    subst (λ (n : ℕ). ArePlaces n c.args.order.now c.args.places.now.at.items) (sym c.requires.places.count) c.requires.places

pub returns-then-not-has_as_many : goal.returns-then-not-has_as_many
returns-then-not-has_as_many g c = λ holds.
    let long : length c.args.order.now ≡ begun c.args.events.now + 1 = length_from_once (begun c.args.events.now + 1) c.args.order.now holds.once in
    false≢true (sym c.if-not-has_as_many.true ∙ c.has_as_many.ensures.1 (c.in_ok-glance.ensures.limits.count ∙ sym long))

pub found_by_glance-requires-clause-holds : goal.found_by_glance-requires-clause-holds
found_by_glance-requires-clause-holds g c =
    subst (λ (n : ℕ). HoldsAll n c.args.order.now) (sym (c.has_as_many.ensures.0 c.if-not-has_as_many.false) ∙ c.in_ok-glance.ensures.limits.count) c.requires.holds

pub found_by_glance-requires-clause-places : goal.found_by_glance-requires-clause-places
found_by_glance-requires-clause-places g c =
    subst (λ (n : ℕ). ArePlaces n c.args.order.now c.args.places.now.at.items)
    (sym (c.has_as_many.ensures.0 c.if-not-has_as_many.false) ∙ c.in_ok-glance.ensures.limits.count) c.requires.places
