use Rattle.std.proofs.Common.{length, refl, sym, ◌∙◌}
use Rattle.std.proofs.lemmas.Bool.{false≢true}
use Rattle.order_test.proofs.PlaceLemmas.{holds_from_once, once_from_holds}
use Rattle.order_test.proofs.places.places_of.Goals as goal

pub returns-then-not-fits : goal.returns-then-not-fits
returns-then-not-fits c = λ holds. false≢true (sym c.if-not-fits.true ∙ c.fits.ensures.1 (holds.once.below, holds.first))

pub returns-then-not-stand_once : goal.returns-then-not-stand_once
returns-then-not-stand_once c =
    λ holds. false≢true (sym c.if-not-stand_once.true ∙ c.stand_once.ensures.1 (once_from_holds (length c.args.order.now) c.args.order.now holds))

pub returns : goal.returns
returns c =
    let fits = c.fits.ensures.0 c.if-not-fits.false in
    (holds_from_once (length c.args.order.now) c.args.order.now refl fits.0 fits.1 (c.stand_once.ensures.0 c.if-not-stand_once.false), c.in_ok-at.ensures)
