use Rattle.std.proofs.Common.{◌+◌, subst, ℕ}
use Rattle.history_core.specs.Events.{begun}
use Rattle.order_test.specs.Unkept.{StandsBefore}
use Rattle.order_test.proofs.SearchLemmas.{kept_is}
use Rattle.order_test.proofs.GlanceLemmas.{stands_from}
use Rattle.order_test.proofs.search.read_is_reached.Goals as goal

pub returns : goal.returns
returns c = λ h.
    kept_is c.args.survey.now c.args.read.now c.requires.survey c.requires.read
    (λ late. late (subst (λ (n : ℕ). StandsBefore c.args.survey.now.order.now n c.args.read.now.reader) c.requires.source
    (stands_from (begun c.args.survey.now.events.now + 1) c.args.survey.now.order.now c.args.survey.now.places.now.at.items c.requires.survey.places_are c.args.source c.args.read.now.reader
    (c.stands_before.ensures c.if-not-stands_before.false))))
    (c.is_reached.ensures h)
