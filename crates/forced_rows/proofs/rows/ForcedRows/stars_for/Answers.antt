use Rattle.std.proofs.Common.{◌≤◌, arith, sym, subst}
use Rattle.history_core.specs.Chronicle.{Chronicle, IsFormedChronicle}
use Rattle.history_core.specs.Events.{begun}
use Rattle.history_core.proofs.Prefixes.{sound_of}
use Rattle.history_core.proofs.Offers.{writer_bounded}
use Rattle.forced_rows.specs.declared.sight.Sight.TheVariants.{With}
use Rattle.forced_rows.specs.Sights.{AreRivals}
use Rattle.forced_rows.proofs.StarLists.{IsOfStar, IsFirstDemand, gains_as, first_star, stars_are}
use Rattle.forced_rows.proofs.rows.ForcedRows.stars_for.Goals as goal

pub rivals_among-requires-clause-sources : goal.rivals_among-requires-clause-sources
rivals_among-requires-clause-sources c =
    let h = writer_bounded c.args.history.now.events c.args.source c.args.cell.now c.requires.writes in
    let bounded : c.args.source ≤ begun c.args.history.now.events = omega arith in
    subst (λ (own : Chronicle). c.args.source ≤ begun own.events) (sym c.history-own.ensures) bounded

pub add_later-requires-clause-source : goal.add_later-requires-clause-source
add_later-requires-clause-source c =
    let h = writer_bounded c.args.history.now.events c.args.source c.args.cell.now c.requires.writes in omega arith

pub returns : goal.returns
returns c =
    let events = c.args.history.now.events in
    let reader = c.args.reader in
    let cell = c.args.cell.now in
    let source = c.args.source in
    let formed = (subst IsFormedChronicle c.history-own.ensures c.events-events.ensures.formed).formed in
    let members = c.in_ok-members.members.items in
    let rivals = subst (λ (h : Chronicle). AreRivals (With source) h.events reader cell source members) c.history-own.ensures c.in_ok-members.ensures in
    let star = first_star events reader cell source members rivals in
    let first = gains_as (IsOfStar members source) (IsFirstDemand reader.level events reader cell source) c.new-stars.result.items c.add_star.new.stars.items
    (λ a b. (star a b).0) (λ a b. (star a b).1) c.in_ok-add_star.ensures in
    stars_are events reader cell source c.new-stars.result.items c.add_star.new.stars.items c.add_later.new.stars.items
    (sound_of c.args.history.now.initial events formed) c.requires.writes c.new-stars.ensures.items first c.in_ok-add_later.ensures
