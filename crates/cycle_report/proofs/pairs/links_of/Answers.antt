use Rattle.std.proofs.Common.{[], length, refl}
use Rattle.std.proofs.lemmas.Option.{slice_get_read}
use Rattle.cycle_report.proofs.PairSteps.{links_none, links_more, links_whole}
use Rattle.cycle_report.proofs.pairs.links_of.Goals as goal

pub loop-place-init : goal.loop-place-init
loop-place-init c = (rw c.new-links.ensures.items (links_none c.args.events.now []), refl)

pub add_link-requires-clause-is : goal.add_link-requires-clause-is
add_link-requires-clause-is c =
    slice_get_read c.args.events.now (length c.args.events.now) c.loop-place.place c.index-events-place.result refl c.loop-place-test.true c.index-events-place.is

pub add_link-requires-clause-owner : goal.add_link-requires-clause-owner
add_link-requires-clause-owner c =
    c.requires.owners.each c.loop-place.place c.index-events-place.result
    (slice_get_read c.args.events.now (length c.args.events.now) c.loop-place.place c.index-events-place.result refl c.loop-place-test.true c.index-events-place.is)

pub loop-place-preserved : goal.loop-place-preserved
loop-place-preserved c = (
  links_more c.args.events.now c.loop-place.place [] c.loop-place.links.items c.add_link.new.edges.items c.loop-place.invariant.0 c.in_ok-next.ensures.pairs,
  c.in_ok-next.ensures.count,
)

pub returns : goal.returns
returns c = links_whole c.args.events.now c.loop-place.place [] c.loop-place.links.items c.loop-place-test.false c.loop-place.invariant.0
