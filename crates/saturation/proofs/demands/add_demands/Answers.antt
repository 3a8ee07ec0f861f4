use Rattle.std.proofs.Common.{◌≡◌, length, Some, slice_get, refl}
use Rattle.std.proofs.lemmas.Option.{slice_get_read}
use Rattle.saturation.proofs.Adds.{demand_more, demand_whole}
use Rattle.saturation.proofs.demands.add_demands.Goals as goal

pub loop-seen-preserved : goal.loop-seen-preserved
loop-seen-preserved c =
    let at : slice_get c.args.reader.now.seen c.loop-seen.seen-index ≡ Some c.seen-item.result =
    rw c.as_slice-seen-items.ensures at
    (slice_get_read c.as_slice-seen-items.result.now (length c.as_slice-seen-items.result.now) c.loop-seen.seen-index c.seen-item.result refl c.loop-seen-test.true c.seen-item.is) in
    demand_more c.args.history.now.events c.args.reader.now.level c.args.reader.now.seen c.args.marks.now c.loop-seen.seen-index c.seen-item.result
    c.args.edges.now.items c.loop-seen.edges.items c.add_seen_demands.new.edges.items at c.loop-seen.invariant c.in_ok-add_seen_demands.ensures

pub returns : goal.returns
returns c =
    demand_whole c.args.history.now.events c.args.reader.now.level c.args.reader.now.seen c.args.marks.now c.loop-seen.seen-index
    c.args.edges.now.items c.loop-seen.edges.items (rw c.as_slice-seen-items.ensures at c.loop-seen-test.false) c.loop-seen.invariant
