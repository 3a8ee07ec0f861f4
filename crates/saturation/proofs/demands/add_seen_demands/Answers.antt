use Rattle.std.proofs.Common.{arith}
use Rattle.saturation.specs.Pairs.{IsSeenDemand}
use Rattle.saturation.proofs.Adds.{first_more}
use Rattle.saturation.proofs.Steps.{seen_whole}
use Rattle.saturation.proofs.demands.add_seen_demands.Goals as goal

pub loop-writer-preserved : goal.loop-writer-preserved
loop-writer-preserved c =
    first_more (IsSeenDemand c.args.history.now.events c.args.reader.now.level c.args.reader.now.seen c.args.marks.now c.args.seen.now) c.loop-writer.writer
    c.args.edges.now.items c.loop-writer.edges.items c.add_demand.new.edges.items c.loop-writer.invariant c.in_ok-add_demand.ensures

pub returns : goal.returns
returns c =
    let number = c.begun-writer-end.ensures.number in
    seen_whole c.args.history.now.events c.args.reader.now.level c.args.reader.now.seen c.args.marks.now c.args.seen.now c.loop-writer.writer
    c.args.edges.now.items c.loop-writer.edges.items (omega arith) c.loop-writer.invariant
