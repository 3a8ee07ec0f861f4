use Rattle.std.proofs.Common.{[], arith}
use Rattle.history_core.proofs.Prefixes.{sound_of}
use Rattle.saturation.proofs.Adds.{forced_more}
use Rattle.saturation.proofs.Steps.{forced_whole}
use Rattle.saturation.proofs.pairs.forced.Goals as goal

pub loop-reader-preserved : goal.loop-reader-preserved
loop-reader-preserved c =
    forced_more c.args.history.now.events c.loop-reader.reader [] c.loop-reader.edges.items c.add_reader.new.edges.items c.loop-reader.invariant c.in_ok-add_reader.ensures

pub returns-clause-pairs : goal.returns-clause-pairs
returns-clause-pairs c =
    let number = c.begun-size.ensures.number in
    forced_whole c.args.history.now.events c.loop-reader.reader c.loop-reader.edges.items
    (sound_of c.args.history.now.initial c.args.history.now.events c.events-events.ensures.formed.formed) (omega arith) c.loop-reader.invariant
