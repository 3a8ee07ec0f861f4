use Rattle.std.proofs.Common.{arith}
use Rattle.bit_rows.proofs.Blocks.{joins_within_more}
use Rattle.bit_rows.proofs.lanes.join_within.Goals as goal

pub loop-block-preserved : goal.loop-block-preserved
loop-block-preserved c =
    joins_within_more c.args.to c.args.from c.loop-block.block c.args.count c.args.words.now c.loop-block.words c.join_block_within.new.words
    (omega arith) c.requires.apart c.loop-block.invariant c.join_block_within.ensures
