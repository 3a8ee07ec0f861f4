use Rattle.bit_rows.proofs.Blocks.{join_chunk_within}
use Rattle.bit_rows.proofs.lanes.join_block_within.Goals as goal

pub returns : goal.returns
returns c = join_chunk_within c.args.to c.args.from 16 c.args.words.now c.requires.room c.requires.other_room
