use Rattle.bit_rows.proofs.Parts.{joined_segments}
use Rattle.bit_rows.proofs.segments.join_segments.Goals as goal

pub returns : goal.returns
returns c =
    joined_segments c.args.pool.now c.join_within.new.words c.args.place c.args.room c.args.other c.join_within.ensures
