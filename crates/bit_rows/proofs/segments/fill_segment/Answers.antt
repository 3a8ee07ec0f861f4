use Rattle.bit_rows.proofs.Parts.{put_joins}
use Rattle.bit_rows.specs.Runs.{numbers_of}
use Rattle.bit_rows.proofs.segments.fill_segment.Goals as goal

pub returns : goal.returns
returns c =
    put_joins c.args.pool.now c.fill.new.words (numbers_of c.args.run.first c.args.run.end) c.args.place c.args.room c.requires.room
    c.fill.ensures.size c.fill.ensures.union
