use Rattle.bit_rows.proofs.Parts.{cleared}
use Rattle.bit_rows.proofs.segments.clear_segment.Goals as goal

pub returns : goal.returns
returns c =
    cleared c.args.pool.now c.fill.new.self c.args.place c.args.room c.requires (c.fill.ensures.after (λ y same. same)) c.fill.ensures.len
