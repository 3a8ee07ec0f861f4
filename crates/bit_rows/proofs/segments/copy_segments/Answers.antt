use Rattle.std.proofs.Common.{◌≡◌, ◌+◌, ◌*◌, arith}
use Rattle.bit_rows.proofs.Parts.{copied_more, step_within}
use Rattle.bit_rows.proofs.segments.copy_segments.Goals as goal

pub loop-number-preserved : goal.loop-number-preserved
loop-number-preserved c =
    let here = c.loop-number-test.true in
    let before = c.loop-number.invariant.1 in
    let step = c.copy_segment.ensures.len in
    let more : (c.loop-number.number + 1) * c.args.more ≡ c.loop-number.number * c.args.more + c.args.more = omega arith in
    let within = step_within c.loop-number.number c.args.segments c.args.room (omega arith) in
    let whole = c.requires.room in
    let kept = c.copy_segment.ensures.capacity in
    let was = c.loop-number.invariant.2 in (
      copied_more c.loop-number.number c.args.room c.args.more c.args.pool.now c.loop-number.wider.items c.copy_segment.new.wider.items
          c.requires.larger (omega arith) c.loop-number.invariant.0 c.copy_segment.ensures.items,
      omega arith,
      omega arith,
    )
