use Rattle.std.proofs.Common.{◌*◌, ◌<◌, ◌≤◌, ℕ, List, arith}
use Rattle.bit_rows.specs.Runs.{numbers_of}
use Rattle.bit_rows.specs.Segments.{JoinsSegment}
use Rattle.bit_rows.proofs.RowLines.{line_joined_after, pool_joined}
use Rattle.bit_rows.proofs.Runs.{in_numbers}
use Rattle.bit_rows.proofs.lines.Lines.fill_line.Goals as goal

pub returns : goal.returns
returns c =
    let mid = c.segment_of-segment.new.self in
    let s : ℕ = c.segment_of-segment.result in
    let at = c.segment_of-segment.ensures.words in
    let numbers : List ℕ = numbers_of c.args.run.first c.args.run.end in
    let words : List ℕ = c.fill_segment.new.pool in
    let joins : JoinsSegment (s * mid.room) mid.room numbers mid.pool.items words =
    rw c.deref_mut.ensures.value at (rw c.place-place.ensures.place at c.fill_segment.ensures) in
    line_joined_after c.args.target numbers c.args.self.now mid _ c.segment_of-segment.ensures.joined
    (pool_joined c.args.target s at.0 numbers words mid c.segment_of-segment.ensures.joined.holds at.1.0
    (λ n member.
    let inside = (in_numbers c.args.run.first c.args.run.end n).0 member in
    let below : n < c.args.run.end = inside.1 in
    let most : c.args.run.end ≤ at.0 = at.1.1 in
    omega arith) joins)
