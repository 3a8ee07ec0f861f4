use Rattle.std.proofs.Common.{◌*◌, ◌<◌, ◌≤◌, ℕ, List, arith}
use Rattle.bit_rows.specs.Members.{members}
use Rattle.bit_rows.specs.Segments.{JoinsSegment}
use Rattle.bit_rows.proofs.RowLines.{line_joined_after, pool_joined}
use Rattle.bit_rows.proofs.lines.Lines.add_words.Goals as goal

pub returns : goal.returns
returns c =
    let mid = c.segment_of-segment.new.self in
    let s : ℕ = c.segment_of-segment.result in
    let at = c.segment_of-segment.ensures.words in
    let gained : List ℕ = members c.args.words.now in
    let words : List ℕ = c.join_segment.new.pool in
    let joins : JoinsSegment (s * mid.room) mid.room gained mid.pool.items words =
    rw c.deref_mut.ensures.value at (rw c.place-place.ensures.place at c.join_segment.ensures) in
    line_joined_after c.args.target gained c.args.self.now mid _ c.segment_of-segment.ensures.joined
    (pool_joined c.args.target s at.0 gained words mid c.segment_of-segment.ensures.joined.holds at.1.0
    (λ n member.
    let below : n < c.end_of.result = c.end_of.ensures n member in
    let most : c.end_of.result ≤ at.0 = at.1.1 in
    omega arith) joins)
