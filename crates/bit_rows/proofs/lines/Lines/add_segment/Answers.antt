use Rattle.std.proofs.Common.{◌≡◌, ◌*◌, ◌<◌, ◌≤◌, ◌∙◌, ℕ, List, ap, arith, subst}
use Rattle.std.specs.Prelude.{vec_capacity}
use Rattle.bit_rows.specs.Members.{members}
use Rattle.bit_rows.specs.Segments.{JoinsSegment, segment}
use Rattle.bit_rows.specs.Matrix.{row_at}
use Rattle.bit_rows.specs.Lines.{rows_of}
use Rattle.bit_rows.specs.declared.line.Line.TheVariants.{InWords}
use Rattle.bit_rows.proofs.RowLines.{ended_row, line_joined_after, places_apart, pool_joined, source_words}
use Rattle.bit_rows.proofs.lines.Lines.add_segment.Goals as goal

pub join_segments-requires-clause-apart : goal.join_segments-requires-clause-apart
join_segments-requires-clause-apart c =
    let mid = c.segment_of-segment.new.self in
    let s : ℕ = c.segment_of-segment.result in
    let at = c.segment_of-segment.ensures.words in
    rw (c.place-place.ensures.place, c.place-other_place.ensures.place)
    (places_apart s c.args.other mid.room (λ same. c.requires.apart
    (c.segment_of-segment.ensures.joined.holds.apart c.args.source c.args.target c.args.other c.args.end at.0
    (c.segment_of-segment.ensures.others c.args.source c.requires.apart ∙ c.requires.words)
    (at.1.0 ∙ ap (λ (n : ℕ). InWords n at.0) same))))

pub returns : goal.returns
returns c =
    let mid = c.segment_of-segment.new.self in
    let s : ℕ = c.segment_of-segment.result in
    let at = c.segment_of-segment.ensures.words in
    let lines = c.args.self.now in
    let words : List ℕ = c.join_segments.new.pool in
    let row : List ℕ = row_at (rows_of c.args.self.now) c.args.source in
    let joins : JoinsSegment (s * mid.room) mid.room (members (segment mid.pool.items (c.args.other * mid.room) mid.room)) mid.pool.items words =
    rw c.deref_mut.ensures.value at
    (rw c.place-other_place.ensures.place at (rw c.place-place.ensures.place at c.join_segments.ensures)) in
    let same : members (segment mid.pool.items (c.args.other * mid.room) mid.room) ≡ row =
    source_words c.args.target c.args.source c.args.other c.args.end c.args.self.now mid c.segment_of-segment.ensures.joined c.requires.apart
    (c.segment_of-segment.ensures.others c.args.source c.requires.apart ∙ c.requires.words) in
    line_joined_after c.args.target row c.args.self.now mid _ c.segment_of-segment.ensures.joined
    (pool_joined c.args.target s at.0 row words mid c.segment_of-segment.ensures.joined.holds at.1.0
    (λ n member.
    let below : n < c.args.end =
    ended_row lines.lines.items lines.pool.items lines.segments lines.room (vec_capacity lines.pool) c.args.source c.args.other c.args.end n
    c.requires.holds c.requires.words member in
    let most : c.args.end ≤ at.0 = at.1.1 in
    omega arith)
    (subst (λ (r : List ℕ). JoinsSegment (s * mid.room) mid.room r mid.pool.items words) same joins))
