use Rattle.std.proofs.Common.{◌≡◌, ◌+◌, ◌-◌, ◌∙◌, ℕ, List, ap, arith, length}
use Rattle.bit_rows.specs.Members.{members}
use Rattle.bit_rows.specs.Segments.{segment}
use Rattle.bit_rows.proofs.Parts.{joined_within, put_joins, segment_long, zero_past}
use Rattle.bit_rows.proofs.segments.join_segment.Goals as goal

pub returns : goal.returns
returns c =
    let pool : List ℕ = c.args.pool.now in
    let place : ℕ = c.args.place in
    let room : ℕ = c.args.room in
    let words : List ℕ = c.args.words.now in
    let is : place + room - place ≡ room = omega arith in
    let long : length (segment pool place (place + room - place)) ≡ room =
    ap (λ (r : ℕ). length (segment pool place r)) is ∙ segment_long pool place room c.requires.room in
    put_joins pool c.join.new.words (members words) place room c.requires.room c.join.ensures.size
    (joined_within (segment pool place (place + room - place)) c.join.new.words words c.join.ensures
    (λ k past. zero_past words room (λ i. (c.type_inv.words i).fits) c.requires.within k (omega arith)))
