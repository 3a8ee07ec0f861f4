use Rattle.std.proofs.Common.{arith, sym}
use Rattle.std.proofs.lemmas.Bool.{true≢false}
use Rattle.bit_rows.proofs.Parts.{has_in, not_in}
use Rattle.bit_rows.proofs.segments.has.Goals as goal

pub returns-then-word-room : goal.returns-then-word-room
returns-then-word-room c =
    let past = c.if-word-room.true in
    (λ no. absurd (true≢false (sym no)), λ member. absurd (not_in c.args.pool.now c.args.place c.args.room c.args.bit (omega arith) member))

pub returns : goal.returns
returns c =
    let here = c.if-word-room.false in
    has_in c.args.pool.now c.args.place c.args.room c.args.bit (omega arith)
