use Rattle.std.proofs.Common.{◌-◌, arith, length}
use Rattle.bit_rows.proofs.Parts.{below_end}
use Rattle.bit_rows.proofs.segments.end_of.Goals as goal

pub returns-then-words-count-ne0 : goal.returns-then-words-count-ne0
returns-then-words-count-ne0 c n member =
    below_end c.args.words.now (length c.args.words.now - c.loop-done.done) n c.loop-done.invariant member

pub returns : goal.returns
returns c n member =
    let past = c.loop-done-test.false in
    below_end c.args.words.now 0 n (λ k any. c.loop-done.invariant k (omega arith)) member
