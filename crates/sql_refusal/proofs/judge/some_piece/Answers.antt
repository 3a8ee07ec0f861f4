use Rattle.std.proofs.Common.{◌≡◌, true, false, sym, ◌∙◌}
use Rattle.sql_refusal.specs.Pieces.{some}
use Rattle.sql_refusal.specs.Streams.{first_piece, tokens_in}
use Rattle.sql_refusal.proofs.Streamed.{some_here, some_later}
use Rattle.sql_refusal.proofs.judge.some_piece.Goals as goal

pub returns-then-holds : goal.returns-then-holds
returns-then-holds g c =
    let test = g.T.Test.test in
    let i = rw c.in-Some.is at c.loop-rest.invariant in
    let h : test (first_piece c.in-Some.ahead.now) ≡ true = cc (c.holds.ensures, c.if-holds.true, c.split.ensures.piece) in
    sym (some_here test c.in-Some.ahead.now h) ∙ i

pub loop-rest-preserved : goal.loop-rest-preserved
loop-rest-preserved g c =
    let test = g.T.Test.test in
    let i = rw c.in-Some.is at c.loop-rest.invariant in
    let h : test (first_piece c.in-Some.ahead.now) ≡ false = cc (c.holds.ensures, c.if-holds.false, c.split.ensures.piece) in
    sym (some_later test c.in-Some.ahead.now (tokens_in c.split.result.1) h c.split.ensures.following) ∙ i

pub returns : goal.returns
unfolding some
returns g c = rw c.in_default.is at c.loop-rest.invariant
