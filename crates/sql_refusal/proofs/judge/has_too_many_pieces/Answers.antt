use Rattle.std.proofs.Common.{◌≡◌, ◌+◌, true, false, ap, sym, ◌∙◌, arith}
use Rattle.std.specs.Prelude.{nat_lt}
use Rattle.sql_refusal.specs.Pieces.{holds_a_token, number}
use Rattle.sql_refusal.specs.Streams.{first_piece, pieces_of, tokens_in}
use Rattle.sql_refusal.proofs.Streamed.{number_step, count_here, count_on, none_above}
use Rattle.sql_refusal.proofs.judge.has_too_many_pieces.Goals as goal

pub returns-then-left-eq0 : goal.returns-then-left-eq0
returns-then-left-eq0 c =
    let i = rw c.in-Some.is at c.loop-rest.invariant in
    let h : holds_a_token (first_piece c.in-Some.ahead.now) ≡ true = cc (c.holds_a_token.ensures, c.if-holds_a_token.true, c.split.ensures.piece) in
    let n = number_step (λ piece. holds_a_token piece) c.in-Some.ahead.now (tokens_in c.split.result.1) true h c.split.ensures.following in
    let k = ap (λ z. nat_lt 0 z) n ∙ count_here _ in
    let j = rw c.if-left-eq0.true at i in
    sym k ∙ j

pub loop-rest-preserved-else-left-eq0 : goal.loop-rest-preserved-else-left-eq0
loop-rest-preserved-else-left-eq0 c =
    let i = rw c.in-Some.is at c.loop-rest.invariant in
    let h : holds_a_token (first_piece c.in-Some.ahead.now) ≡ true = cc (c.holds_a_token.ensures, c.if-holds_a_token.true, c.split.ensures.piece) in
    let n = number_step (λ piece. holds_a_token piece) c.in-Some.ahead.now (tokens_in c.split.result.1) true h c.split.ensures.following in
    let k = ap (λ z. nat_lt c.loop-rest.left z) n ∙ count_on c.loop-rest.left _ (omega (arith, c.if-left-eq0.false)) in
    sym k ∙ i

pub loop-rest-preserved : goal.loop-rest-preserved
loop-rest-preserved c =
    let i = rw c.in-Some.is at c.loop-rest.invariant in
    let h : holds_a_token (first_piece c.in-Some.ahead.now) ≡ false = cc (c.holds_a_token.ensures, c.if-holds_a_token.false, c.split.ensures.piece) in
    let n = number_step (λ piece. holds_a_token piece) c.in-Some.ahead.now (tokens_in c.split.result.1) false h c.split.ensures.following in
    let m : number (λ piece. holds_a_token piece) (pieces_of (tokens_in c.split.result.1)) ≡ 0 + number (λ piece. holds_a_token piece) (pieces_of (tokens_in c.split.result.1)) = omega arith in
    ap (λ z. nat_lt c.loop-rest.left z) (m ∙ sym n) ∙ i

pub returns : goal.returns
unfolding number
returns c = sym (none_above c.loop-rest.left) ∙ (rw c.in_default.is at c.loop-rest.invariant)
