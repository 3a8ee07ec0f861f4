use Rattle.std.proofs.Common.{◌≡◌, ◌+◌, ◌-◌, suc, true, length, ap, ◌∙◌, arith}
use Rattle.sql_grammar.specs.Reading.{front}
use Rattle.sql_grammar.specs.Syntax.{kind}
use Rattle.sql_refusal.specs.Forms.{at, many_from, may_begin, passes}
use Rattle.sql_refusal.specs.Tables.{form_of}
use Rattle.sql_refusal.proofs.Turns.{one_more, turned}
use Rattle.sql_refusal.proofs.pass.+pass.Goals as goal

pub loop-turn-init : goal.loop-turn-init
loop-turn-init g t c =
    let f = form_of c.in-Many.item.now in
    let e : suc (length c.args.ahead.now) ≡ length c.args.ahead.now + 1 - 0 = omega arith in
    ap (λ n. many_from (may_begin f) (passes (at c.args.room) f) n c.args.ahead.now) e

pub loop-turn-preserved : goal.loop-turn-preserved
loop-turn-preserved g t c =
    let f = form_of c.in-Many.item.now in
    let e = one_more (λ n. many_from (may_begin f) (passes (at c.args.room) f) n c.loop-turn.following.now) _ c.loop-turn._turn c.loop-turn-test.true c.loop-turn.invariant in
    let h : may_begin f (kind (front c.loop-turn.following.now)) ≡ true = cc (c.may_begin-in-loop-turn.ensures, c.if-not-may_begin.false, c.first-in-loop-turn.ensures) in
    e ∙ turned (at c.args.room) f _ c.loop-turn.following.now c.in_ok-following-in-Many.following.now h c.in_ok-following-in-Many.ensures
