use Rattle.std.proofs.Common.{◌≡◌, ◌+◌, ◌-◌, suc, true, length, ap, ◌∙◌, arith}
use Rattle.sql_tree.specs.declared.token.Sign.TheVariants as s
use Rattle.sql_grammar.specs.Reading.{front}
use Rattle.sql_grammar.specs.Syntax.{kind}
use Rattle.sql_grammar.proofs.Patterns.{or_left}
use Rattle.sql_refusal.specs.Forms.{at, many_from, may_begin, passes, sign}
use Rattle.sql_refusal.specs.MessageForms.{next_form}
use Rattle.sql_refusal.proofs.Turns.{one_more, turned}
use Rattle.sql_refusal.proofs.message.message.Goals as goal

pub loop-turn-init : goal.loop-turn-init
loop-turn-init c =
    let f = next_form c.args.wide in
    let ts = c.in_ok-following.following.now in
    let e : suc (length ts) ≡ length ts + 1 - 0 = omega arith in
    ap (λ n. many_from (may_begin f) (passes (at c.args.room) f) n ts) e

pub loop-turn-preserved : goal.loop-turn-preserved
loop-turn-preserved c =
    let f = next_form c.args.wide in
    let ts = c.loop-turn.following.now in
    let e = one_more (λ n. many_from (may_begin f) (passes (at c.args.room) f) n ts) _ c.loop-turn._turn c.loop-turn-test.true c.loop-turn.invariant in
    let semi : may_begin (sign s.Semi) (kind (front ts)) ≡ true = cc (c.at_semi.ensures, c.if-not-at_semi.false) in
    let h : may_begin f (kind (front ts)) ≡ true = or_left _ _ semi in
    e ∙ turned (at c.args.room) f _ ts c.in_ok-following-2.following.now h c.in_ok-following-2.ensures
