use Rattle.std.proofs.Common.{arith}
use Rattle.order_test.proofs.SightLemmas.{out_bounds}
use Rattle.order_test.proofs.sessions.first_out_of_session.Goals as goal

pub loop-at-init : goal.loop-at-init
loop-at-init c = λ a b within out.
    let h = out_bounds c.args.survey.now.events.now c.args.survey.now.order.now c.requires.survey.holds a b out in
    let p = h.0 in absurd (omega arith)

pub returns-clause-none : goal.returns-clause-none
returns-clause-none c = λ a b out.
    let h = out_bounds c.args.survey.now.events.now c.args.survey.now.order.now c.requires.survey.holds a b out in
    let n = c.requires.txns.count in
    let less = h.1 in
    let last = h.2 in
    c.loop-at.invariant a b (let end = c.loop-at-test.false in omega arith) out
