use Rattle.std.proofs.Common.{arith}
use Rattle.order_test.proofs.SightLemmas.{out_bounds}
use Rattle.order_test.proofs.sessions.first_late.Goals as goal

pub returns-clause-none : goal.returns-clause-none
returns-clause-none c = λ other out.
    let h = out_bounds c.args.survey.now.events.now c.args.survey.now.order.now c.requires.survey.holds c.args.earlier other out in
    let n = c.requires.txns.count in
    let b = h.2 in
    c.loop-at.invariant other (let end = c.loop-at-test.false in omega arith) out
