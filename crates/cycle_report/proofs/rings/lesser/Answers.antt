use Rattle.std.proofs.Common.{arith}
use Rattle.cycle_report.proofs.RingLemmas.{least_new, least_old}
use Rattle.cycle_report.proofs.rings.lesser.Goals as goal

pub returns-then-number-best-clause-least : goal.returns-then-number-best-clause-least
returns-then-number-best-clause-least c =
    let own = c.begin_of-number.ensures in
    let best = c.begin_of-best.ensures in
    least_new c.args.cycle.now c.args.least c.args.at own.edge best.edge own.is best.is
    (let a = own.number_is in let b = best.number_is in let h = c.if-number-best.true in omega arith) c.requires.least

pub returns-clause-least : goal.returns-clause-least
returns-clause-least c =
    let own = c.begin_of-number.ensures in
    let best = c.begin_of-best.ensures in
    least_old c.args.cycle.now c.args.least c.args.at own.edge best.edge own.is best.is
    (let a = own.number_is in let b = best.number_is in let h = c.if-number-best.false in omega arith) c.requires.least
