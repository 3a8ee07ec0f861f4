use Rattle.std.proofs.Common.{arith}
use Rattle.order_test.proofs.SearchLemmas.{bounds_of}
use Rattle.order_test.proofs.quick.is_no_rival.Goals as goal

pub returns-then-number-eq0 : goal.returns-then-number-eq0
returns-then-number-eq0 c = λ h rival.
    let bounds = bounds_of c.args.survey.now c.args.read.now c.requires.survey c.requires.read c.args.number rival in
    let low = bounds.0 in omega arith

pub returns-then-number-scene : goal.returns-then-number-scene
returns-then-number-scene c = λ h rival.
    let bounds = bounds_of c.args.survey.now c.args.read.now c.requires.survey c.requires.read c.args.number rival in
    let high = bounds.1 in let size = c.requires.scene.txns_are.count in omega arith
