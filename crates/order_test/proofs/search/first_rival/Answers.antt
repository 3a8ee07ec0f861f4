use Rattle.std.proofs.Common.{arith, sym, ◌∙◌}
use Rattle.std.proofs.lemmas.Bool.{false≢true}
use Rattle.order_test.proofs.SearchLemmas.{rival_least, no_rival_step, bounds_of}
use Rattle.order_test.proofs.search.first_rival.Goals as goal

pub returns-then-is_rival-clause-least : goal.returns-then-is_rival-clause-least
returns-then-is_rival-clause-least c = rival_least c.args.survey.now c.args.read.now c.loop-at.at c.requires.survey c.requires.read c.loop-at.invariant

pub loop-at-preserved : goal.loop-at-preserved
loop-at-preserved c =
    no_rival_step c.args.survey.now c.args.read.now c.loop-at.at (λ rival. false≢true (sym c.if-is_rival.false ∙ c.is_rival.ensures.1 rival)) c.loop-at.invariant

pub returns-clause-none : goal.returns-clause-none
returns-clause-none c = λ other rival.
    let h = bounds_of c.args.survey.now c.args.read.now c.requires.survey c.requires.read other rival in
    let n = c.requires.scene.txns_are.count in
    let last = h.1 in
    c.loop-at.invariant other h.0 (let end = c.loop-at-test.false in omega arith) rival
