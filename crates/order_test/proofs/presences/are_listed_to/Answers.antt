use Rattle.std.proofs.Common.{length, refl, arith}
use Rattle.std.proofs.lemmas.Option.{slice_get_read}
use Rattle.order_test.proofs.PresenceLemmas.{listed_to_step, listed_to_whole}
use Rattle.order_test.proofs.presences.are_listed_to.Goals as goal

pub loop-at-init : goal.loop-at-init
loop-at-init c = λ k pair below. absurd (omega arith)

pub loop-at-preserved : goal.loop-at-preserved
loop-at-preserved c =
    listed_to_step c.args.pairs.now c.args.keys.now c.args.top c.loop-at.at c.index-pairs-at.result
    (slice_get_read c.args.pairs.now (length c.args.pairs.now) c.loop-at.at c.index-pairs-at.result refl c.loop-at-test.true c.index-pairs-at.is)
    (c.is_listed_to.ensures c.if-not-is_listed_to.false) c.loop-at.invariant

pub returns : goal.returns
returns c = λ h. listed_to_whole c.args.pairs.now c.args.keys.now c.args.top c.loop-at.at c.loop-at-test.false c.loop-at.invariant
