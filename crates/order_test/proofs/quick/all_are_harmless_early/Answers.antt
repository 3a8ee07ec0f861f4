use Rattle.std.proofs.Common.{length, refl, arith}
use Rattle.std.proofs.lemmas.Option.{slice_get_read, slice_get_within}
use Rattle.order_test.proofs.QuickLemmas.{early_none, early_step}
use Rattle.order_test.proofs.quick.all_are_harmless_early.Goals as goal

pub loop-at-init : goal.loop-at-init
loop-at-init c = early_none c.args.survey.now c.args.read.now c.args.all.now

pub loop-at-preserved : goal.loop-at-preserved
loop-at-preserved c =
    early_step c.args.survey.now c.args.read.now c.loop-at.at c.args.all.now c.index-all-at.result
    (slice_get_read c.args.all.now (length c.args.all.now) c.loop-at.at c.index-all-at.result refl c.loop-at-test.true c.index-all-at.is)
    (c.is_harmless_early.ensures c.if-not-is_harmless_early.false) c.loop-at.invariant

pub returns : goal.returns
returns c = λ h at seen other is early from rival.
    let within = slice_get_within c.args.all.now at seen is in
    let end = c.loop-at-test.false in
    c.loop-at.invariant at seen other (omega arith) is early from rival
