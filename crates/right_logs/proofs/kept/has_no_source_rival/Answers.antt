use Rattle.std.proofs.Common.{arith}
use Rattle.std.proofs.lemmas.Option.{slice_get_within}
use Rattle.right_logs.proofs.JudgeLemmas.{rivals_none, rivals_more}
use Rattle.right_logs.proofs.kept.has_no_source_rival.Goals as goal

pub loop-at-init : goal.loop-at-init
loop-at-init c = rivals_none c.args.places.now.at.items c.args.writers.now c.args.reads.now c.args.from

pub loop-at-preserved : goal.loop-at-preserved
loop-at-preserved c =
    rivals_more c.args.places.now.at.items c.args.writers.now c.args.reads.now c.args.from c.loop-at.at _ c.loop-at-test.true
    (c.is_no_rival.ensures c.if-not-is_no_rival.false) c.loop-at.invariant

pub returns : goal.returns
returns c = λ h k read is.
    let within = slice_get_within c.args.reads.now k read is in
    let end = c.loop-at-test.false in
    c.loop-at.invariant k read (omega arith) is
