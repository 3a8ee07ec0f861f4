use Rattle.std.proofs.Common.{arith}
use Rattle.std.proofs.lemmas.Option.{slice_get_within}
use Rattle.right_logs.proofs.JudgeLemmas.{kept_none, kept_more}
use Rattle.right_logs.proofs.kept.are_kept.Goals as goal

pub loop-at-init : goal.loop-at-init
loop-at-init c = kept_none c.args.places.now.at.items c.args.pass.now c.args.reads.now c.args.reader

pub loop-at-preserved : goal.loop-at-preserved
loop-at-preserved c =
    kept_more c.args.places.now.at.items c.args.pass.now c.args.reads.now c.args.reader c.loop-at.at _ c.loop-at-test.true
    (c.is_kept_now.ensures c.if-not-is_kept_now.false) (omega arith) c.loop-at.invariant

pub returns : goal.returns
returns c = λ h k read is.
    let within = slice_get_within c.args.reads.now k read is in
    let end = c.loop-at-test.false in
    c.loop-at.invariant k read (omega arith) is
