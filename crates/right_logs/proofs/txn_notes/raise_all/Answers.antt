use Rattle.std.proofs.Common.{◌≡◌, ◌<◌, ℕ, length, get_or, max, arith, ap, sym, ◌∙◌}
use Rattle.std.proofs.lemmas.List.{get_or_default}
use Rattle.order_test.proofs.Taken.{raised_none, raised_step}
use Rattle.right_logs.proofs.ClockLemmas.{all_raised}
use Rattle.right_logs.proofs.txn_notes.raise_all.Goals as goal

pub loop-at-init : goal.loop-at-init
loop-at-init c = raised_none c.args.clock.now.items c.args.others.now

pub loop-at-preserved : goal.loop-at-preserved
loop-at-preserved c =
    let within : c.loop-at.at < length c.loop-at.clock.items = let n = c.loop-at.invariant.count in let m = c.requires in let t = c.loop-at-test.true in omega arith in
    let value : get_or c.loop-at.clock.items c.loop-at.at 0 ≡ c.index.result.now =
    get_or_default c.loop-at.clock.items c.loop-at.at 0 c.index.result.now within ∙ sym c.index.ensures
    in
    raised_step c.args.clock.now.items c.args.others.now c.loop-at.clock.items c.loop-at.at c.max.result within
    (c.max.ensures ∙ ap (λ (own : ℕ). max own (get_or c.args.others.now c.loop-at.at 0)) (sym value)) c.loop-at.invariant

pub returns-clause-raises : goal.returns-clause-raises
returns-clause-raises c =
    all_raised c.args.clock.now.items c.args.others.now c.loop-at.clock.items c.loop-at.at (let end = c.loop-at-test.false in omega arith) c.loop-at.invariant
