use Rattle.std.proofs.Common.{◌≡◌, ◌<◌, ℕ, length, get_or, max, arith, ap, sym, ◌∙◌}
use Rattle.std.proofs.lemmas.List.{get_or_default}
use Rattle.order_test.proofs.Taken.{raised_none, raised_step, greater_one}
use Rattle.cycle_report.proofs.pasts.raise_all.Goals as goal

pub loop-at-init : goal.loop-at-init
loop-at-init c = raised_none c.args.tops.now.items c.args.others.now

pub loop-at-preserved : goal.loop-at-preserved
loop-at-preserved c =
    let within : c.loop-at.at < length c.loop-at.tops.items = let n = c.loop-at.invariant.count in let m = c.requires in let t = c.loop-at-test.true in omega arith in
    let value : get_or c.loop-at.tops.items c.loop-at.at 0 ≡ c.index.result.now =
    get_or_default c.loop-at.tops.items c.loop-at.at 0 c.index.result.now within ∙ sym c.index.ensures
    in
    raised_step c.args.tops.now.items c.args.others.now c.loop-at.tops.items c.loop-at.at c.max.result within
    (c.max.ensures ∙ ap (λ (own : ℕ). max own (get_or c.args.others.now c.loop-at.at 0)) (sym value)) c.loop-at.invariant

pub returns-clause-exact : goal.returns-clause-exact
returns-clause-exact c = λ at number under.
    greater_one (get_or c.args.tops.now.items at 0) (get_or c.args.others.now at 0) (get_or c.loop-at.tops.items at 0) number
    (c.loop-at.invariant.done at (let end = c.loop-at-test.false in let long = c.requires in omega arith))
