use Rattle.std.proofs.Common.{◌≡◌, ◌+◌, ℕ, List, length, arith, sym, subst}
use Rattle.order_test.specs.Reaches.{AddsReach}
use Rattle.order_test.proofs.ReachLemmas.{AddsUpTo, adds_none, adds_more}
use Rattle.order_test.proofs.reaches.add_reach.Goals as goal

pub loop-at-init : goal.loop-at-init
loop-at-init c = adds_none c.args.places.now.at.items c.args.numbers.now c.args.highest.now.items

pub loop-at-preserved : goal.loop-at-preserved
loop-at-preserved c =
    subst (λ (xs : List ℕ). AddsUpTo c.args.places.now.at.items c.args.numbers.now (c.loop-at.at + 1) c.args.highest.now.items xs c.later-top.result) (sym c.in_ok-push.ensures.items)
    (adds_more c.args.places.now.at.items c.args.numbers.now c.loop-at.at c.args.highest.now.items c.loop-at.highest.items c.loop-at.top c.later-top.result c.later-top.ensures.0
    (let value = c.place_at.ensures in let up = c.later-top.ensures.1 in omega arith) c.loop-at.invariant)

pub returns : goal.returns
returns c =
    let end : c.loop-at.at ≡ length c.args.numbers.now = let within = c.loop-at.auto.at-end in let stop = c.loop-at-test.false in omega arith in
    subst (λ (n : ℕ). AddsReach c.args.places.now.at.items c.args.numbers.now n c.args.highest.now.items c.loop-at.highest.items) end c.loop-at.invariant.adds
