use Rattle.std.proofs.Common.{ℕ, List, ◌+◌, sym, subst}
use Rattle.right_logs.proofs.JudgeLemmas.{RisesUpTo, rises_none, rises_more}
use Rattle.right_logs.proofs.standing.highest_of.Goals as goal

pub loop-at-init : goal.loop-at-init
loop-at-init c = rises_none c.args.places.now _ c.in_ok-highest.ensures.items

pub loop-at-preserved : goal.loop-at-preserved
loop-at-preserved c =
    subst (λ (xs : List ℕ). RisesUpTo c.args.places.now xs (c.loop-at.at + 1) c.later-top.result) (sym c.in_ok-push.ensures.items)
    (rises_more c.args.places.now c.loop-at.highest.items c.loop-at.at c.loop-at.top c.later-top.result c.later-top.ensures.0 c.later-top.ensures.1 c.loop-at.invariant)

pub returns : goal.returns
returns c = c.loop-at.invariant.are
