use Rattle.std.proofs.Common.{ℕ, List, get_or, arith, ap, ◌∙◌}
use Rattle.right_logs.proofs.ClockLemmas.{raised_after}
use Rattle.right_logs.proofs.txn_notes.clock_after.Goals as goal

pub raise-requires : goal.raise-requires
raise-requires c = let wide = c.in_ok-widen.ensures.wide in omega arith

pub returns : goal.returns
returns c =
    raised_after c.args.session c.args.last c.args.clock.now c.widen.new.clock.items c.raise.new.clock.items
    (λ i. c.in_ok-widen.ensures.same i ∙ ap (λ (xs : List ℕ). get_or xs i 0) c.in_ok-next.ensures) c.raise.ensures
