use Rattle.std.proofs.Common.{◌≡◌, ℕ, length, arith, subst}
use Rattle.order_test.specs.Listed.{ListsCommitted}
use Rattle.order_test.specs.Firsts.{AreIndexes}
use Rattle.order_test.proofs.listed.lists_of.Goals as goal

pub returns-clause-lists : goal.returns-clause-lists
returns-clause-lists c =
    let end : c.loop-at.at ≡ length c.args.txns.now = let within = c.loop-at.auto.at-end in let stop = c.loop-at-test.false in omega arith in
    subst (λ (n : ℕ). ListsCommitted c.args.txns.now n c.loop-at.writers.items) end c.loop-at.invariant.0

pub returns-clause-firsts : goal.returns-clause-firsts
returns-clause-firsts c =
    let end : c.loop-at.at ≡ length c.args.txns.now = let within = c.loop-at.auto.at-end in let stop = c.loop-at-test.false in omega arith in
    subst (λ (n : ℕ). AreIndexes c.loop-at.writers.items n c.loop-at.firsts.items) end c.loop-at.invariant.2
