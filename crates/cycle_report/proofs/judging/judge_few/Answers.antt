use Rattle.std.proofs.Common.{◌≡◌, ℕ, length, arith, subst}
use Rattle.order_test.specs.Glance.{AreWithin}
use Rattle.cycle_report.proofs.judging.judge_few.Goals as goal

pub pasts_of-requires-clause-some : goal.pasts_of-requires-clause-some
pasts_of-requires-clause-some c = let some = c.in_ok-owners.ensures.last.some in let width = c.len-width.ensures in omega arith

pub pasts_of-requires-clause-within : goal.pasts_of-requires-clause-within
pasts_of-requires-clause-within c =
    let width : length c.in_ok-owners.owners.last.items ≡ c.len-width.result = let len = c.len-width.ensures in omega arith in
    subst (λ (n : ℕ). AreWithin n c.args.events.now) width c.in_ok-owners.ensures.last.within
