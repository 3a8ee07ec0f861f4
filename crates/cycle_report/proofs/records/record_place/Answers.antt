use Rattle.std.proofs.Common.{◌≡◌, ◌+◌, ◌-◌, ℕ, arith, subst}
use Rattle.history_core.specs.Events.{session_in}
use Rattle.history_core.specs.Transactions.{IsPending}
use Rattle.history_core.proofs.Next.{pending_bounded}
use Rattle.history_core.proofs.Numbers.{pending_positive}
use Rattle.cycle_report.proofs.PastSteps.{sound_from}
use Rattle.order_test.proofs.Owners.{owner_pending}
use Rattle.cycle_report.proofs.records.record_place.Goals as goal

pub overflow_sub-result : goal.overflow_sub-result
overflow_sub-result c =
    pending_positive _ _ _ (owner_pending c.args.before.now (sound_from c.args.before.now c.requires.settled) (session_in c.args.event.now) c.args.owner c.requires.pending c.requires.owner)

pub returns-clause-pending : goal.returns-clause-pending
returns-clause-pending c =
    let pending = owner_pending c.args.before.now (sound_from c.args.before.now c.requires.settled) (session_in c.args.event.now) c.args.owner c.requires.pending c.requires.owner in
    let positive = pending_positive _ _ _ pending in
    let number : c.args.owner ≡ c.args.owner - 1 + 1 = omega arith in
    subst (λ (n : ℕ). IsPending c.args.before.now n (session_in c.args.event.now)) number pending

pub returns-clause-within : goal.returns-clause-within
returns-clause-within c =
    let pending = owner_pending c.args.before.now (sound_from c.args.before.now c.requires.settled) (session_in c.args.event.now) c.args.owner c.requires.pending c.requires.owner in
    let positive = pending_positive _ _ _ pending in
    let bounded = pending_bounded _ _ _ pending in
    let count = c.requires.txns.count in
    omega arith
