use Rattle.std.proofs.Common.{◌≡◌, ◌+◌, ◌-◌, arith, subst, ℕ, Some, None, sym, ◌∙◌}
use Rattle.history_core.specs.Transactions.{IsPending}
use Rattle.history_core.proofs.Next.{pending_bounded}
use Rattle.history_core.proofs.Numbers.{pending_opened, session_read, pending_positive}
use Rattle.history_core.proofs.kept.pending_index.Goals as goal

pub session_index-at-requires-clause-opened : goal.session_index-at-requires-clause-opened
session_index-at-requires-clause-opened c =
    pending_opened c.args.kept.now.initial c.args.kept.now.events.items c.requires.kept.formed.formed c.requires.pending.0 c.args.session c.requires.pending.1

pub overflow_sub-result : goal.overflow_sub-result
overflow_sub-result c =
    let r = session_read _ _ c.requires.kept.sessions _ _ c.index.result.now c.session_index-at.ensures.number c.session_index-at.ensures.within c.index.ensures in
    let pending = (r.pending c.in-Some.number).0 c.in-Some.is in
    pending_positive _ _ _ pending

pub unreachable-requires : goal.unreachable-requires
unreachable-requires c =
    let r = session_read _ _ c.requires.kept.sessions _ _ c.index.result.now c.session_index-at.ensures.number c.session_index-at.ensures.within c.index.ensures in
    let some : c.index.result.now.pending ≡ Some c.requires.pending.0 = (r.pending c.requires.pending.0).1 c.requires.pending.1 in
    let both : None ≡ Some c.requires.pending.0 = sym c.in-None.is ∙ some in
    cc

pub returns-clause-pending : goal.returns-clause-pending
returns-clause-pending c =
    let r = session_read _ _ c.requires.kept.sessions _ _ c.index.result.now c.session_index-at.ensures.number c.session_index-at.ensures.within c.index.ensures in
    let pending = (r.pending c.in-Some.number).0 c.in-Some.is in
    let positive = pending_positive _ _ _ pending in
    let same : c.in-Some.number ≡ c.in-Some.number - 1 + 1 = omega arith in
    subst (λ (n : ℕ). IsPending c.args.kept.now.events.items n c.args.session) same pending

pub returns-clause-within : goal.returns-clause-within
returns-clause-within c =
    let r = session_read _ _ c.requires.kept.sessions _ _ c.index.result.now c.session_index-at.ensures.number c.session_index-at.ensures.within c.index.ensures in
    let pending = (r.pending c.in-Some.number).0 c.in-Some.is in
    let positive = pending_positive _ _ _ pending in
    let bounded = pending_bounded _ _ _ pending in
    let count = c.requires.kept.txns.count in
    omega arith
