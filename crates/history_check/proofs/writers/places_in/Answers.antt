use Rattle.std.proofs.Common.{◌≡◌, ℕ, ◌+◌, ◌-◌, List, get_or, arith, subst, sym}
use Rattle.std.proofs.lemmas.Option.{slice_get-get_or}
use Rattle.history_check.specs.Notes.{ArePendingIn}
use Rattle.history_check.proofs.Rights.{pending_bounds}
use Rattle.history_check.proofs.writers.places_in.Goals as goal

pub overflow_sub-session : goal.overflow_sub-session
overflow_sub-session c = let b = (pending_bounds c.args.before.now c.requires.some.0 c.args.session c.requires.sessions c.requires.some.1).0 in omega arith

pub bounds-pending-session : goal.bounds-pending-session
bounds-pending-session c =
    let b = pending_bounds c.args.before.now c.requires.some.0 c.args.session c.requires.sessions c.requires.some.1 in
    let low = b.0 in
    let high = b.1 in
    let count = c.requires.pending.count in
    omega arith

pub returns : goal.returns
returns c =
    let b = pending_bounds c.args.before.now c.requires.some.0 c.args.session c.requires.sessions c.requires.some.1 in
    let low = b.0 in
    let high = b.1 in
    let count = c.requires.pending.count in
    let number : c.args.session - 1 + 1 ≡ c.args.session = omega arith in
    subst (λ (n : ℕ). ArePendingIn c.args.before.now n c.as_slice.result.now) number
    (subst (λ (ps : List ℕ). ArePendingIn c.args.before.now (c.args.session - 1 + 1) ps) (sym c.as_slice.ensures.value)
    (c.requires.pending.each (c.args.session - 1) (get_or c.args.pending.now (c.args.session - 1) c.index-pending-session.result)
    (slice_get-get_or c.args.pending.now (c.args.session - 1) c.index-pending-session.result (omega arith))))
