use Rattle.std.proofs.Common.{ap, sym, subst, refl, ◌≡◌, Some}
use Rattle.history_core.specs.Chronicle.{Chronicle}
use Rattle.history_core.specs.Legal.{full_for}
use Rattle.valid_writes.proofs.Legality.{fits_from_ok, fault_is, legal_with}
use Rattle.valid_writes.proofs.Keeping.{store_still, resting}
use Rattle.valid_writes.proofs.append.append.Goals as goal

pub returns-clause-kept : goal.returns-clause-kept
returns-clause-kept c =
    store_still c.args.store.now (record { alloc = c.args.store.now.alloc; history = c.push.new.self; rows = c.args.store.now.rows; sessions = c.args.store.now.sessions }) (c.args.event) c.requires.kept c.requires.follows (resting c.args.event c.requires.still).forces_none (resting c.args.event c.requires.still).opens_none
    (ap (λ (h : Chronicle). h.events) c.in_ok-push.ensures.ok) refl refl
    (rw c.in_ok-push.ensures.ok (legal_with c.args.store.now.history c.args.event c.requires.kept.legal c.requires.follows (fits_from_ok c.args.store.now.history.initial c.args.store.now.history.events (c.args.event) c.push.result c.in_ok-push.field-0 c.in_ok-push.was c.push.ensures.full) ((resting c.args.event c.requires.still).offered c.args.store.now.history.events) (resting c.args.event c.requires.still).no_definition))

pub returns-in_err-push-clause-full : goal.returns-in_err-push-clause-full
returns-in_err-push-clause-full c = λ limit is.
    subst (λ (h : Chronicle). full_for h.initial h.events (c.args.event) ≡ Some limit) (sym c.in_err-push.ensures.err)
    ((c.push.ensures.full limit).0 (fault_is c.push.result c.from_residual.result c.in_err-push.field-0.0 limit c.in_err-push.was c.from_residual.ensures.1 is))

pub push-requires-clause-plain : goal.push-requires-clause-plain
push-requires-clause-plain c = (resting c.args.event c.requires.still).plain
