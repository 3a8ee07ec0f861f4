use Rattle.std.proofs.Common.{ap, sym, subst, refl, ◌≡◌, Some}
use Rattle.history_core.specs.Chronicle.{Chronicle}
use Rattle.history_core.specs.Legal.{full_for}
use Rattle.history_core.specs.declared.event.Event.TheVariants.{Write}
use Rattle.valid_writes.proofs.Legality.{fits_from_ok, fault_is, legal_with}
use Rattle.valid_writes.proofs.Keeping.{store_still}
use Rattle.valid_writes.proofs.append.append_write.Goals as goal

pub returns-clause-kept : goal.returns-clause-kept
returns-clause-kept c =
    store_still c.args.store.now (record { alloc = c.args.store.now.alloc; history = c.push_write.new.self; rows = c.args.store.now.rows; sessions = c.args.store.now.sessions }) (Write c.args.session c.args.cell c.args.value) c.requires.kept c.requires.follows tt refl
    (ap (λ (h : Chronicle). h.events) c.in_ok-push_write.ensures.ok) refl refl
    (rw c.in_ok-push_write.ensures.ok (legal_with c.args.store.now.history (Write c.args.session c.args.cell c.args.value) c.requires.kept.legal c.requires.follows (fits_from_ok c.args.store.now.history.initial c.args.store.now.history.events (Write c.args.session c.args.cell c.args.value) c.push_write.result c.in_ok-push_write.field-0 c.in_ok-push_write.was c.push_write.ensures.full) tt tt))

pub returns-in_err-push_write-clause-full : goal.returns-in_err-push_write-clause-full
returns-in_err-push_write-clause-full c = λ limit is.
    subst (λ (h : Chronicle). full_for h.initial h.events (Write c.args.session c.args.cell c.args.value) ≡ Some limit) (sym c.in_err-push_write.ensures.err)
    ((c.push_write.ensures.full limit).0 (fault_is c.push_write.result c.from_residual.result c.in_err-push_write.field-0.0 limit c.in_err-push_write.was c.from_residual.ensures.1 is))
