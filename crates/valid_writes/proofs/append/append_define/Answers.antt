use Rattle.std.proofs.Common.{ap, sym, subst, refl, ◌≡◌, Some}
use Rattle.history_core.specs.Chronicle.{Chronicle}
use Rattle.history_core.specs.Legal.{full_for}
use Rattle.history_core.specs.declared.event.Event.TheVariants.{Define}
use Rattle.valid_writes.proofs.Legality.{fits_from_ok, fault_is, legal_defined}
use Rattle.valid_writes.proofs.Keeping.{store_still}
use Rattle.valid_writes.proofs.append.append_define.Goals as goal

pub returns-clause-kept : goal.returns-clause-kept
returns-clause-kept c =
    store_still c.args.store.now (record { alloc = c.args.store.now.alloc; history = c.push_define.new.self; rows = c.args.store.now.rows; sessions = c.args.store.now.sessions }) (Define c.args.session c.args.table.name) c.requires.kept c.requires.follows tt refl
    (ap (λ (h : Chronicle). h.events) c.in_ok-push_define.ensures.ok) refl refl
    (rw c.in_ok-push_define.ensures.ok (legal_defined c.args.store.now.history c.args.session c.args.table c.requires.kept.legal c.requires.follows (fits_from_ok c.args.store.now.history.initial c.args.store.now.history.events (Define c.args.session c.args.table.name) c.push_define.result c.in_ok-push_define.field-0 c.in_ok-push_define.was c.push_define.ensures.full) c.requires.sound))

pub returns-in_err-push_define-clause-full : goal.returns-in_err-push_define-clause-full
returns-in_err-push_define-clause-full c = λ limit is.
    subst (λ (h : Chronicle). full_for h.initial h.events (Define c.args.session c.args.table.name) ≡ Some limit) (sym c.in_err-push_define.ensures.err)
    ((c.push_define.ensures.full limit).0 (fault_is c.push_define.result c.from_residual.result c.in_err-push_define.field-0.0 limit c.in_err-push_define.was c.from_residual.ensures.1 is))
