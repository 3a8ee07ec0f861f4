use Rattle.std.proofs.Common.{◌≡◌, ◌+◌, ◌∷◌, ◌++◌, [], Some, List, ap, sym, ◌∙◌, subst, arith}
use Rattle.graph_base.proofs.Places.{count_by-push}
use Rattle.history_core.specs.Chronicle.{Chronicle}
use Rattle.history_core.specs.Events.{opened, is_open_event}
use Rattle.history_core.specs.Legal.{full_for}
use Rattle.history_core.specs.declared.event.Event.{Event}
use Rattle.history_core.specs.declared.event.Event.TheVariants.{Open}
use Rattle.forced_rows.specs.Rows.{AreRowsOf}
use Rattle.forced_rows.proofs.Keeping.{rows_still}
use Rattle.valid_writes.proofs.Legality.{fits_from_ok, fault_is, legal_with, opened_few}
use Rattle.valid_writes.proofs.append.append_open.Goals as goal

pub overflow_add-session : goal.overflow_add-session
overflow_add-session c =
    let few = opened_few c.args.store.now.history.initial c.args.store.now.history.events c.requires.kept.legal.legal.formed in
    let count = c.requires.kept.count in
    omega arith

pub returns-clause-kept : goal.returns-clause-kept
returns-clause-kept c =
    let count = c.requires.kept.count in
    let number : c.args.store.now.sessions + 1 ≡ opened c.args.store.now.history.events + 1 = omega arith in
    let grown = ap (λ (h : Chronicle). h.events) c.in_ok-push.ensures.ok in
    let more : opened (c.args.store.now.history.events ++ Open (c.args.store.now.sessions + 1) ∷ []) ≡ opened c.args.store.now.history.events + 1 =
    count_by-push is_open_event c.args.store.now.history.events (Open (c.args.store.now.sessions + 1)) in
    record {
      legal = rw c.in_ok-push.ensures.ok (legal_with c.args.store.now.history (Open (c.args.store.now.sessions + 1)) c.requires.kept.legal number
          (fits_from_ok c.args.store.now.history.initial c.args.store.now.history.events (Open (c.args.store.now.sessions + 1)) c.push.result c.in_ok-push.field-0 c.in_ok-push.was c.push.ensures.full) tt tt);
      rows = subst (λ (es : List Event). AreRowsOf es c.args.store.now.rows) (sym grown)
          (rows_still c.args.store.now.history.initial c.args.store.now.history.events (Open (c.args.store.now.sessions + 1)) c.args.store.now.rows c.requires.kept.legal.legal.formed number tt c.requires.kept.rows);
      count = number ∙ sym (ap opened grown ∙ more);
    }

pub returns-in_err-push-clause-full : goal.returns-in_err-push-clause-full
returns-in_err-push-clause-full c = λ limit is.
    subst (λ (h : Chronicle). full_for h.initial h.events (Open (c.args.store.now.sessions + 1)) ≡ Some limit) (sym c.in_err-push.ensures.err)
    ((c.push.ensures.full limit).0 (fault_is c.push.result c.from_residual.result c.in_err-push.field-0.0 limit c.in_err-push.was c.from_residual.ensures.1 is))
