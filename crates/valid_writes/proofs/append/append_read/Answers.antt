use Rattle.std.proofs.Common.{◌≡◌, Some, ap, sym, ◌∙◌, subst, refl}
use Rattle.history_core.specs.Chronicle.{Chronicle}
use Rattle.history_core.specs.Events.{opened}
use Rattle.history_core.specs.Legal.{full_for}
use Rattle.history_core.specs.declared.event.Event.TheVariants.{Read}
use Rattle.history_core.proofs.SessionLemmas.{opened-push_other}
use Rattle.history_core.proofs.Prefixes.{Contains-from_slice_get}
use Rattle.valid_writes.proofs.Legality.{fits_from_ok, fault_is, legal_with}
use Rattle.valid_writes.proofs.append.append_read.Goals as goal

pub read-requires : goal.read-requires
read-requires c =
    let offer = c.requires.offered in
    record {
      read = record {
        before = c.args.store.now.history.events;
        cell = c.args.cell;
        count = c.args.choice.count;
        word = c.args.word;
        value = c.args.value;
        is = ap (λ (h : Chronicle). h.events) c.in_ok-push.ensures.ok;
        formed = rw c.in_ok-push.ensures.ok c.requires.kept.legal.legal.formed;
        permitted = (offer.1.exact c.args.choice.source).0 (Contains-from_slice_get offer.0 _ c.args.choice.source offer.3);
        kept = c.requires.kept.rows;
        new = c.requires.stars;
      };
    }

pub returns-clause-kept : goal.returns-clause-kept
returns-clause-kept c =
    let grown = ap (λ (h : Chronicle). h.events) c.in_ok-push.ensures.ok in
    record {
      legal = rw c.in_ok-push.ensures.ok (legal_with c.args.store.now.history (Read c.args.session c.args.cell c.args.choice.source c.args.choice.count c.args.word c.args.value) c.requires.kept.legal c.requires.follows
          (fits_from_ok c.args.store.now.history.initial c.args.store.now.history.events (Read c.args.session c.args.cell c.args.choice.source c.args.choice.count c.args.word c.args.value) c.push.result c.in_ok-push.field-0 c.in_ok-push.was c.push.ensures.full) c.requires.offered tt);
      rows = c.read.ensures;
      count = c.requires.kept.count ∙ sym (ap opened grown ∙ opened-push_other c.args.store.now.history.events (Read c.args.session c.args.cell c.args.choice.source c.args.choice.count c.args.word c.args.value) refl);
    }

pub returns-in_err-push-clause-full : goal.returns-in_err-push-clause-full
returns-in_err-push-clause-full c = λ limit is.
    subst (λ (h : Chronicle). full_for h.initial h.events (Read c.args.session c.args.cell c.args.choice.source c.args.choice.count c.args.word c.args.value) ≡ Some limit) (sym c.in_err-push.ensures.err)
    ((c.push.ensures.full limit).0 (fault_is c.push.result c.from_residual.result c.in_err-push.field-0.0 limit c.in_err-push.was c.from_residual.ensures.1 is))
