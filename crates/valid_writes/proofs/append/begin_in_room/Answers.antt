use Rattle.std.proofs.Common.{◌≡◌, Some, ap, sym, ◌∙◌, subst, refl}
use Rattle.history_core.specs.Chronicle.{Chronicle}
use Rattle.history_core.specs.Events.{opened}
use Rattle.history_core.specs.Legal.{full_for}
use Rattle.history_core.specs.declared.event.Event.TheVariants.{Begin}
use Rattle.history_core.proofs.SessionLemmas.{opened-push_other}
use Rattle.forced_rows.specs.Rows.{HaveRoom}
use Rattle.valid_writes.proofs.Legality.{fits_from_ok, legal_with}
use Rattle.valid_writes.proofs.append.begin_in_room.Goals as goal

pub begin-requires : goal.begin-requires
begin-requires c = record {
  begun = record {
    before = c.args.store.now.history.events;
    level = c.args.level;
    is = ap (λ (h : Chronicle). h.events) c.in-Ok.ensures.ok;
    formed = rw c.in-Ok.ensures.ok c.requires.kept.legal.legal.formed;
    follows = c.requires.follows;
    room = c.requires.kept.room;
  };
}

pub give_back_room-requires : goal.give_back_room-requires
give_back_room-requires c = record {
  room = subst (λ (h : Chronicle). HaveRoom h.events c.args.session c.args.store.now.rows) (sym c.in-Err.ensures.err) c.requires.kept.room;
}

pub returns-in-Ok-clause-kept : goal.returns-in-Ok-clause-kept
returns-in-Ok-clause-kept c =
    let grown = ap (λ (h : Chronicle). h.events) c.in-Ok.ensures.ok in
    record {
      legal = rw c.in-Ok.ensures.ok (legal_with c.args.store.now.history (Begin c.args.session c.args.level) c.requires.kept.legal c.requires.follows
          (fits_from_ok c.args.store.now.history.initial c.args.store.now.history.events (Begin c.args.session c.args.level) c.push.result _ c.in-Ok.is c.push.ensures.full) tt tt);
      rows = c.begin.ensures;
      count = c.requires.kept.count ∙ sym (ap opened grown ∙ opened-push_other c.args.store.now.history.events (Begin c.args.session c.args.level) refl);
    }

pub returns-in-Err-clause-kept : goal.returns-in-Err-clause-kept
returns-in-Err-clause-kept c = record {
  legal = rw c.in-Err.ensures.err c.requires.kept.legal;
  rows = c.give_back_room.ensures;
  count = c.requires.kept.count ∙ sym (ap (λ (h : Chronicle). opened h.events) c.in-Err.ensures.err);
}

pub returns-in-Err-clause-full : goal.returns-in-Err-clause-full
returns-in-Err-clause-full c = λ limit is.
    subst (λ (h : Chronicle). full_for h.initial h.events (Begin c.args.session c.args.level) ≡ Some limit) (sym c.in-Err.ensures.err)
    ((c.push.ensures.full limit).0 (c.in-Err.is ∙ is))
