use Rattle.std.proofs.Common.{◌≡◌, ◌⊎◌, ℕ, Some, length, arith, ap, ◌∙◌, subst}
use Rattle.history_core.specs.Transactions.{HasPending}
use Rattle.history_core.specs.Chronicle.{Chronicle}
use Rattle.valid_writes.specs.declared.desk.Stage.TheVariants.{InSession, Pending}
use Rattle.valid_writes.proofs.Standing.{seat_stands}
use Rattle.valid_writes.proofs.Told.{state_pending}
use Rattle.valid_writes.proofs.book.seated.Goals as goal

pub invariant_of-result : goal.invariant_of-result
invariant_of-result c =
    let size : length c.events-from.result.now ≡ length c.args.store.history.events =
    ap length c.events-from.ensures.items ∙ ap (λ (h : Chronicle). length h.events) c.history.ensures in
    record {
      store = record { legal = c.requires.kept.legal; rows = c.requires.kept.rows; count = c.requires.kept.count };
      served = record {
        legal = c.requires.kept.legal;
        stands = seat_stands c.args.store.history.events c.args.session c.number_of.result c.stage_of-stage.result c.requires.open c.number_of.ensures.some
            c.stage_of-stage.ensures.none
            (subst (λ (h : Chronicle). (s : ℕ) → c.args.session ≡ Some s → (HasPending h.events s → ⊥) → c.stage_of-stage.result ≡ InSession) c.history-2.ensures c.stage_of-stage.ensures.idle)
            (subst (λ (h : Chronicle). (s : ℕ) → c.args.session ≡ Some s → HasPending h.events s → c.stage_of-stage.result ≡ Pending) c.history-2.ensures c.stage_of-stage.ensures.pending)
            (subst (λ (h : Chronicle). (s : ℕ) → c.args.session ≡ Some s → HasPending h.events s ⊎ (HasPending h.events s → ⊥)) c.history-2.ensures c.stage_of-stage.ensures.either);
      };
      from = omega arith;
    }

pub returns-clause-pending : goal.returns-clause-pending
returns-clause-pending c = λ s is there.
    state_pending c.number_of.result s c.stage_of-stage.result c.args.store.history.events (c.number_of.ensures.some s is)
    (subst (λ (h : Chronicle). HasPending h.events s → c.stage_of-stage.result ≡ Pending) c.history-2.ensures (c.stage_of-stage.ensures.pending s is) there)
