-- Transactions that begin and commit, one after another.
use Rattle.std.proofs.Common.{◌≡◌, ℕ, List, [], ◌∷◌, ◌++◌, Some, refl, sym, inl, inr, zero, suc}
use Rattle.std.specs.List.{slice_get}
use Rattle.std.proofs.lemmas.Bool.{false≢true}
use Rattle.txn_buffer.proofs.Lists.{contains_at, at_contains}
use Rattle.cell_base.specs.declared.level.Level.{Level}
use Rattle.history_core.specs.declared.event.Event.{Event}
use Rattle.history_core.specs.declared.event.Event.TheVariants.{Open, Close, Begin, Commit}
use Rattle.history_core.specs.Transactions.{HasPending}
use Rattle.history_core.proofs.Next.{pending_back, pending_begin}
use Rattle.history_core.proofs.SessionLemmas.{open_still}
use Rattle.history_cases.specs.Pairs.{IsBetween}

pub between_first : IsBetween (Open 1 ∷ [])
between_first = record {
  open_is = (contains_at (Open 1 ∷ []) 0 (Open 1) refl, λ closed. let found = at_contains (Open 1 ∷ []) (Close 1) closed in not_closed found.0 found.1);
  idle = λ pending. not_begun pending.1.start pending.1.starts.level pending.1.starts.is;
}
  where
    not_closed : (n : ℕ) → slice_get (Open 1 ∷ []) n ≡ Some (Close 1) → ⊥
    not_closed zero is = cc
    not_closed (suc n) is = cc

    not_begun : (n : ℕ) (level : Level) → slice_get (Open 1 ∷ []) n ≡ Some (Begin 1 level) → ⊥
    not_begun zero level is = cc
    not_begun (suc n) level is = cc

pub begun_pending : (events : List Event) (level : Level) → HasPending (events ++ Begin 1 level ∷ []) 1
begun_pending events level = (_, pending_begin events 1 level)

pub between_next : (events : List Event) (level : Level) → IsBetween events → IsBetween ((events ++ Begin 1 level ∷ []) ++ Commit 1 ∷ [])
between_next events level is = record {
  open_is = (open_still (events ++ Begin 1 level ∷ []) (Commit 1) 1 (λ h. cc) (λ h. cc)).1
      ((open_still events (Begin 1 level) 1 (λ h. cc) (λ h. cc)).1 is.open_is);
  idle = λ pending. elim (pending_back (events ++ Begin 1 level ∷ []) (Commit 1) pending.0 1 pending.1) [
    | inl before ↦ false≢true (sym (before.1 refl))
    | inr new ↦ let clash : Commit 1 ≡ Begin 1 new.level = new.is in cc
  ];
}
