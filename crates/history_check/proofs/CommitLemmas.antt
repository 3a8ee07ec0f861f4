-- How the flags of the transactions go on saying which have committed.
use Rattle.std.proofs.Common.{◌≡◌, ℕ, ◌+◌, ◌-◌, ◌<◌, Bool, true, false, List, [], ◌∷◌, ◌++◌, length, get_or, set, arith, refl, ap, sym, ◌∙◌, subst, inl, inr, ◌↔◌}
use Rattle.std.specs.Prelude.{IsTrue}
use Rattle.std.proofs.lemmas.Bool.{false≢true}
use Rattle.std.proofs.lemmas.List.{length_push, length-set}
use Rattle.std.proofs.lemmas.Option.{slice_get_read}
use Rattle.txn_buffer.proofs.Lists.{slice_get_push_cases, slice_get-set_cases}
use Rattle.cell_base.specs.declared.level.Level.{Level}
use Rattle.history_core.specs.declared.event.Event.{Event}
use Rattle.history_core.specs.declared.event.Event.TheVariants.{Open, Close, Define, Look, Begin, Scan, Read, Own, Write, Commit, Rollback, Show}
use Rattle.history_core.specs.Events.{session_in, is_begin}
use Rattle.history_core.specs.Transactions.{IsPending, IsCommitted}
use Rattle.history_core.proofs.Grown.{committed_back}
use Rattle.history_core.proofs.Next.{of_none, committed_new}
use Rattle.history_core.proofs.Numbers.{pending_positive}
use Rattle.history_core.proofs.Offers.{pending_unique}
use Rattle.history_core.proofs.Prefixes.{IsSound, committed_kept, begun-push_other, begun-push_start}
use Rattle.history_check.specs.Notes.{StandsForCommits}

-- the flag of a transaction, where it stands
pub commit_read :
    (events : List Event) (flags : List Bool) → StandsForCommits events flags → (i k : ℕ) (flag : Bool) → i + 1 ≡ k → i < length flags → flag ≡ get_or flags i flag →
    IsTrue flag ↔ IsCommitted events k
commit_read events flags stands i k flag number within is =
    subst (λ (n : ℕ). IsTrue flag ↔ IsCommitted events n) number (stands.each i flag (slice_get_read flags (length flags) i flag refl within is))

-- the flag of a transaction that doesn't commit now
flag_stays :
    (events : List Event) (e : Event) (k : ℕ) (flag : Bool) → ((s : ℕ) → e ≡ Commit s → IsPending events k (session_in e) → ⊥) → (IsTrue flag ↔ IsCommitted events k) →
    IsTrue flag ↔ IsCommitted (events ++ e ∷ []) k
flag_stays events e k flag none is = (
  λ h. committed_kept events e k (is.0 h),
  λ has. elim (committed_back events e k has) [
    | inl old ↦ is.1 old
    | inr now ↦ absurd (none now.0 now.1.0 now.1.1)
  ],
)

pub commits_begin :
    (events : List Event) (s : ℕ) (level : Level) (flags : List Bool) → StandsForCommits events flags →
    StandsForCommits (events ++ Begin s level ∷ []) (flags ++ false ∷ [])
commits_begin events s level flags stands = record {
  count = length_push flags false ∙ ap (λ (n : ℕ). n + 1) stands.count ∙ sym (begun-push_start events s level);
  each = λ i flag is. elim (slice_get_push_cases flags false i flag is) [
    | inl old ↦ flag_stays events (Begin s level) (i + 1) flag (λ t same pending. no_commit t same) (stands.each i flag old.1)
    | inr new ↦
        subst (λ (b : Bool). IsTrue b ↔ IsCommitted (events ++ Begin s level ∷ []) (i + 1)) new.1 (
          λ h. absurd (false≢true h),
          λ has. absurd (of_none events (Begin s level) (i + 1) has.place (Commit has.session) (let c = stands.count in let h = new.0 in omega arith) has.commit),
        )
  ];
}
  where
    no_commit : (t : ℕ) → Begin s level ≡ Commit t → ⊥
    no_commit t same = cc

pub commits_commit :
    (events : List Event) → IsSound events → (s k : ℕ) (old new : List Bool) → IsPending events k s → new ≡ set old (k - 1) true → StandsForCommits events old →
    StandsForCommits (events ++ Commit s ∷ []) new
commits_commit events sound s k old new pending is stands =
    subst (λ (flags : List Bool). StandsForCommits (events ++ Commit s ∷ []) flags) (sym is) record {
      count = length-set old (k - 1) true ∙ stands.count ∙ sym (begun-push_other events (Commit s) refl);
      each = λ i flag at. elim (slice_get-set_cases old (k - 1) i true flag at) [
        | inl here ↦
            let positive : 0 < k = pending_positive events k s pending in
            let place = here.0 in
            let number : k ≡ i + 1 = omega arith in
            subst (λ (b : Bool). IsTrue b ↔ IsCommitted (events ++ Commit s ∷ []) (i + 1)) here.1 (
              λ h. subst (λ (n : ℕ). IsCommitted (events ++ Commit s ∷ []) n) number (committed_new events k s pending),
              λ has. refl,
            )
        | inr apart ↦
            flag_stays events (Commit s) (i + 1) flag
            (λ t same also. apart.0 (let one : i + 1 ≡ k = pending_unique events sound s (i + 1) k also pending in omega arith))
            (stands.each i flag apart.1)
      ];
    }

begins_none : (e : Event) → ((s : ℕ) (level : Level) → e ≡ Begin s level → ⊥) → is_begin e ≡ false
begins_none (Begin s level) none = absurd (none s level refl)
begins_none (Open s) none = refl
begins_none (Close s) none = refl
begins_none (Define s name) none = refl
begins_none (Look s n) none = refl
begins_none (Scan s table keys) none = refl
begins_none (Read s x w n u v) none = refl
begins_none (Own s x v) none = refl
begins_none (Write s x v) none = refl
begins_none (Commit s) none = refl
begins_none (Rollback s) none = refl
begins_none (Show s n) none = refl

pub commits_other :
    (events : List Event) (e : Event) (flags : List Bool) → ((s : ℕ) (level : Level) → e ≡ Begin s level → ⊥) → ((s : ℕ) → e ≡ Commit s → ⊥) →
    StandsForCommits events flags → StandsForCommits (events ++ e ∷ []) flags
commits_other events e flags no_begin no_commit stands = record {
  count = stands.count ∙ sym (begun-push_other events e (begins_none e no_begin));
  each = λ i flag is. flag_stays events e (i + 1) flag (λ s same pending. no_commit s same) (stands.each i flag is);
}
