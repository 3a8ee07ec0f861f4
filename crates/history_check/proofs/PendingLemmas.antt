-- How the places of pending writes go on standing for the events.
use Rattle.std.proofs.Common.{◌≡◌, ℕ, ◌+◌, ◌<◌, ◌≤◌, List, [], ◌∷◌, ◌++◌, true, false, length, arith, refl, ap, sym, ◌∙◌, subst, inl, inr, ◌⊎◌}
use Rattle.std.specs.List.{Contains}
use Rattle.std.proofs.lemmas.Bool.{false≢true}
use Rattle.std.proofs.lemmas.List.{length_push, length-set}
use Rattle.std.proofs.lemmas.List.Elements.{Contains-push_cases, Contains-push, Contains-append_left}
use Rattle.txn_buffer.proofs.Lists.{slice_get_push_cases, slice_get-set_cases}
use Rattle.cell_base.specs.declared.cell.Cell.{Cell}
use Rattle.cell_base.specs.declared.level.Level.{Level}
use Rattle.cell_base.specs.declared.value.Value.{Value}
use Rattle.history_core.specs.declared.event.Event.{Event}
use Rattle.history_core.specs.declared.event.Event.TheVariants.{Open, Close, Define, Look, Begin, Scan, Read, Own, Write, Commit, Rollback, Show}
use Rattle.history_core.specs.Events.{opened, session_in, is_open_event, is_end}
use Rattle.history_core.specs.Transactions.{IsPending, HasPending}
use Rattle.history_core.proofs.Grown.{of_back}
use Rattle.history_core.proofs.Next.{of_new, pending_kept, pending_back}
use Rattle.history_core.proofs.Prefixes.{of_kept, start_bounded}
use Rattle.history_core.proofs.SessionLemmas.{opened-push_other}
use Rattle.history_check.specs.declared.pending_writes.PendingWrites.{PendingWrites}
use Rattle.history_check.specs.Notes.{IsPendingWrite, ArePendingIn, StandsForPendingWrites, IsChangedTo, AreOfSessions}
use Rattle.history_check.proofs.Rights.{opened-push, pending_bounds}

-- a write that is pending in a session still is, where no event of the session ends
kept : (events : List Event) (e : Event) (s place : ℕ) → (session_in e ≡ s → is_end e ≡ false) → IsPendingWrite events s place → IsPendingWrite (events ++ e ∷ []) s place
kept events e s place ends is = record {
  txn = is.txn;
  cell = is.cell;
  value = is.value;
  pending = pending_kept events e is.txn s ends is.pending;
  write = of_kept events e is.txn place (Write s is.cell is.value) is.write;
}

-- one that is pending was it before, or is written now
back : (events : List Event) (e : Event) (s place : ℕ) → IsPendingWrite (events ++ e ∷ []) s place →
    IsPendingWrite events s place ⊎ ((place ≡ length events) × ((cell : Cell) × ((value : Value) × (e ≡ Write s cell value))))
back events e s place is =
    elim (of_back events e is.txn place (Write s is.cell is.value) is.write) [
      | inl old ↦ elim (pending_back events e is.txn s is.pending) [
        | inl before ↦ inl record { txn = is.txn; cell = is.cell; value = is.value; pending = before.0; write = old }
        | inr new ↦ let h = start_bounded events is.txn s old.start old.starts in let c = new.counts in absurd (omega arith)
      ]
      | inr new ↦ inr (new.0, (is.cell, (is.value, new.1)))
    ]

-- the places of a session, where the event neither ends anything there nor writes there
pub pending_stays :
    (events : List Event) (e : Event) (s : ℕ) (places : List ℕ) → (session_in e ≡ s → is_end e ≡ false) → ((cell : Cell) (v : Value) → e ≡ Write s cell v → ⊥) →
    ArePendingIn events s places → ArePendingIn (events ++ e ∷ []) s places
pending_stays events e s places ends none are place = (
  λ there. kept events e s place ends ((are place).0 there),
  λ is. elim (back events e s place is) [ inl old ↦ (are place).1 old | inr new ↦ absurd (none new.1.0 new.1.1.0 new.1.1.1) ],
)

-- ---- the lists of all sessions

pub pending_plain :
    (events : List Event) (e : Event) (lists : List PendingWrites) → is_open_event e ≡ false → is_end e ≡ false → ((s : ℕ) (cell : Cell) (v : Value) → e ≡ Write s cell v → ⊥) →
    StandsForPendingWrites events lists → StandsForPendingWrites (events ++ e ∷ []) lists
pending_plain events e lists no_open no_end none stands = record {
  count = stands.count ∙ sym (opened-push_other events e no_open);
  each = λ i pending is. pending_stays events e (i + 1) pending.places.items (λ same. no_end) (none (i + 1)) (stands.each i pending is);
}

-- a session has no number above those that were opened, so nothing is pending there
none_beyond : (events : List Event) (s place : ℕ) → AreOfSessions events → opened events < s → IsPendingWrite events s place → ⊥
none_beyond events s place are beyond is = let h = (pending_bounds events is.txn s are is.pending).1 in absurd (omega arith)

pub pending_open :
    (events : List Event) (s : ℕ) (lists : List PendingWrites) (blank : PendingWrites) → AreOfSessions events → blank.places.items ≡ [] → StandsForPendingWrites events lists →
    StandsForPendingWrites (events ++ Open s ∷ []) (lists ++ blank ∷ [])
pending_open events s lists blank are none stands =
    let long = length_push lists blank in
    let more : opened (events ++ Open s ∷ []) ≡ opened events + 1 = opened-push events (Open s) in
    let count = stands.count in
    record {
      count = omega arith;
      each = λ i pending is. elim (slice_get_push_cases lists blank i pending is) [
        | inl old ↦ pending_stays events (Open s) (i + 1) pending.places.items (λ same. refl) (no_write (i + 1)) (stands.each i pending old.1)
        | inr new ↦
            subst (λ (p : PendingWrites). ArePendingIn (events ++ Open s ∷ []) (i + 1) p.places.items) new.1
            (subst (λ (ps : List ℕ). ArePendingIn (events ++ Open s ∷ []) (i + 1) ps) (sym none)
            (λ place. (
              λ there. let within = there.1 in absurd (omega arith),
              λ has. elim (back events (Open s) (i + 1) place has) [
                | inl old ↦ absurd (none_beyond events (i + 1) place are (let h = new.0 in omega arith) old)
                | inr now ↦ absurd (no_write (i + 1) now.1.0 now.1.1.0 now.1.1.1)
              ],
            )))
      ];
    }
  where
    no_write : (t : ℕ) (cell : Cell) (v : Value) → Open s ≡ Write t cell v → ⊥
    no_write t cell v same = cc

-- the list of one session changes
pending_change :
    (events : List Event) (e : Event) (s : ℕ) (Changes : List ℕ → List ℕ → Type 0) (old new : List PendingWrites) → is_open_event e ≡ false → session_in e ≡ s →
    ((cell : Cell) (v : Value) (t : ℕ) → e ≡ Write t cell v → t ≡ s) → IsChangedTo old s Changes new →
    ((before after : List ℕ) → Changes before after → ArePendingIn events s before → ArePendingIn (events ++ e ∷ []) s after) → StandsForPendingWrites events old →
    StandsForPendingWrites (events ++ e ∷ []) new
pending_change events e s Changes old new no_open session writes change made stands =
    let c = change.changes in
    subst (λ (lists : List PendingWrites). StandsForPendingWrites (events ++ e ∷ []) lists) (sym c.set_to) record {
      count = length-set old change.place c.after ∙ stands.count ∙ sym (opened-push_other events e no_open);
      each = λ i pending is. elim (slice_get-set_cases old change.place i c.after pending is) [
        | inl here ↦
            let number : i + 1 ≡ s = ap (λ (n : ℕ). n + 1) here.0 ∙ change.number in
            let before : ArePendingIn events s c.before.places.items =
            subst (λ (n : ℕ). ArePendingIn events n c.before.places.items) change.number (stands.each change.place c.before c.is)
            in
            subst (λ (n : ℕ). ArePendingIn (events ++ e ∷ []) n pending.places.items) (sym number)
            (subst (λ (p : PendingWrites). ArePendingIn (events ++ e ∷ []) s p.places.items) here.1
            (made c.before.places.items c.after.places.items c.changes before))
        | inr other ↦
            let apart : session_in e ≡ i + 1 → ⊥ = λ same. other.0 (let n = change.number in omega arith) in
            pending_stays events e (i + 1) pending.places.items (λ same. absurd (apart same)) (λ cell v same. apart (session ∙ sym (writes cell v (i + 1) same)))
            (stands.each i pending other.1)
      ];
    }

pub pending_write :
    (events : List Event) (s k : ℕ) (cell : Cell) (v : Value) (old new : List PendingWrites) → IsPending events k s →
    IsChangedTo old s (λ before after. after ≡ before ++ length events ∷ []) new → StandsForPendingWrites events old → StandsForPendingWrites (events ++ Write s cell v ∷ []) new
pending_write events s k cell v old new pending change stands =
    pending_change events e s _ old new refl refl (λ x u t same. let both : Write s cell v ≡ Write t x u = same in cc) change
    (λ before after pushed are. subst (λ (ps : List ℕ). ArePendingIn (events ++ e ∷ []) s ps) (sym pushed) (λ place. (
      λ there. elim (Contains-push_cases before (length events) place there) [
        | inl was ↦ kept events e s place (λ same. refl) ((are place).0 was)
        | inr now ↦ subst (λ (p : ℕ). IsPendingWrite (events ++ e ∷ []) s p) now here
      ],
      λ is. elim (back events e s place is) [
        | inl was ↦ Contains-append_left before (length events ∷ []) place ((are place).1 was)
        | inr now ↦ subst (λ (p : ℕ). Contains (before ++ length events ∷ []) p) (sym now.0) (Contains-push before (length events))
      ],
    ))) stands
  where
    e : Event
    e = Write s cell v

    here : IsPendingWrite (events ++ e ∷ []) s (length events)
    here = record { txn = k; cell = cell; value = v; pending = pending_kept events e k s (λ same. refl) pending; write = of_new events e k pending }

pub pending_end :
    (events : List Event) (e : Event) (s : ℕ) (old new : List PendingWrites) → is_open_event e ≡ false → is_end e ≡ true → session_in e ≡ s →
    ((t : ℕ) (cell : Cell) (v : Value) → e ≡ Write t cell v → ⊥) → IsChangedTo old s (λ before after. after ≡ []) new → StandsForPendingWrites events old →
    StandsForPendingWrites (events ++ e ∷ []) new
pending_end events e s old new no_open ends session none change stands =
    pending_change events e s _ old new no_open session (λ x u t same. absurd (none t x u same)) change
    (λ before after cleared are. subst (λ (ps : List ℕ). ArePendingIn (events ++ e ∷ []) s ps) (sym cleared) (λ place. (
      λ there. let within = there.1 in absurd (omega arith),
      λ is. absurd (elim (pending_back events e is.txn s is.pending) [
        | inl before_it ↦ false≢true (sym (before_it.1 session) ∙ ends)
        | inr new_one ↦ begins new_one.level new_one.is
      ]),
    ))) stands
  where
    begins : (level : Level) → e ≡ Begin s level → ⊥
    begins level same = let no : true ≡ false = sym ends ∙ ap is_end same in false≢true (sym no)

-- no event but these changes a list
abbrev pub LeavesPending : Event → Type 0
LeavesPending (Open s) = ⊥
LeavesPending (Write s x v) = ⊥
LeavesPending (Commit s) = ⊥
LeavesPending (Rollback s) = ⊥
LeavesPending _ = Unit {0}

pub pending_other : (events : List Event) (e : Event) (lists : List PendingWrites) → LeavesPending e → StandsForPendingWrites events lists → StandsForPendingWrites (events ++ e ∷ []) lists
pending_other events (Close s) lists leaves stands = pending_plain events (Close s) lists refl refl (λ t x v same. cc) stands
pending_other events (Define s name) lists leaves stands = pending_plain events (Define s name) lists refl refl (λ t x v same. cc) stands
pending_other events (Look s n) lists leaves stands = pending_plain events (Look s n) lists refl refl (λ t x v same. cc) stands
pending_other events (Begin s level) lists leaves stands = pending_plain events (Begin s level) lists refl refl (λ t x v same. cc) stands
pending_other events (Scan s table keys) lists leaves stands = pending_plain events (Scan s table keys) lists refl refl (λ t x v same. cc) stands
pending_other events (Read s y w n u q) lists leaves stands = pending_plain events (Read s y w n u q) lists refl refl (λ t x v same. cc) stands
pending_other events (Own s y q) lists leaves stands = pending_plain events (Own s y q) lists refl refl (λ t x v same. cc) stands
pending_other events (Show s n) lists leaves stands = pending_plain events (Show s n) lists refl refl (λ t x v same. cc) stands
pending_other events (Open s) lists leaves stands = absurd leaves
pending_other events (Write s x v) lists leaves stands = absurd leaves
pending_other events (Commit s) lists leaves stands = absurd leaves
pending_other events (Rollback s) lists leaves stands = absurd leaves

pub leaves_pending :
    (e : Event) → ((s : ℕ) → e ≡ Open s → ⊥) → ((s : ℕ) (x : Cell) (v : Value) → e ≡ Write s x v → ⊥) → ((s : ℕ) → e ≡ Commit s → ⊥) → ((s : ℕ) → e ≡ Rollback s → ⊥) → LeavesPending e
leaves_pending (Open s) no_open no_write no_commit no_rollback = absurd (no_open s refl)
leaves_pending (Close s) no_open no_write no_commit no_rollback = tt
leaves_pending (Define s name) no_open no_write no_commit no_rollback = tt
leaves_pending (Look s n) no_open no_write no_commit no_rollback = tt
leaves_pending (Begin s level) no_open no_write no_commit no_rollback = tt
leaves_pending (Scan s table keys) no_open no_write no_commit no_rollback = tt
leaves_pending (Read s y w n u q) no_open no_write no_commit no_rollback = tt
leaves_pending (Own s y q) no_open no_write no_commit no_rollback = tt
leaves_pending (Show s n) no_open no_write no_commit no_rollback = tt
leaves_pending (Write s x v) no_open no_write no_commit no_rollback = absurd (no_write s x v refl)
leaves_pending (Commit s) no_open no_write no_commit no_rollback = absurd (no_commit s refl)
leaves_pending (Rollback s) no_open no_write no_commit no_rollback = absurd (no_rollback s refl)

pub list_within :
    (events : List Event) (lists : List PendingWrites) (s : ℕ) → AreOfSessions events → StandsForPendingWrites events lists → HasPending events s → (0 < s) × (s ≤ length lists)
list_within events lists s are stands has = let h = pending_bounds events has.0 s are has.1 in let c = stands.count in (h.0, let b = h.1 in omega arith)
