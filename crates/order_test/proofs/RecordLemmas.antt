-- How the records of the transactions go on standing for the events.
use Rattle.std.proofs.Common.{◌≡◌, ℕ, ◌+◌, List, [], ◌∷◌, ◌++◌, Some, None, length, arith, refl, ap, sym, ◌∙◌, subst, ◌↔◌, inl, inr}
use Rattle.std.specs.List.{Contains}
use Rattle.std.proofs.lemmas.List.{length_push}
use Rattle.txn_buffer.proofs.Lists.{slice_get_push_cases}
use Rattle.cell_base.specs.declared.level.Level.{Level}
use Rattle.cell_base.specs.declared.cell.Cell.{Cell}
use Rattle.cell_base.specs.declared.value.Value.{Value}
use Rattle.history_core.specs.declared.event.Event.{Event}
use Rattle.history_core.specs.declared.event.Event.TheVariants.{Open, Close, Define, Look, Begin, Scan, Read, Own, Write, Commit, Rollback, Show}
use Rattle.history_core.specs.declared.txn.Txn.{Txn}
use Rattle.history_core.specs.declared.txn.Seen.{Seen}
use Rattle.history_core.specs.declared.txn.TxnState.{TxnState}
use Rattle.history_core.specs.Events.{begun, session_in}
use Rattle.history_core.specs.Transactions.{IsPending}
use Rattle.history_core.specs.Records.{IsRecordOf, seen_of, Saw}
use Rattle.history_core.specs.Kept.{StandsForTxns, ChangesOne, AddsSeen, AddsWrite, TakesState, IsEndOf}
use Rattle.history_core.proofs.Prefixes.{IsSound, begun-push_start}
use Rattle.history_core.proofs.Offers.{pending_unique}
use Rattle.history_core.proofs.TxnLemmas.{record_goes, record_quiet, record_begins, seen_same, seen_more, writes_same, writes_more, txns_quiet, txns_change, record_ends}
use Rattle.history_core.proofs.KeptLemmas.{middle, shows_middle}
use Rattle.history_core.proofs.KeptEnds.{ending}
use Rattle.order_test.specs.Records.{IsFreshRecord}

-- a transaction begins, whatever is pending
pub txns_begins :
    (events : List Event) (s : ℕ) (level : Level) (txns : List Txn) (txn : Txn) → IsFreshRecord txn s level → StandsForTxns events txns →
    StandsForTxns (events ++ Begin s level ∷ []) (txns ++ txn ∷ [])
txns_begins events s level txns txn fresh stands = subst (λ (l : Level). StandsForTxns (events ++ Begin s l ∷ []) (txns ++ txn ∷ [])) fresh.level_is record {
  count = length_push txns txn ∙ ap (λ (n : ℕ). n + 1) stands.count ∙ sym (begun-push_start events s txn.level);
  each = λ i t is. elim (slice_get_push_cases txns txn i t is) [
    | inl old ↦
        record_quiet events (Begin s txn.level) (i + 1) t (record { goes = refl; shows = refl; writes = λ r x v h. cc }) (stands.each i t old.1)
    | inr new ↦
        let number : begun events + 1 ≡ i + 1 = let c = stands.count in let h = new.0 in omega arith in
        subst (λ (u : Txn). IsRecordOf (events ++ Begin s txn.level ∷ []) (i + 1) u) new.1
        (subst (λ (n : ℕ). IsRecordOf (events ++ Begin s txn.level ∷ []) n txn) number
        (record_begins events s txn fresh.session_is fresh.state_is fresh.nothing_seen fresh.nothing_written))
  ];
}

-- the pending transaction saw something
pub txns_seen :
    (events : List Event) → IsSound events → (e : Event) (k : ℕ) (x : Seen) (old new : List Txn) → StandsForTxns events old →
    IsPending events (k + 1) (session_in e) → seen_of (length events + 1) e ≡ Some x → ChangesOne old new k (AddsSeen x) → StandsForTxns (events ++ e ∷ []) new
txns_seen events sound e k x old new is pending shows changes =
    let mid = shows_middle (length events + 1) e x shows in
    let m = middle e mid in
    let before = is.each k changes.before changes.is in
    let no_write : (s : ℕ) (y : Cell) (v : Value) → e ≡ Write s y v → ⊥ =
    λ s y v same.
    let both : Some x ≡ None = sym shows ∙ ap (seen_of (length events + 1)) same in cc
    in
    let after : IsRecordOf (events ++ e ∷ []) (k + 1) changes.after =
    subst (λ (t : Txn). IsRecordOf (events ++ e ∷ []) (k + 1) t) (sym changes.changes)
    (record_goes events e (k + 1) changes.before (record changes.before { seen = changes.before.seen ++ x ∷ [] }) before refl refl refl (λ _. m.plain.no_end)
    (seen_more events e (k + 1) changes.before x before pending shows)
    (writes_same events e (k + 1) changes.before before (λ s y v same _. no_write s y v same)))
    in
    rw changes.set_to (txns_change events e old k changes.after (pending_unique events sound) m.plain.begins_none pending is after)

-- the pending transaction wrote
pub txns_write :
    (events : List Event) → IsSound events → (s k : ℕ) (x : Cell) (v : Value) (old new : List Txn) → StandsForTxns events old →
    IsPending events (k + 1) s → ChangesOne old new k (AddsWrite x v) → StandsForTxns (events ++ Write s x v ∷ []) new
txns_write events sound s k x v old new is pending changes =
    let before = is.each k changes.before changes.is in
    let c = changes.changes in
    let after : IsRecordOf (events ++ Write s x v ∷ []) (k + 1) changes.after =
    record_goes events (Write s x v) (k + 1) changes.before changes.after before c.session c.level c.state (λ _. refl)
    (subst (λ (xs : List Seen). (y : Seen) → Contains xs y ↔ Saw (events ++ Write s x v ∷ []) (k + 1) y) (sym c.seen)
    (seen_same events (Write s x v) (k + 1) changes.before before (λ _. refl)))
    (writes_more events s (k + 1) x v changes.before changes.after.buffer.writes before pending c.puts)
    in
    rw changes.set_to (txns_change events (Write s x v) old k changes.after (pending_unique events sound) refl pending is after)

-- a transaction ends
pub txns_end :
    (events : List Event) → IsSound events → (e : Event) (s k : ℕ) (state : TxnState) (old new : List Txn) → StandsForTxns events old → IsEndOf e s state →
    IsPending events (k + 1) s → ChangesOne old new k (TakesState state) → StandsForTxns (events ++ e ∷ []) new
txns_end events sound e s k state old new is end_of pending changes =
    let end = ending e s state end_of in
    let pending_e : IsPending events (k + 1) (session_in e) = subst (λ (t : ℕ). IsPending events (k + 1) t) (sym end.session) pending in
    let after : IsRecordOf (events ++ e ∷ []) (k + 1) changes.after =
    subst (λ (t : Txn). IsRecordOf (events ++ e ∷ []) (k + 1) t) (sym changes.changes)
    (record_ends events e (k + 1) changes.before (record changes.before { state = state }) (is.each k changes.before changes.is) pending_e
    end.ends (end.shows (length events + 1)) end.writes refl refl refl refl end.not_pending end.committed)
    in
    rw changes.set_to (txns_change events e old k changes.after (pending_unique events sound) end.no_begin pending_e is after)

-- the events of which the records note nothing
abbrev pub LeavesRecords : Event → Type 0
LeavesRecords (Open s) = Unit {0}
LeavesRecords (Close s) = Unit {0}
LeavesRecords (Define s name) = Unit {0}
LeavesRecords (Look s tables) = Unit {0}
LeavesRecords (Own s x v) = Unit {0}
LeavesRecords (Show s n) = Unit {0}
LeavesRecords _ = ⊥

pub txns_leave : (events : List Event) (e : Event) (txns : List Txn) → LeavesRecords e → StandsForTxns events txns → StandsForTxns (events ++ e ∷ []) txns
txns_leave events (Open s) txns leaves is = txns_quiet events (Open s) txns refl (record { goes = refl; shows = refl; writes = λ t x v h. cc }) is
txns_leave events (Close s) txns leaves is = txns_quiet events (Close s) txns refl (record { goes = refl; shows = refl; writes = λ t x v h. cc }) is
txns_leave events (Define s name) txns leaves is = txns_quiet events (Define s name) txns refl (record { goes = refl; shows = refl; writes = λ t x v h. cc }) is
txns_leave events (Look s n) txns leaves is = txns_quiet events (Look s n) txns refl (record { goes = refl; shows = refl; writes = λ t x v h. cc }) is
txns_leave events (Own s y u) txns leaves is = txns_quiet events (Own s y u) txns refl (record { goes = refl; shows = refl; writes = λ t x v h. cc }) is
txns_leave events (Show s n) txns leaves is = txns_quiet events (Show s n) txns refl (record { goes = refl; shows = refl; writes = λ t x v h. cc }) is
txns_leave events (Begin s level) txns leaves is = absurd leaves
txns_leave events (Scan s table keys) txns leaves is = absurd leaves
txns_leave events (Read s x w n u v) txns leaves is = absurd leaves
txns_leave events (Write s x v) txns leaves is = absurd leaves
txns_leave events (Commit s) txns leaves is = absurd leaves
txns_leave events (Rollback s) txns leaves is = absurd leaves
