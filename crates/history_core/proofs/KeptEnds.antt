-- A transaction or a session ends.
use Rattle.std.proofs.Common.{◌≡◌, ℕ, ◌+◌, ◌-◌, ◌<◌, ◌≤◌, [], ◌∷◌, ◌++◌, Option, Some, None, Bool, true, false, length, get_or, arith, refl, ap, sym, ◌∙◌, subst, vec_capacity, cond, ◌↔◌}
use Rattle.std.proofs.lemmas.List.{length_push}
use Rattle.std.proofs.lemmas.Option.{slice_get-get_or}
use Rattle.std.specs.Option.{is_some}
use Rattle.std.specs.List.{sum_by, slice_get}
use Rattle.cell_base.specs.declared.level.Level.{Level}
use Rattle.history_core.specs.declared.event.Event.{Event}
use Rattle.history_core.specs.declared.event.Event.TheVariants.{Open, Close, Define, Look, Begin, Scan, Read, Own, Write, Commit, Rollback, Show}
use Rattle.cell_base.specs.declared.cell.Cell.{Cell}
use Rattle.cell_base.specs.declared.value.Value.{Value}
use Rattle.history_core.specs.Events.{weight_of, defined_name, session_in, is_begin, is_end, is_open_event}
use Rattle.history_core.specs.Initial.{load_of}
use Rattle.history_core.specs.Transactions.{IsPending}
use Rattle.history_core.specs.Legal.{MayCome, IsOpen}
use Rattle.history_core.specs.declared.kept.Kept.{Kept}
use Rattle.history_core.specs.declared.txn.Txn.{Txn}
use Rattle.history_core.specs.declared.txn.TxnState.{TxnState}
use Rattle.history_core.specs.declared.txn.TxnState.TheVariants.{Pending, Committed, RolledBack}
use Rattle.history_core.specs.declared.kept.SessionRecord.{SessionRecord}
use Rattle.history_core.specs.Records.{IsRecordOf, is_any_end, seen_of}
use Rattle.history_core.specs.Kept.{IsSmall, IsKept, owed_by, ChangesOne, TakesState, TakesPending, Closes, IsEndOf, IsSessionOf}
use Rattle.history_core.proofs.TxnLemmas.{record_ends, txns_quiet, txns_change}
use Rattle.history_core.proofs.SessionLemmas.{sessions_change, session_ends, session_closes}
use Rattle.history_core.proofs.SmallLemmas.{small_last, load-push}
use Rattle.history_core.proofs.KeptLemmas.{are_tables, tables_still, kept_grows, unique}
use Rattle.history_core.proofs.KeptStarts.{owed_set, owed_part, owed_pending, owed_open}

pub record IsEnding (e : Event) (s : ℕ) (state : TxnState) : Type 0 where
  pub session : session_in e ≡ s
  pub ends : is_end e ≡ true
  pub last : is_any_end e ≡ true
  pub no_begin : is_begin e ≡ false
  pub no_open : is_open_event e ≡ false
  pub no_name : defined_name e ≡ None
  pub light : weight_of e ≡ 1
  pub shows : (n : ℕ) → seen_of n e ≡ None
  pub writes : (t : ℕ) (x : Cell) (v : Value) → e ≡ Write t x v → ⊥
  pub opens : (t : ℕ) → e ≡ Open t → ⊥
  pub closes : (t : ℕ) → e ≡ Close t → ⊥
  pub begins : (t : ℕ) (level : Level) → e ≡ Begin t level → ⊥
  pub not_pending : state ≡ Pending → ⊥
  pub committed : (state ≡ Committed) ↔ (e ≡ Commit (session_in e))

pub ending : (e : Event) (s : ℕ) (state : TxnState) → IsEndOf e s state → IsEnding e s state
ending (Commit t) s state is = record {
  session = is.0;
  ends = refl;
  last = refl;
  no_begin = refl;
  no_open = refl;
  no_name = refl;
  light = refl;
  shows = λ n. refl;
  writes = λ u x v h. cc;
  opens = λ u h. cc;
  closes = λ u h. cc;
  begins = λ u l h. cc;
  not_pending = λ h. let both : Committed ≡ Pending = sym is.1 ∙ h in cc;
  committed = (λ h. refl, λ h. is.1);
}
ending (Rollback t) s state is = record {
  session = is.0;
  ends = refl;
  last = refl;
  no_begin = refl;
  no_open = refl;
  no_name = refl;
  light = refl;
  shows = λ n. refl;
  writes = λ u x v h. cc;
  opens = λ u h. cc;
  closes = λ u h. cc;
  begins = λ u l h. cc;
  not_pending = λ h. let both : RolledBack ≡ Pending = sym is.1 ∙ h in cc;
  committed = (λ h. let both : RolledBack ≡ Committed = sym is.1 ∙ h in cc, λ h. cc);
}
ending (Open t) s state is = absurd is
ending (Close t) s state is = absurd is
ending (Define t name) s state is = absurd is
ending (Look t count) s state is = absurd is
ending (Begin t level) s state is = absurd is
ending (Scan t table keys) s state is = absurd is
ending (Read t cell source n u v) s state is = absurd is
ending (Own t x v) s state is = absurd is
ending (Write t x v) s state is = absurd is
ending (Show t number) s state is = absurd is

-- while a transaction is pending, its end is owed
pub owed_for_pending :
    (kept : Kept) (s k at : ℕ) → IsKept kept → IsPending kept.events.items k s → at + 1 ≡ s → at < length kept.sessions.items → 1 ≤ kept.owed
owed_for_pending kept s k at is pending number within =
    let none : SessionRecord = record { is_open = false; pending = None } in
    let r = get_or kept.sessions.items at none in
    let there : slice_get kept.sessions.items at ≡ Some r = slice_get-get_or kept.sessions.items at none within in
    let of : IsSessionOf kept.events.items s r = subst (λ (n : ℕ). IsSessionOf kept.events.items n r) number (is.sessions.each at r there) in
    let part : owed_by r ≤ sum_by owed_by kept.sessions.items = owed_part kept.sessions.items at r there in
    let one : 1 ≤ owed_by r = owed_pending r k ((of.pending k).1 pending) in
    let owed = is.owed in
    omega arith

-- while a session is open, its end is owed
pub owed_for_open :
    (kept : Kept) (s at : ℕ) → IsKept kept → IsOpen kept.events.items s → at + 1 ≡ s → at < length kept.sessions.items → 1 ≤ kept.owed
owed_for_open kept s at is opens number within =
    let none : SessionRecord = record { is_open = false; pending = None } in
    let r = get_or kept.sessions.items at none in
    let there : slice_get kept.sessions.items at ≡ Some r = slice_get-get_or kept.sessions.items at none within in
    let of : IsSessionOf kept.events.items s r = subst (λ (n : ℕ). IsSessionOf kept.events.items n r) number (is.sessions.each at r there) in
    let part : owed_by r ≤ sum_by owed_by kept.sessions.items = owed_part kept.sessions.items at r there in
    let one : 1 ≤ owed_by r = owed_open r (of.open_is.1 opens) in
    let owed = is.owed in
    omega arith

-- a transaction ends
pub kept_ends :
    (old new : Kept) (e : Event) (s k at : ℕ) (state : TxnState) → IsKept old → MayCome old.initial old.events.items e → IsEndOf e s state →
    IsPending old.events.items (k + 1) s → at + 1 ≡ s → ChangesOne old.txns.items new.txns.items k (TakesState state) →
    ChangesOne old.sessions.items new.sessions.items at (TakesPending None) → new.initial ≡ old.initial → new.events.items ≡ old.events.items ++ e ∷ [] →
    new.tables.items ≡ old.tables.items → new.load ≡ old.load + 1 → new.owed ≡ old.owed - 1 → vec_capacity old.events ≤ vec_capacity new.events →
    IsKept new
kept_ends old new e s k at state is may end_of pending number txn session initial events tables load owed capacity =
    let end = ending e s state end_of in
    let pending_e : IsPending old.events.items (k + 1) (session_in e) =
    subst (λ (t : ℕ). IsPending old.events.items (k + 1) t) (sym end.session) pending in
    let txn_after : IsRecordOf (old.events.items ++ e ∷ []) (k + 1) txn.after =
    subst (λ (t : Txn). IsRecordOf (old.events.items ++ e ∷ []) (k + 1) t) (sym txn.changes)
    (record_ends old.events.items e (k + 1) txn.before (record txn.before { state = state }) (is.txns.each k txn.before txn.is) pending_e
    end.ends (end.shows (length old.events.items + 1)) end.writes refl refl refl refl end.not_pending end.committed)
    in
    let before : IsSessionOf old.events.items s session.before =
    subst (λ (n : ℕ). IsSessionOf old.events.items n session.before) number (is.sessions.each at session.before session.is) in
    let was : session.before.pending ≡ Some (k + 1) = (before.pending (k + 1)).1 pending in
    let now : session.after.pending ≡ None = ap (λ (r : SessionRecord). r.pending) session.changes in
    let open_is : session.after.is_open ≡ session.before.is_open = ap (λ (r : SessionRecord). r.is_open) session.changes in
    let session_after : IsSessionOf (old.events.items ++ e ∷ []) (at + 1) session.after =
    subst (λ (n : ℕ). IsSessionOf (old.events.items ++ e ∷ []) n session.after) (sym number)
    (session_ends old.events.items e s session.before session.after end.session end.ends (end.opens s) (end.closes s) (end.begins s) open_is now before)
    in
    let sum = owed_set old.sessions.items new.sessions.items at session.before session.after session.is session.set_to in
    let part = owed_part old.sessions.items at session.before session.is in
    let owed_before : owed_by session.before ≡ cond session.before.is_open 1 0 + 1 = ap (λ (o : Option ℕ). cond session.before.is_open 1 0 + cond (is_some o) 1 0) was in
    let owed_after : owed_by session.after ≡ cond session.before.is_open 1 0 + 0 =
    ap (λ (o : Option ℕ). cond session.after.is_open 1 0 + cond (is_some o) 1 0) now ∙ ap (λ (b : Bool). cond b 1 0 + 0) open_is in
    let owed_old = is.owed in
    let back : old.owed ≡ (old.owed - 1) + 1 = omega arith in
    let small : IsSmall old.initial (old.events.items ++ e ∷ []) (old.owed - 1) =
    small_last old.initial old.events.items e (old.owed - 1) end.last end.no_begin end.no_open end.light (subst (λ (n : ℕ). IsSmall old.initial old.events.items n) back is.small) in
    let long = length_push old.events.items e in
    let room = is.room in
    kept_grows old new e is may initial events
    (rw txn.set_to (txns_change old.events.items e old.txns.items k txn.after (unique old.initial old.events.items is.formed.formed) end.no_begin pending_e is.txns txn_after))
    (rw session.set_to (sessions_change old.events.items e old.sessions.items at session.after end.no_open (number ∙ sym end.session) is.sessions session_after))
    (rw tables (tables_still old.events.items e old.tables.items end.no_name (are_tables old is)))
    (load ∙ ap (λ (n : ℕ). n + 1) is.load ∙ ap (λ (n : ℕ). load_of old.initial old.events.items + n) (sym end.light) ∙ sym (load-push old.initial old.events.items e))
    (owed ∙ omega arith)
    (rw owed small)
    (rw owed (omega arith))

-- a session ends
pub kept_closes :
    (old new : Kept) (s at : ℕ) → IsKept old → MayCome old.initial old.events.items (Close s) → at + 1 ≡ s →
    ChangesOne old.sessions.items new.sessions.items at Closes → new.initial ≡ old.initial → new.events.items ≡ old.events.items ++ Close s ∷ [] →
    new.tables.items ≡ old.tables.items → new.txns.items ≡ old.txns.items → new.load ≡ old.load + 1 → new.owed ≡ old.owed - 1 →
    vec_capacity old.events ≤ vec_capacity new.events → IsKept new
kept_closes old new s at is may number session initial events tables txns load owed capacity =
    let before : IsSessionOf old.events.items s session.before =
    subst (λ (n : ℕ). IsSessionOf old.events.items n session.before) number (is.sessions.each at session.before session.is) in
    let was : session.before.is_open ≡ true = before.open_is.1 may.follows.0 in
    let now : session.after.is_open ≡ false = ap (λ (r : SessionRecord). r.is_open) session.changes in
    let pending_is : session.after.pending ≡ session.before.pending = ap (λ (r : SessionRecord). r.pending) session.changes in
    let session_after : IsSessionOf (old.events.items ++ Close s ∷ []) (at + 1) session.after =
    subst (λ (n : ℕ). IsSessionOf (old.events.items ++ Close s ∷ []) n session.after) (sym number)
    (session_closes old.events.items s session.before session.after now pending_is before)
    in
    let sum = owed_set old.sessions.items new.sessions.items at session.before session.after session.is session.set_to in
    let part = owed_part old.sessions.items at session.before session.is in
    let owed_before : owed_by session.before ≡ 1 + cond (is_some session.before.pending) 1 0 =
    ap (λ (b : Bool). cond b 1 0 + cond (is_some session.before.pending) 1 0) was in
    let owed_after : owed_by session.after ≡ 0 + cond (is_some session.before.pending) 1 0 =
    ap (λ (b : Bool). cond b 1 0 + cond (is_some session.after.pending) 1 0) now ∙ ap (λ (o : Option ℕ). 0 + cond (is_some o) 1 0) pending_is in
    let owed_old = is.owed in
    let back : old.owed ≡ (old.owed - 1) + 1 = omega arith in
    let small : IsSmall old.initial (old.events.items ++ Close s ∷ []) (old.owed - 1) =
    small_last old.initial old.events.items (Close s) (old.owed - 1) refl refl refl refl (subst (λ (n : ℕ). IsSmall old.initial old.events.items n) back is.small) in
    let long = length_push old.events.items (Close s) in
    let room = is.room in
    kept_grows old new (Close s) is may initial events
    (rw txns (txns_quiet old.events.items (Close s) old.txns.items refl (record { goes = refl; shows = refl; writes = λ t x v h. cc }) is.txns))
    (rw session.set_to (sessions_change old.events.items (Close s) old.sessions.items at session.after refl number is.sessions session_after))
    (rw tables (tables_still old.events.items (Close s) old.tables.items refl (are_tables old is)))
    (load ∙ ap (λ (n : ℕ). n + 1) is.load ∙ sym (load-push old.initial old.events.items (Close s)))
    (owed ∙ omega arith)
    (rw owed small)
    (rw owed (omega arith))
