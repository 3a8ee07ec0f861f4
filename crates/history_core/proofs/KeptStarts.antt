-- A transaction begins, or a session opens.
use Rattle.std.proofs.Common.{◌≡◌, ℕ, ◌+◌, ◌<◌, ◌≤◌, List, [], ◌∷◌, ◌++◌, Option, Some, None, Bool, true, length, set, get_or, arith, refl, ap, sym, ◌∙◌, subst, vec_capacity, cond}
use Rattle.std.proofs.lemmas.List.{length_push}
use Rattle.std.proofs.lemmas.Option.{slice_get_within, get_or_from_slice_get}
use Rattle.std.proofs.lemmas.List.Sums.{sum_by-set, sum_by_push, get_or-le-sum_by}
use Rattle.std.specs.Option.{is_some}
use Rattle.std.specs.List.{sum_by, slice_get}
use Rattle.cell_base.specs.declared.level.Level.{Level}
use Rattle.history_core.specs.declared.event.Event.{Event}
use Rattle.history_core.specs.declared.event.Event.TheVariants.{Open, Begin}
use Rattle.history_core.specs.Events.{begun}
use Rattle.history_core.specs.Transactions.{HasPending}
use Rattle.history_core.specs.Legal.{MayCome}
use Rattle.history_core.specs.declared.kept.Kept.{Kept}
use Rattle.history_core.specs.declared.txn.Txn.{Txn}
use Rattle.history_core.specs.declared.txn.TxnState.TheVariants.{Pending}
use Rattle.history_core.specs.declared.kept.SessionRecord.{SessionRecord}
use Rattle.history_core.specs.Kept.{IsSmall, IsKept, owed_by, ChangesOne, TakesPending, IsSessionOf}
use Rattle.history_core.proofs.TxnLemmas.{txns_quiet, txns_begin}
use Rattle.history_core.proofs.SessionLemmas.{sessions_change, session_begins, sessions_open}
use Rattle.history_core.proofs.SmallLemmas.{small_more, fits_begin, fits_open, load-push}
use Rattle.history_core.proofs.KeptLemmas.{are_tables, tables_still, kept_grows}

none_pending : (events : List Event) (s : ℕ) (r : SessionRecord) → IsSessionOf events s r → (HasPending events s → ⊥) → r.pending ≡ None
none_pending events s r is none = option_none r.pending (λ k h. none (k, (is.pending k).0 h))
  where
    option_none : (o : Option ℕ) → ((k : ℕ) → o ≡ Some k → ⊥) → o ≡ None
    option_none None h = refl
    option_none (Some k) h = absurd (h k refl)

-- what the sessions owe, where one changes
pub owed_set :
    (old new : List SessionRecord) (at : ℕ) (before after : SessionRecord) → slice_get old at ≡ Some before → new ≡ set old at after →
    sum_by owed_by new + owed_by before ≡ sum_by owed_by old + owed_by after
owed_set old new at before after is set_to =
    let within : at < length old = slice_get_within old at before is in
    let there : get_or old at before ≡ before = get_or_from_slice_get old at before before is in
    let sum : sum_by owed_by (set old at after) + owed_by (get_or old at before) ≡ sum_by owed_by old + owed_by after = sum_by-set owed_by old at after before within in
    rw (set_to, ← there) sum

-- what one session owes is part of what all owe
pub owed_part :
    (sessions : List SessionRecord) (at : ℕ) (before : SessionRecord) → slice_get sessions at ≡ Some before → owed_by before ≤ sum_by owed_by sessions
owed_part sessions at before is =
    let within : at < length sessions = slice_get_within sessions at before is in
    let there : get_or sessions at before ≡ before = get_or_from_slice_get sessions at before before is in
    let part : owed_by (get_or sessions at before) ≤ sum_by owed_by sessions = get_or-le-sum_by owed_by sessions at before within in
    subst (λ (r : SessionRecord). owed_by r ≤ sum_by owed_by sessions) there part

pub owed_pending : (r : SessionRecord) (k : ℕ) → r.pending ≡ Some k → 1 ≤ owed_by r
owed_pending r k is = rw is (omega arith)

pub owed_open : (r : SessionRecord) → r.is_open ≡ true → 1 ≤ owed_by r
owed_open r is = rw is (omega arith)

-- a transaction begins
pub kept_begin :
    (old new : Kept) (s at : ℕ) (txn : Txn) → IsKept old → MayCome old.initial old.events.items (Begin s txn.level) → at + 1 ≡ s →
    new.txns.items ≡ old.txns.items ++ txn ∷ [] → txn.session ≡ s → txn.state ≡ Pending → txn.seen ≡ [] → txn.buffer.writes ≡ [] →
    ChangesOne old.sessions.items new.sessions.items at (TakesPending (Some (begun old.events.items + 1))) →
    new.initial ≡ old.initial → new.events.items ≡ old.events.items ++ Begin s txn.level ∷ [] → new.tables.items ≡ old.tables.items → new.load ≡ old.load + 1 → new.owed ≡ old.owed + 1 →
    length old.events.items + (old.owed + 2) ≤ vec_capacity new.events → IsKept new
kept_begin old new s at txn is may number txns session state seen buffer changes initial events tables load owed room =
    let before = is.sessions.each at changes.before changes.is in
    let before_s : IsSessionOf old.events.items s changes.before = subst (λ (n : ℕ). IsSessionOf old.events.items n changes.before) number before in
    let none : changes.before.pending ≡ None = none_pending old.events.items s changes.before before_s may.follows.1 in
    let pending_is : changes.after.pending ≡ Some (begun old.events.items + 1) = ap (λ (r : SessionRecord). r.pending) changes.changes in
    let open_is : changes.after.is_open ≡ changes.before.is_open = ap (λ (r : SessionRecord). r.is_open) changes.changes in
    let after : IsSessionOf (old.events.items ++ Begin s txn.level ∷ []) (at + 1) changes.after =
    subst (λ (n : ℕ). IsSessionOf (old.events.items ++ Begin s txn.level ∷ []) n changes.after) (sym number)
    (session_begins old.events.items s txn.level changes.before changes.after may.follows.1 open_is pending_is before_s)
    in
    let few = fits_begin old.initial old.events.items s txn.level may.fits in
    let small : IsSmall old.initial (old.events.items ++ Begin s txn.level ∷ []) (old.owed + 1) =
    small_more old.initial old.events.items (Begin s txn.level) old.owed 1 1 0 refl may.fits (omega arith) refl refl (omega arith) (let h = is.small.opens in omega arith) refl is.small
    in
    let long = length_push old.events.items (Begin s txn.level) in
    let sum = owed_set old.sessions.items new.sessions.items at changes.before changes.after changes.is changes.set_to in
    let owed_before : owed_by changes.before ≡ cond changes.before.is_open 1 0 + 0 = ap (λ (o : Option ℕ). cond changes.before.is_open 1 0 + cond (is_some o) 1 0) none in
    let owed_after : owed_by changes.after ≡ cond changes.before.is_open 1 0 + 1 =
    ap (λ (o : Option ℕ). cond changes.after.is_open 1 0 + cond (is_some o) 1 0) pending_is ∙ ap (λ (b : Bool). cond b 1 0 + 1) open_is in
    let owed_old = is.owed in
    kept_grows old new (Begin s txn.level) is may initial events
    (rw txns (txns_begin old.events.items s old.txns.items txn may.follows.1 is.txns session state seen buffer))
    (rw changes.set_to (sessions_change old.events.items (Begin s txn.level) old.sessions.items at changes.after refl number is.sessions after))
    (rw tables (tables_still old.events.items (Begin s txn.level) old.tables.items refl (are_tables old is)))
    (load ∙ ap (λ (n : ℕ). n + 1) is.load ∙ sym (load-push old.initial old.events.items (Begin s txn.level)))
    (owed ∙ omega arith)
    (rw owed small)
    (rw owed (omega arith))

-- a session opens
pub kept_open :
    (old new : Kept) (s : ℕ) (r : SessionRecord) → IsKept old → MayCome old.initial old.events.items (Open s) →
    new.sessions.items ≡ old.sessions.items ++ r ∷ [] → r.is_open ≡ true → r.pending ≡ None →
    new.initial ≡ old.initial → new.events.items ≡ old.events.items ++ Open s ∷ [] → new.tables.items ≡ old.tables.items → new.txns.items ≡ old.txns.items →
    new.load ≡ old.load + 1 → new.owed ≡ old.owed + 1 → length old.events.items + (old.owed + 2) ≤ vec_capacity new.events → IsKept new
kept_open old new s r is may sessions opens pending initial events tables txns load owed room =
    let few = fits_open old.initial old.events.items s may.fits in
    let small : IsSmall old.initial (old.events.items ++ Open s ∷ []) (old.owed + 1) =
    small_more old.initial old.events.items (Open s) old.owed 1 0 1 refl may.fits (omega arith) refl refl (let h = is.small.begins in omega arith) (omega arith) refl is.small
    in
    let long = length_push old.events.items (Open s) in
    let sum : sum_by owed_by (old.sessions.items ++ r ∷ []) ≡ sum_by owed_by old.sessions.items + owed_by r = sum_by_push owed_by old.sessions.items r in
    let one : owed_by r ≡ 1 = ap (λ (b : Bool). cond b 1 0 + cond (is_some r.pending) 1 0) opens ∙ ap (λ (o : Option ℕ). 1 + cond (is_some o) 1 0) pending in
    let owed_old = is.owed in
    let owed_is : old.owed + 1 ≡ sum_by owed_by (old.sessions.items ++ r ∷ []) = omega arith in
    kept_grows old new (Open s) is may initial events
    (rw txns (txns_quiet old.events.items (Open s) old.txns.items refl (record { goes = refl; shows = refl; writes = λ t x v h. cc }) is.txns))
    (rw sessions (sessions_open old.initial old.events.items s old.sessions.items r is.formed.formed may.follows opens pending is.sessions))
    (rw tables (tables_still old.events.items (Open s) old.tables.items refl (are_tables old is)))
    (load ∙ ap (λ (n : ℕ). n + 1) is.load ∙ sym (load-push old.initial old.events.items (Open s)))
    (rw (owed, sessions) owed_is)
    (rw owed small)
    (rw owed (omega arith))
