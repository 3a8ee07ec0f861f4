-- How the records of the transactions go on standing for the events.
use Rattle.std.proofs.Common.{◌≡◌, ℕ, ◌+◌, ◌≤◌, List, [], ◌∷◌, ◌++◌, Some, None, true, false, length, set, arith, refl, ap, sym, ◌∙◌, subst, inl, inr, ◌⊎◌, ◌↔◌}
use Rattle.std.specs.List.{Contains}
use Rattle.std.proofs.lemmas.List.{length_push, length-set}
use Rattle.std.proofs.lemmas.List.Elements.{Contains-push_cases, Contains-append_left, Contains-push}
use Rattle.std.proofs.lemmas.Bool.{false≢true}
use Rattle.cell_base.specs.declared.level.Level.{Level}
use Rattle.cell_base.specs.declared.cell.Cell.{Cell}
use Rattle.cell_base.specs.declared.value.Value.{Value}
use Rattle.history_core.specs.declared.event.Event.{Event}
use Rattle.history_core.specs.declared.event.Event.TheVariants.{Begin, Write, Commit}
use Rattle.history_core.specs.Events.{begun, session_in, is_begin, is_end}
use Rattle.history_core.specs.Transactions.{IsStart, IsOf, IsCommitted, IsPending, HasPending, RunsAt}
use Rattle.history_core.specs.Relations.{LastWrites}
use Rattle.history_core.proofs.Places.{start_session, runs_of}
use Rattle.txn_buffer.proofs.Lists.{slice_get_push_cases, slice_get-set_cases}
use Rattle.history_core.proofs.Grown.{start_kept, runs_kept, of_back, pending_not_committed, committed_back}
use Rattle.history_core.proofs.Prefixes.{of_kept, committed_kept, begun-push_other, begun-push_start, start_bounded}
use Rattle.history_core.proofs.Next.{of_new, pending_kept, pending_back, pending_begin, runs_begin, of_none, committed_new, last_kept, last_back, last_new}
use Rattle.history_core.specs.declared.txn.TxnState.TheVariants.{Pending, Committed}
use Rattle.history_core.specs.declared.txn.Seen.{Seen}
use Rattle.history_core.specs.declared.txn.Txn.{Txn}
use Rattle.txn_buffer.specs.Buffer.{Puts}
use Rattle.history_core.specs.Records.{seen_of, Saw, IsRecordOf}
use Rattle.history_core.specs.Kept.{StandsForTxns}

-- what was seen before stays
pub saw_kept : (events : List Event) (e : Event) (k : ℕ) (x : Seen) → Saw events k x → Saw (events ++ e ∷ []) k x
saw_kept events e k x saw = record { place = saw.place; event = saw.event; of = of_kept events e k saw.place saw.event saw.of; shows = saw.shows }

pub saw_back :
    (events : List Event) (e : Event) (k : ℕ) (x : Seen) → Saw (events ++ e ∷ []) k x →
    Saw events k x ⊎ ((seen_of (length events + 1) e ≡ Some x) × IsPending events k (session_in e))
saw_back events e k x saw =
    elim (of_back events e k saw.place saw.event saw.of) [
      | inl old ↦ inl record { place = saw.place; event = saw.event; of = old; shows = saw.shows }
      | inr new ↦ inr (
        subst (λ (f : Event). seen_of (length events + 1) f ≡ Some x) (sym new.1)
            (subst (λ (p : ℕ). seen_of (p + 1) saw.event ≡ Some x) new.0 saw.shows),
        new.2,
      )
    ]

pub saw_new :
    (events : List Event) (e : Event) (k : ℕ) (x : Seen) → IsPending events k (session_in e) → seen_of (length events + 1) e ≡ Some x →
    Saw (events ++ e ∷ []) k x
saw_new events e k x pending shows = record { place = length events; event = e; of = of_new events e k pending; shows = shows }

-- the record goes on, where the event doesn't end the transaction
pub record_goes :
    (events : List Event) (e : Event) (k : ℕ) (old new : Txn) → IsRecordOf events k old → new.session ≡ old.session → new.level ≡ old.level → new.state ≡ old.state →
    (IsPending events k (session_in e) → is_end e ≡ false) →
    ((x : Seen) → Contains new.seen x ↔ Saw (events ++ e ∷ []) k x) →
    ((x : Cell) (v : Value) → Contains new.buffer.writes (x, v) ↔ LastWrites (events ++ e ∷ []) k x v) →
    IsRecordOf (events ++ e ∷ []) k new
record_goes events e k old new is session level state goes seen writes =
    let goes_here : IsPending events k old.session → session_in e ≡ old.session → is_end e ≡ false =
    λ pending same. goes (subst (λ (s : ℕ). IsPending events k s) (sym same) pending)
    in
    let pending_is : (new.state ≡ Pending) ↔ IsPending (events ++ e ∷ []) k old.session = (
      λ h. let before = is.pending.0 (sym state ∙ h) in pending_kept events e k old.session (goes_here before) before,
      λ h. elim (pending_back events e k old.session h) [
        | inl before ↦ state ∙ is.pending.1 before.0
        | inr new_one ↦
            let bounded : k ≤ begun events = start_bounded events k old.session is.place is.started in
            let at = new_one.counts in
            absurd (omega arith)
      ],
    )
    in
    record {
      place = is.place;
      started = subst (λ (s : ℕ). IsStart (events ++ e ∷ []) k s is.place) (sym session) (start_kept events e k old.session is.place is.started);
      level = subst (λ (l : Level). RunsAt (events ++ e ∷ []) k l) (sym level) (runs_kept events e k old.level is.level);
      pending = subst (λ (s : ℕ). (new.state ≡ Pending) ↔ IsPending (events ++ e ∷ []) k s) (sym session) pending_is;
      committed = (
        λ h. committed_kept events e k (is.committed.0 (sym state ∙ h)),
        λ h. elim (committed_back events e k h) [
          | inl before ↦ state ∙ is.committed.1 before
          | inr now ↦ absurd (false≢true (sym (goes now.1.1) ∙ ap is_end now.1.0))
        ],
      );
      seen = seen;
      writes = writes;
    }

pub seen_same :
    (events : List Event) (e : Event) (k : ℕ) (txn : Txn) → IsRecordOf events k txn →
    (IsPending events k (session_in e) → seen_of (length events + 1) e ≡ None) →
    (x : Seen) → Contains txn.seen x ↔ Saw (events ++ e ∷ []) k x
seen_same events e k txn is none x = (
  λ member. saw_kept events e k x ((is.seen x).0 member),
  λ saw. elim (saw_back events e k x saw) [
    | inl before ↦ (is.seen x).1 before
    | inr new ↦ let both : None ≡ Some x = sym (none new.1) ∙ new.0 in cc
  ],
)

pub seen_more :
    (events : List Event) (e : Event) (k : ℕ) (txn : Txn) (y : Seen) → IsRecordOf events k txn →
    IsPending events k (session_in e) → seen_of (length events + 1) e ≡ Some y →
    (x : Seen) → Contains (txn.seen ++ y ∷ []) x ↔ Saw (events ++ e ∷ []) k x
seen_more events e k txn y is pending shows x = (
  λ member. elim (Contains-push_cases txn.seen y x member) [
    | inl before ↦ saw_kept events e k x ((is.seen x).0 before)
    | inr last ↦ saw_new events e k x pending (shows ∙ ap (λ (z : Seen). Some z) last)
  ],
  λ saw. elim (saw_back events e k x saw) [
    | inl before ↦ Contains-append_left txn.seen (y ∷ []) x ((is.seen x).1 before)
    | inr new ↦
        let both : Some y ≡ Some x = sym shows ∙ new.0 in
        let same : y ≡ x = cc in
        subst (λ (z : Seen). Contains (txn.seen ++ y ∷ []) z) same (Contains-push txn.seen y)
  ],
)

pub writes_same :
    (events : List Event) (e : Event) (k : ℕ) (txn : Txn) → IsRecordOf events k txn →
    ((s : ℕ) (x : Cell) (v : Value) → e ≡ Write s x v → IsPending events k (session_in e) → ⊥) →
    (x : Cell) (v : Value) → Contains txn.buffer.writes (x, v) ↔ LastWrites (events ++ e ∷ []) k x v
writes_same events e k txn is none x v = (
  λ member. last_kept events e k x v (λ s u same pending. none s x u same pending) ((is.writes x v).0 member),
  λ last. elim (last_back events e k x v last) [
    | inl before ↦ (is.writes x v).1 before
    | inr new ↦ absurd (none new.0 x v new.1.0 new.1.1)
  ],
)

pub writes_more :
    (events : List Event) (s k : ℕ) (x : Cell) (v : Value) (txn : Txn) (buffer : List (Cell × Value)) → IsRecordOf events k txn →
    IsPending events k s → Puts txn.buffer.writes buffer x v →
    (y : Cell) (u : Value) → Contains buffer (y, u) ↔ LastWrites (events ++ Write s x v ∷ []) k y u
writes_more events s k x v txn buffer is pending puts y u = (
  λ member. (last_new events s k x v pending y u).1 (elim ((puts y u).0 member) [
    | inl same ↦ inl same
    | inr other ↦ inr (other.0, (is.writes y u).0 other.1)
  ]),
  λ last. (puts y u).1 (elim ((last_new events s k x v pending y u).0 last) [
    | inl same ↦ inl same
    | inr other ↦ inr (other.0, (is.writes y u).1 other.1)
  ]),
)

-- an event of another transaction changes nothing
pub record_other :
    (events : List Event) (e : Event) (k : ℕ) (txn : Txn) → IsRecordOf events k txn → (IsPending events k (session_in e) → ⊥) →
    IsRecordOf (events ++ e ∷ []) k txn
record_other events e k txn is apart =
    record_goes events e k txn txn is refl refl refl (λ pending. absurd (apart pending))
    (seen_same events e k txn is (λ pending. absurd (apart pending)))
    (writes_same events e k txn is (λ s x v same pending. apart pending))

-- an event that isn't an end, shows nothing and writes nothing
pub record IsQuiet (events : List Event) (e : Event) : Type 0 where
  pub goes : is_end e ≡ false
  pub shows : seen_of (length events + 1) e ≡ None
  pub writes : (s : ℕ) (x : Cell) (v : Value) → e ≡ Write s x v → ⊥

pub record_quiet :
    (events : List Event) (e : Event) (k : ℕ) (txn : Txn) → IsQuiet events e → IsRecordOf events k txn → IsRecordOf (events ++ e ∷ []) k txn
record_quiet events e k txn quiet is =
    record_goes events e k txn txn is refl refl refl (λ _. quiet.goes)
    (seen_same events e k txn is (λ _. quiet.shows))
    (writes_same events e k txn is (λ s x v same _. quiet.writes s x v same))

-- the transaction ends
pub record_ends :
    (events : List Event) (e : Event) (k : ℕ) (old new : Txn) → IsRecordOf events k old → IsPending events k (session_in e) →
    is_end e ≡ true → seen_of (length events + 1) e ≡ None → ((s : ℕ) (x : Cell) (v : Value) → e ≡ Write s x v → ⊥) →
    new.session ≡ old.session → new.level ≡ old.level → new.seen ≡ old.seen → new.buffer.writes ≡ old.buffer.writes →
    (new.state ≡ Pending → ⊥) → ((new.state ≡ Committed) ↔ (e ≡ Commit (session_in e))) →
    IsRecordOf (events ++ e ∷ []) k new
record_ends events e k old new is pending ends shows writes session level seen buffer not_pending committed =
    let same : session_in e ≡ old.session = start_session events k (session_in e) old.session pending.start is.place pending.starts is.started in
    record {
      place = is.place;
      started = subst (λ (s : ℕ). IsStart (events ++ e ∷ []) k s is.place) (sym session) (start_kept events e k old.session is.place is.started);
      level = subst (λ (l : Level). RunsAt (events ++ e ∷ []) k l) (sym level) (runs_kept events e k old.level is.level);
      pending = (
        λ h. absurd (not_pending h),
        λ h. absurd (elim (pending_back events e k new.session h) [
          | inl before ↦ false≢true (sym (before.1 (same ∙ sym session)) ∙ ends)
          | inr new_one ↦
              let bounded : k ≤ begun events = start_bounded events k old.session is.place is.started in
              let at = new_one.counts in
              omega arith
        ]),
      );
      committed = (
        λ h. subst (λ (f : Event). IsCommitted (events ++ f ∷ []) k) (sym (committed.0 h)) (committed_new events k (session_in e) pending),
        λ h. elim (committed_back events e k h) [
          | inl before ↦ absurd (pending_not_committed events k (session_in e) pending before)
          | inr now ↦ committed.1 (now.1.0 ∙ ap (λ (s : ℕ). Commit s) (sym (ap session_in now.1.0)))
        ],
      );
      seen = subst (λ (xs : List Seen). (x : Seen) → Contains xs x ↔ Saw (events ++ e ∷ []) k x) (sym seen) (seen_same events e k old is (λ _. shows));
      writes = subst (λ (b : List (Cell × Value)). (x : Cell) (v : Value) → Contains b (x, v) ↔ LastWrites (events ++ e ∷ []) k x v) (sym buffer)
          (writes_same events e k old is (λ s x v at _. writes s x v at));
    }

-- a transaction begins
pub record_begins :
    (events : List Event) (s : ℕ) (txn : Txn) → txn.session ≡ s → txn.state ≡ Pending → txn.seen ≡ [] → txn.buffer.writes ≡ [] →
    IsRecordOf (events ++ Begin s txn.level ∷ []) (begun events + 1) txn
record_begins events s txn session state seen buffer =
    let pending = pending_begin events s txn.level in
    record {
      place = pending.start;
      started = subst (λ (t : ℕ). IsStart (events ++ Begin s txn.level ∷ []) (begun events + 1) t pending.start) (sym session) pending.starts;
      level = runs_begin events s txn.level;
      pending = (
        λ _. subst (λ (t : ℕ). IsPending (events ++ Begin s txn.level ∷ []) (begun events + 1) t) (sym session) pending,
        λ _. state,
      );
      committed = (
        λ h. let both : Pending ≡ Committed = sym state ∙ h in cc,
        λ h. absurd (none_done h.place (Commit h.session) h.commit),
      );
      seen = λ x. (
        λ member. absurd (nothing x (subst (λ (xs : List Seen). Contains xs x) seen member)),
        λ saw. absurd (none_done saw.place saw.event saw.of),
      );
      writes = λ x v. (
        λ member. absurd (nothing (x, v) (subst (λ (xs : List (Cell × Value)). Contains xs (x, v)) buffer member)),
        λ last. absurd (none_done last.place (Write last.session x v) last.write),
      );
    }
  where
    none_done : (p : ℕ) (f : Event) → IsOf (events ++ Begin s txn.level ∷ []) (begun events + 1) p f → ⊥
    none_done p f of = of_none events (Begin s txn.level) (begun events + 1) p f (omega arith) of

    nothing : {X : Type 0} (x : X) → Contains [] x → ⊥
    nothing x (n, within, is) = absurd (omega arith)

pub txns_quiet :
    (events : List Event) (e : Event) (txns : List Txn) → is_begin e ≡ false → IsQuiet events e → StandsForTxns events txns →
    StandsForTxns (events ++ e ∷ []) txns
txns_quiet events e txns other quiet stands = record {
  count = stands.count ∙ sym (begun-push_other events e other);
  each = λ i txn is. record_quiet events e (i + 1) txn quiet (stands.each i txn is);
}

pub txns_change :
    (events : List Event) (e : Event) (txns : List Txn) (at : ℕ) (txn : Txn) →
    ((s a b : ℕ) → IsPending events a s → IsPending events b s → a ≡ b) → is_begin e ≡ false →
    IsPending events (at + 1) (session_in e) → StandsForTxns events txns → IsRecordOf (events ++ e ∷ []) (at + 1) txn →
    StandsForTxns (events ++ e ∷ []) (set txns at txn)
txns_change events e txns at txn unique other pending stands is = record {
  count = length-set txns at txn ∙ stands.count ∙ sym (begun-push_other events e other);
  each = λ i t there. elim (slice_get-set_cases txns at i txn t there) [
    | inl here ↦
        subst (λ (u : Txn). IsRecordOf (events ++ e ∷ []) (i + 1) u) here.1
        (subst (λ (n : ℕ). IsRecordOf (events ++ e ∷ []) (n + 1) txn) (sym here.0) is)
    | inr apart ↦ record_other events e (i + 1) t (stands.each i t apart.1)
        (λ pending_too. let same : i + 1 ≡ at + 1 = unique (session_in e) (i + 1) (at + 1) pending_too pending in apart.0 (omega arith))
  ];
}

pub txns_begin :
    (events : List Event) (s : ℕ) (txns : List Txn) (txn : Txn) → (HasPending events s → ⊥) → StandsForTxns events txns →
    txn.session ≡ s → txn.state ≡ Pending → txn.seen ≡ [] → txn.buffer.writes ≡ [] → StandsForTxns (events ++ Begin s txn.level ∷ []) (txns ++ txn ∷ [])
txns_begin events s txns txn none stands session state seen buffer = record {
  count = length_push txns txn ∙ ap (λ (n : ℕ). n + 1) stands.count ∙ sym (begun-push_start events s txn.level);
  each = λ i t is. elim (slice_get_push_cases txns txn i t is) [
    | inl old ↦ record_other events (Begin s txn.level) (i + 1) t (stands.each i t old.1) (λ pending. none (i + 1, pending))
    | inr new ↦
        let number : begun events + 1 ≡ i + 1 = let c = stands.count in let h = new.0 in omega arith in
        subst (λ (u : Txn). IsRecordOf (events ++ Begin s txn.level ∷ []) (i + 1) u) new.1
        (subst (λ (n : ℕ). IsRecordOf (events ++ Begin s txn.level ∷ []) n txn) number (record_begins events s txn session state seen buffer))
  ];
}
