-- What the next event makes of the transactions: what they did, which is pending, and what they wrote last.
use Rattle.std.proofs.Common.{◌≡◌, ◌≢◌, ℕ, ◌+◌, ◌<◌, ◌≤◌, List, [], ◌∷◌, ◌++◌, false, length, take, arith, ap, sym, ◌∙◌, subst, inl, inr, ◌⊎◌, ◌↔◌}
use Rattle.std.proofs.lemmas.List.{length_push, take_all, take-append-le}
use Rattle.std.proofs.lemmas.Option.{slice_get_within}
use Rattle.cell_base.specs.declared.level.Level.{Level}
use Rattle.cell_base.specs.declared.cell.Cell.{Cell}
use Rattle.cell_base.specs.declared.value.Value.{Value}
use Rattle.history_core.specs.declared.event.Event.{Event}
use Rattle.history_core.specs.declared.event.Event.TheVariants.{Begin, Write, Commit}
use Rattle.history_core.specs.Events.{begun, session_in, is_end}
use Rattle.history_core.specs.Transactions.{IsOf, IsCommitted, IsPending, RunsAt}
use Rattle.history_core.specs.Relations.{LastWrites}
use Rattle.history_core.proofs.Places.{slice_get-append_left}
use Rattle.txn_buffer.proofs.Lists.{slice_get_push_cases}
use Rattle.history_core.proofs.Grown.{start_back, start_kept, of_back}
use Rattle.history_core.proofs.Prefixes.{slice_get-at_end, of_kept, start_bounded}

-- the next event is one of the pending transaction
pub of_new : (events : List Event) (e : Event) (k : ℕ) → IsPending events k (session_in e) → IsOf (events ++ e ∷ []) k (length events) e
of_new events e k pending =
    let within : pending.start < length events = slice_get_within events pending.start (Begin (session_in e) pending.starts.level) pending.starts.is in
    record {
      start = pending.start;
      starts = start_kept events e k (session_in e) pending.start pending.starts;
      after = within;
      is = slice_get-at_end events e;
      running = λ q f above below is same. pending.running q f above below (sym (slice_get-append_left events (e ∷ []) q below) ∙ is) same;
    }

pub pending_kept :
    (events : List Event) (e : Event) (k s : ℕ) → (session_in e ≡ s → is_end e ≡ false) → IsPending events k s → IsPending (events ++ e ∷ []) k s
pending_kept events e k s ends pending =
    record {
      start = pending.start;
      starts = start_kept events e k s pending.start pending.starts;
      running = λ q f above below is same. elim (slice_get_push_cases events e q f is) [
        | inl old ↦ pending.running q f above old.0 old.1 same
        | inr new ↦ sym (ap is_end new.1) ∙ ends (ap session_in new.1 ∙ same)
      ];
    }

-- the next event begins the transaction in the session
pub record BeginsNow (events : List Event) (e : Event) (number session : ℕ) : Type 0 where
  pub level : Level
  pub is : e ≡ Begin session level
  pub counts : number ≡ begun events + 1

pub pending_back :
    (events : List Event) (e : Event) (k s : ℕ) → IsPending (events ++ e ∷ []) k s →
    (IsPending events k s × (session_in e ≡ s → is_end e ≡ false)) ⊎ BeginsNow events e k s
pending_back events e k s pending =
    elim (start_back events e k s pending.start pending.starts) [
      | inl old ↦
          let within : pending.start < length events = slice_get_within events pending.start (Begin s old.level) old.is in
          let longer : length (events ++ e ∷ []) ≡ length events + 1 = length_push events e in
          inl (
            record {
              start = pending.start;
              starts = old;
              running = λ q f above below is same. pending.running q f above (omega arith) (slice_get-append_left events (e ∷ []) q below ∙ is) same;
            },
            λ same. pending.running (length events) e within (omega arith) (slice_get-at_end events e) same,
          )
      | inr new ↦ inr record { level = new.level; is = new.is; counts = new.counts }
    ]

pub pending_begin : (events : List Event) (s : ℕ) (level : Level) → IsPending (events ++ Begin s level ∷ []) (begun events + 1) s
pending_begin events s level =
    let longer : length (events ++ Begin s level ∷ []) ≡ length events + 1 = length_push events (Begin s level) in
    let whole : begun (take (length events) (events ++ Begin s level ∷ [])) ≡ begun events =
    ap begun (take-append-le (length events) events (Begin s level ∷ []) (omega arith) ∙ take_all (length events) events (omega arith)) in
    record {
      start = length events;
      starts = record { level = level; is = slice_get-at_end events (Begin s level); counts = omega arith };
      running = λ q f above below is same. absurd (omega arith);
    }

-- a transaction runs at the level that its Begin says
pub runs_begin : (events : List Event) (s : ℕ) (level : Level) → RunsAt (events ++ Begin s level ∷ []) (begun events + 1) level
runs_begin events s level =
    let whole : begun (take (length events) (events ++ Begin s level ∷ [])) ≡ begun events =
    ap begun (take-append-le (length events) events (Begin s level ∷ []) (omega arith) ∙ take_all (length events) events (omega arith)) in
    record { session = s; place = length events; is = slice_get-at_end events (Begin s level); counts = omega arith }

pub pending_bounded : (events : List Event) (k s : ℕ) → IsPending events k s → k ≤ begun events
pending_bounded events k s pending = start_bounded events k s pending.start pending.starts

-- a transaction that is to begin did nothing yet
pub of_none :
    (events : List Event) (e : Event) (k p : ℕ) (f : Event) → begun events < k → IsOf (events ++ e ∷ []) k p f → ⊥
of_none events e k p f new of =
    elim (of_back events e k p f of) [
      | inl old ↦ let h : k ≤ begun events = start_bounded events k (session_in f) old.start old.starts in absurd (omega arith)
      | inr last ↦ let h : k ≤ begun events = pending_bounded events k (session_in e) last.2 in absurd (omega arith)
    ]

pub committed_new : (events : List Event) (k s : ℕ) → IsPending events k s → IsCommitted (events ++ Commit s ∷ []) k
committed_new events k s pending = record { place = length events; session = s; commit = of_new events (Commit s) k pending }

-- the last writes, where the event is not a write of the transaction
pub last_kept :
    (events : List Event) (e : Event) (k : ℕ) (x : Cell) (v : Value) →
    ((s : ℕ) (u : Value) → e ≡ Write s x u → IsPending events k (session_in e) → ⊥) →
    LastWrites events k x v → LastWrites (events ++ e ∷ []) k x v
last_kept events e k x v none last = record {
  place = last.place;
  session = last.session;
  write = of_kept events e k last.place (Write last.session x v) last.write;
  last = λ q s u of. elim (of_back events e k q (Write s x u) of) [
    | inl old ↦ last.last q s u old
    | inr new ↦ absurd (none s u new.1 new.2)
  ];
}

pub last_back :
    (events : List Event) (e : Event) (k : ℕ) (x : Cell) (v : Value) → LastWrites (events ++ e ∷ []) k x v →
    (LastWrites events k x v) ⊎ ((s : ℕ) × ((e ≡ Write s x v) × IsPending events k (session_in e)))
last_back events e k x v last =
    elim (of_back events e k last.place (Write last.session x v) last.write) [
      | inl old ↦ inl record {
        place = last.place;
        session = last.session;
        write = old;
        last = λ q s u of. last.last q s u (of_kept events e k q (Write s x u) of);
      }
      | inr new ↦ inr (last.session, (new.1, new.2))
    ]

-- what the pending transaction wrote last, after a further write
pub last_new :
    (events : List Event) (s k : ℕ) (x : Cell) (v : Value) → IsPending events k s → (y : Cell) (u : Value) →
    LastWrites (events ++ Write s x v ∷ []) k y u ↔ (((y ≡ x) × (u ≡ v)) ⊎ ((y ≢ x) × LastWrites events k y u))
last_new events s k x v pending y u = (
  λ last. elim (of_back events (Write s x v) k last.place (Write last.session y u) last.write) [
    | inl before ↦
        let within : last.place < length events = slice_get_within events last.place (Write last.session y u) before.is in
        inr (
          λ same.
              let at_end : IsOf (events ++ Write s x v ∷ []) k (length events) (Write s y v) =
              subst (λ (z : Cell). IsOf (events ++ Write s x v ∷ []) k (length events) (Write s z v)) (sym same) (of_new events (Write s x v) k pending) in
              let late : length events ≤ last.place = last.last (length events) s v at_end in
              absurd (omega arith),
          record {
            place = last.place;
            session = last.session;
            write = before;
            last = λ q t w of. last.last q t w (of_kept events (Write s x v) k q (Write t y w) of);
          },
        )
    | inr new ↦ inl (let e = new.1 in cc, let e = new.1 in cc)
  ],
  λ either. elim either [
    | inl same ↦
        let longer : length (events ++ Write s x v ∷ []) ≡ length events + 1 = length_push events (Write s x v) in
        let made : LastWrites (events ++ Write s x v ∷ []) k x v = record {
          place = length events;
          session = s;
          write = of_new events (Write s x v) k pending;
          last = λ q t w of.
              let within : q < length (events ++ Write s x v ∷ []) = slice_get_within (events ++ Write s x v ∷ []) q (Write t x w) of.is in
              omega arith;
        } in
        subst (λ (z : Cell). LastWrites (events ++ Write s x v ∷ []) k z u) (sym same.0)
        (subst (λ (w : Value). LastWrites (events ++ Write s x v ∷ []) k x w) (sym same.1) made)
    | inr other ↦ last_kept events (Write s x v) k y u (λ t w is _. other.0 (let e = is in cc)) other.1
  ],
)
