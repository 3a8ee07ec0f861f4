-- What the pending transaction of a session wrote, as its session's events say it.
use Rattle.std.proofs.Common.{◌≡◌, ◌≢◌, ◌==◌, ℕ, ◌+◌, Bool, true, false, cond, List, [], ◌∷◌, ◌++◌, length, get_or, arith, rules, refl, ap, sym, ◌∙◌, subst, inl, inr}
use Rattle.std.specs.List.{Contains, All, Any}
use Rattle.std.proofs.lemmas.List.{append_assoc, append-nil}
use Rattle.std.proofs.lemmas.List.Elements.{filter-append, Contains-append_left, Contains-push_cases, Contains-push, All-nil, All-push, Contains-get_or}
use Rattle.std.proofs.lemmas.Map.Views.{exact_unsigned_eq}
use Rattle.std.proofs.lemmas.Bool.{false≢true}
use Rattle.cell_base.specs.declared.level.Level.{Level}
use Rattle.cell_base.specs.declared.cell.Cell.{Cell}
use Rattle.cell_base.specs.declared.value.Value.{Value}
use Rattle.history_core.specs.declared.event.Event.{Event}
use Rattle.history_core.specs.declared.event.Event.TheVariants.{Open, Close, Define, Look, Begin, Scan, Read, Own, Write, Commit, Rollback, Show}
use Rattle.history_core.specs.Events.{begun, session_in}
use Rattle.history_core.specs.Transactions.{IsOf, IsPending, HasPending}
use Rattle.history_core.specs.Relations.{HasWritten, LastWrites}
use Rattle.history_core.specs.Legal.{IsFormed, MayCome, Follows, WroteItself}
use Rattle.history_core.specs.Chronicle.{own_events}
use Rattle.history_book.specs.Book.{WritesLast}
use Rattle.history_core.proofs.Grown.{of_back}
use Rattle.history_core.proofs.Next.{of_new, of_none, pending_back, last_back, last_new}
use Rattle.history_core.proofs.Places.{start_session}
use Rattle.history_core.proofs.Prefixes.{along, formed_back}
use Rattle.indexed_history.proofs.RecordLemmas.{Any-from_contains}
use Rattle.indexed_history.proofs.Cells.{bool_cases}
use Rattle.indexed_history.proofs.Indexes.{written_kept}
use Rattle.valid_writes.specs.Desk.{note, noted, last_writes}

pub noted-push : (writes : List (Cell × Value)) (events : List Event) (e : Event) → noted writes (events ++ e ∷ []) ≡ note (noted writes events) e
noted-push writes [] e = refl
noted-push writes (f ∷ fs) e = noted-push (note writes f) fs e

pub same_session : (a b : ℕ) → a ≡ b → (a == b) ≡ true
same_session a b same = ap (λ (n : ℕ). n == b) same ∙ here b
  where
    here : (n : ℕ) → (n == n) ≡ true
    here n = search rules

-- an event of the session is one of its own
pub own_push : (events : List Event) (s : ℕ) (e : Event) → session_in e ≡ s → own_events (events ++ e ∷ []) s ≡ own_events events s ++ e ∷ []
own_push events s e same =
    filter-append (λ (f : Event). session_in f == s) events (e ∷ [])
    ∙ ap (λ (es : List Event). own_events events s ++ es) (kept (session_in e == s) (same_session (session_in e) s same))
  where
    kept : (b : Bool) → b ≡ true → cond b (e ∷ []) [] ≡ e ∷ []
    kept true is = refl
    kept false is = absurd (false≢true is)

-- another one is none
pub own_skip : (events : List Event) (s : ℕ) (e : Event) → (session_in e == s) ≡ false → own_events (events ++ e ∷ []) s ≡ own_events events s
own_skip events s e other =
    filter-append (λ (f : Event). session_in f == s) events (e ∷ [])
    ∙ ap (λ (es : List Event). own_events events s ++ es) (skipped (session_in e == s) other) ∙ append-nil (own_events events s)
  where
    skipped : (b : Bool) → b ≡ false → cond b (e ∷ []) [] ≡ []
    skipped true is = absurd (false≢true (sym is))
    skipped false is = refl

pub last_writes-push : (events : List Event) (s : ℕ) (e : Event) → session_in e ≡ s → last_writes (events ++ e ∷ []) s ≡ note (last_writes events s) e
last_writes-push events s e same = ap (λ (es : List Event). noted [] es) (own_push events s e same) ∙ noted-push [] (own_events events s) e

pub last_writes-skip : (events : List Event) (s : ℕ) (e : Event) → (session_in e == s) ≡ false → last_writes (events ++ e ∷ []) s ≡ last_writes events s
last_writes-skip events s e other = ap (λ (es : List Event). noted [] es) (own_skip events s e other)

-- the writes are those of the transaction, and what it wrote last to a cell is noted last of that cell
pub record AreWritesOf (events : List Event) (number : ℕ) (writes : List (Cell × Value)) : Type 0 where
  pub written : (cell : Cell) (value : Value) → Contains writes (cell, value) → HasWritten events number cell
  pub last : (cell : Cell) (value : Value) → LastWrites events number cell value → WritesLast writes cell value
  pub noted_all : (p s : ℕ) (cell : Cell) (value : Value) → IsOf events number p (Write s cell value) → Contains writes (cell, value)

-- an event that isn't a write of the transaction leaves what it wrote
own_still :
    (events : List Event) (e : Event) (n : ℕ) (writes : List (Cell × Value)) →
    ((s : ℕ) (cell : Cell) (value : Value) → e ≡ Write s cell value → IsPending events n (session_in e) → ⊥) → AreWritesOf events n writes →
    AreWritesOf (events ++ e ∷ []) n writes
own_still events e n writes none own = record {
  written = λ cell value member. written_kept events e n cell (own.written cell value member);
  last = λ cell value is. elim (last_back events e n cell value is) [
    | inl before ↦ own.last cell value before
    | inr new ↦ absurd (none new.0 cell value new.1.0 new.1.1)
  ];
  noted_all = λ p s cell value of. elim (of_back events e n p (Write s cell value) of) [
    | inl before ↦ own.noted_all p s cell value before
    | inr new ↦ absurd (none s cell value new.1 new.2)
  ];
}

-- a further write of the pending transaction
own_more :
    (events : List Event) (s n : ℕ) (cell : Cell) (value : Value) (writes : List (Cell × Value)) → IsPending events n s → AreWritesOf events n writes →
    AreWritesOf (events ++ Write s cell value ∷ []) n (writes ++ (cell, value) ∷ [])
own_more events s n cell value writes is_pending own = record {
  written = λ x v member. elim (Contains-push_cases writes (cell, value) (x, v) member) [
    | inl before ↦ written_kept events (Write s cell value) n x (own.written x v before)
    | inr here ↦
        let made : HasWritten (events ++ Write s cell value ∷ []) n cell = record {
          place = length events;
          session = s;
          value = value;
          write = of_new events (Write s cell value) n is_pending;
        } in
        subst (λ (y : Cell). HasWritten (events ++ Write s cell value ∷ []) n y) (ap (λ (w : Cell × Value). w.0) here) made
  ];
  last = λ x v is. elim ((last_new events s n cell value is_pending x v).0 is) [
    | inl same ↦
        subst (λ (y : Cell). WritesLast (writes ++ (cell, value) ∷ []) y v) (sym same.0)
        (subst (λ (u : Value). WritesLast (writes ++ (cell, value) ∷ []) cell u) (sym same.1) (record {
          before = writes;
          after = [];
          split = refl;
          last = All-nil (λ (write : Cell × Value). write.0 ≢ cell);
        }))
    | inr other ↦
        let old = own.last x v other.1 in record {
          before = old.before;
          after = old.after ++ (cell, value) ∷ [];
          split = ap (λ (ws : List (Cell × Value)). ws ++ (cell, value) ∷ []) old.split ∙ append_assoc old.before ((x, v) ∷ old.after) ((cell, value) ∷ []);
          last = All-push (λ (write : Cell × Value). write.0 ≢ x) old.after (cell, value) old.last (λ same. other.0 (sym same));
        }
  ];
  noted_all = λ p t x v of. elim (of_back events (Write s cell value) n p (Write t x v) of) [
    | inl before ↦ Contains-append_left writes ((cell, value) ∷ []) (x, v) (own.noted_all p t x v before)
    | inr new ↦
        let at : Write s cell value ≡ Write t x v = new.1 in
        let cells : cell ≡ x = cc in
        let values : value ≡ v = cc in
        subst (λ (z : Cell). Contains (writes ++ (cell, value) ∷ []) (z, v)) cells
        (subst (λ (z : Value). Contains (writes ++ (cell, value) ∷ []) (cell, z)) values (Contains-push writes (cell, value)))
  ];
}

-- a transaction that begins wrote nothing yet
own_first : (events : List Event) (e : Event) (n : ℕ) → n ≡ begun events + 1 → AreWritesOf (events ++ e ∷ []) n []
own_first events e n number = record {
  written = λ cell value (k, within, is). absurd (omega arith);
  last = λ cell value last. absurd (of_none events e n last.place (Write last.session cell value) (omega arith) last.write);
  noted_all = λ p s cell value of. absurd (of_none events e n p (Write s cell value) (omega arith) of);
}

-- what the next event makes of it
own_step :
    (initial : List (Cell × Value)) (events : List Event) (e : Event) (n s : ℕ) → MayCome initial events e → session_in e ≡ s → IsPending events n s →
    AreWritesOf events n (last_writes events s) → AreWritesOf (events ++ e ∷ []) n (note (last_writes events s) e)
own_step initial events (Write t x v) n s may same pending own =
    own_more events t n x v (last_writes events s) (subst (λ (k : ℕ). IsPending events n k) (sym same) pending) own
own_step initial events (Begin t l) n s may same pending own = absurd (may.follows.1 (n, subst (λ (k : ℕ). IsPending events n k) (sym same) pending))
own_step initial events (Open t) n s may same pending own = own_still events (Open t) n (last_writes events s) (λ u x v is p. cc) own
own_step initial events (Close t) n s may same pending own = own_still events (Close t) n (last_writes events s) (λ u x v is p. cc) own
own_step initial events (Define t name) n s may same pending own = own_still events (Define t name) n (last_writes events s) (λ u x v is p. cc) own
own_step initial events (Look t count) n s may same pending own = own_still events (Look t count) n (last_writes events s) (λ u x v is p. cc) own
own_step initial events (Scan t table keys) n s may same pending own = own_still events (Scan t table keys) n (last_writes events s) (λ u x v is p. cc) own
own_step initial events (Read t cell source k w y) n s may same pending own = own_still events (Read t cell source k w y) n (last_writes events s) (λ u x v is p. cc) own
own_step initial events (Own t y z) n s may same pending own = own_still events (Own t y z) n (last_writes events s) (λ u x v is p. cc) own
own_step initial events (Commit t) n s may same pending own = own_still events (Commit t) n (last_writes events s) (λ u x v is p. cc) own
own_step initial events (Rollback t) n s may same pending own = own_still events (Rollback t) n (last_writes events s) (λ u x v is p. cc) own
own_step initial events (Show t number) n s may same pending own = own_still events (Show t number) n (last_writes events s) (λ u x v is p. cc) own

-- what the session's events write since its last Begin is what its pending transaction wrote
abbrev WritesOfPending : List Event → Type 0
WritesOfPending events = (n s : ℕ) → IsPending events n s → AreWritesOf events n (last_writes events s)

pub writes_of_pending : (initial : List (Cell × Value)) (events : List Event) → IsFormed initial events → WritesOfPending events
writes_of_pending initial events =
    along (λ (h : List Event). IsFormed initial h → WritesOfPending h)
    (λ h e holds formed. let both = formed_back initial h e formed in step h e (holds both.0) both.1)
    [] events (λ formed n s pending. absurd (none n s pending))
  where
    none : (n s : ℕ) → IsPending [] n s → ⊥
    none n s pending = let is = pending.starts.is in cc

    step : (h : List Event) (e : Event) → WritesOfPending h → MayCome initial h e → WritesOfPending (h ++ e ∷ [])
    step h e own may n s pending =
        elim (bool_cases (session_in e == s)) [
          | inl here ↦
              let same : session_in e ≡ s = exact_unsigned_eq (session_in e) s here in
              subst (λ (ws : List (Cell × Value)). AreWritesOf (h ++ e ∷ []) n ws) (sym (last_writes-push h s e same))
              (elim (pending_back h e n s pending) [
                | inl before ↦ own_step initial h e n s may same before.0 (own n s before.0)
                | inr new ↦
                    subst (λ (f : Event). AreWritesOf (h ++ e ∷ []) n (note (last_writes h s) f)) (sym new.is) (own_first h e n new.counts)
              ])
          | inr other ↦
              subst (λ (ws : List (Cell × Value)). AreWritesOf (h ++ e ∷ []) n ws) (sym (last_writes-skip h s e other))
              (elim (pending_back h e n s pending) [
                | inl before ↦ own_still h e n (last_writes h s) (λ t x v is p. apart h e n s other before.0 p) (own n s before.0)
                | inr new ↦ absurd (another e s new.level other new.is)
              ])
        ]
      where
        apart : (h : List Event) (e : Event) (n s : ℕ) → (session_in e == s) ≡ false → IsPending h n s → IsPending h n (session_in e) → ⊥
        apart h e n s other pending also =
            let same : session_in e ≡ s = start_session h n (session_in e) s also.start pending.start also.starts pending.starts in
            let yes_is : (session_in e == s) ≡ true = same_session (session_in e) s same in
            false≢true (sym other ∙ yes_is)

        another : (e : Event) (s : ℕ) (level : Level) → (session_in e == s) ≡ false → e ≡ Begin s level → ⊥
        another e s level other is =
            let same : session_in e ≡ s = ap session_in is in
            let yes_is : (session_in e == s) ≡ true = same_session (session_in e) s same in
            false≢true (sym other ∙ yes_is)

-- what the pending transaction wrote is noted
pub wrote_noted :
    (initial : List (Cell × Value)) (events : List Event) (s : ℕ) (cell : Cell) → IsFormed initial events → WroteItself events s cell →
    Any (λ write. write.0 ≡ cell) (last_writes events s)
wrote_noted initial events s cell formed wrote =
    let own = writes_of_pending initial events formed wrote.number s wrote.pending in
    let written = wrote.written in
    Any-from_contains (λ (write : Cell × Value). write.0 ≡ cell) (last_writes events s) (cell, written.value)
    (own.noted_all written.place written.session cell written.value written.write) refl

-- what is noted was written by the pending transaction
pub noted_wrote :
    (initial : List (Cell × Value)) (events : List Event) (s : ℕ) (cell : Cell) → IsFormed initial events → HasPending events s →
    Any (λ write. write.0 ≡ cell) (last_writes events s) → WroteItself events s cell
noted_wrote initial events s cell formed (n, pending) (k, (x, v), within, at, same) = record {
  number = n;
  pending = pending;
  written = subst (λ (y : Cell). HasWritten events n y) same
      ((writes_of_pending initial events formed n s pending).written x v (k, within, at));
}

-- what an own read gives is noted last
pub own_last :
    (initial : List (Cell × Value)) (events : List Event) (s : ℕ) (cell : Cell) (value : Value) → IsFormed initial events →
    Follows initial events (Own s cell value) → WritesLast (last_writes events s) cell value
own_last initial events s cell value formed (n, pending, last) = (writes_of_pending initial events formed n s pending).last cell value last

-- where no write is of the cell, each is of another one
pub all_other :
    (writes : List (Cell × Value)) (cell : Cell) → (Any (λ write. write.0 ≡ cell) writes → ⊥) → All (λ write. write.0 ≢ cell) writes
all_other writes cell none k d within = λ same.
    none (Any-from_contains (λ (write : Cell × Value). write.0 ≡ cell) writes (get_or writes k d) (Contains-get_or writes k d within) same)
