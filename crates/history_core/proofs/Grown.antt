-- What one further event changes.
use Rattle.std.proofs.Common.{◌≡◌, ℕ, ◌+◌, ◌<◌, ◌≤◌, List, [], ◌∷◌, ◌++◌, Some, true, false, length, take, arith, ap, sym, ◌∙◌, subst, inl, inr, ◌⊎◌}
use Rattle.std.proofs.lemmas.List.{take-append-le, length_push, take_all}
use Rattle.std.proofs.lemmas.Option.{slice_get_within}
use Rattle.std.proofs.lemmas.Bool.{false≢true}
use Rattle.cell_base.specs.declared.level.Level.{Level}
use Rattle.cell_base.specs.declared.cell.Cell.{Cell}
use Rattle.history_core.specs.declared.event.Event.{Event}
use Rattle.history_core.specs.declared.event.Event.TheVariants.{Begin, Write, Commit}
use Rattle.history_core.specs.Transactions.{IsStart, IsOf, IsCommitted, IsPending, IsRunning, RunsAt}
use Rattle.history_core.specs.Events.{begun, session_in, is_begin}
use Rattle.history_core.specs.Relations.{Writes, Gives, Reads, Precedes}
use Rattle.history_core.proofs.Places.{slice_get-append_left, start_unique, start_session, start_of}
use Rattle.txn_buffer.proofs.Lists.{slice_get_push_cases}

-- the further event starts the transaction
pub record StartsNow (events : List Event) (e : Event) (number session place : ℕ) : Type 0 where
  pub level : Level
  pub at : place ≡ length events
  pub is : e ≡ Begin session level
  pub counts : number ≡ begun events + 1

pub start_back :
    (events : List Event) (e : Event) (k s p : ℕ) → IsStart (events ++ e ∷ []) k s p →
    IsStart events k s p ⊎ StartsNow events e k s p
start_back events e k s p start =
    elim (slice_get_push_cases events e p (Begin s start.level) start.is) [
      | inl old ↦
          let same : begun (take p (events ++ e ∷ [])) ≡ begun (take p events) = ap begun (take-append-le p events (e ∷ []) (let h = old.0 in omega arith)) in
          inl record { level = start.level; is = old.1; counts = let h = start.counts in omega arith }
      | inr new ↦
          let same : begun (take p (events ++ e ∷ [])) ≡ begun (take p events) = ap begun (take-append-le p events (e ∷ []) (let h = new.0 in omega arith)) in
          let whole : begun (take p events) ≡ begun events = ap begun (take_all p events (let h = new.0 in omega arith)) in
          inr record { level = start.level; at = new.0; is = new.1; counts = let h = start.counts in omega arith }
    ]

-- a start that a further event leaves
pub start_kept : (events : List Event) (e : Event) (k s p : ℕ) → IsStart events k s p → IsStart (events ++ e ∷ []) k s p
start_kept events e k s p start =
    let within : p < length events = slice_get_within events p (Begin s start.level) start.is in
    let same : begun (take p (events ++ e ∷ [])) ≡ begun (take p events) = ap begun (take-append-le p events (e ∷ []) (omega arith)) in
    record { level = start.level; is = slice_get-append_left events (e ∷ []) p within ∙ start.is; counts = let h = start.counts in omega arith }

-- a transaction runs at the level that it started at
pub runs_kept : (events : List Event) (e : Event) (k : ℕ) (level : Level) → RunsAt events k level → RunsAt (events ++ e ∷ []) k level
runs_kept events e k level runs =
    let within : runs.place < length events = slice_get_within events runs.place (Begin runs.session level) runs.is in
    let same : begun (take runs.place (events ++ e ∷ [])) ≡ begun (take runs.place events) =
    ap begun (take-append-le runs.place events (e ∷ []) (omega arith)) in
    record {
      session = runs.session;
      place = runs.place;
      is = slice_get-append_left events (e ∷ []) runs.place within ∙ runs.is;
      counts = let h = runs.counts in omega arith;
    }

pub runs_back :
    (events : List Event) (e : Event) (k : ℕ) (level : Level) → (k ≡ begun events + 1 → is_begin e ≡ true → ⊥) → RunsAt (events ++ e ∷ []) k level →
    RunsAt events k level
runs_back events e k level none runs =
    elim (start_back events e k runs.session runs.place (start_of (events ++ e ∷ []) k level runs)) [
      | inl old ↦
          let within = slice_get_within events runs.place (Begin runs.session old.level) old.is in
          let both : Some (Begin runs.session level) ≡ Some (Begin runs.session old.level) =
          sym runs.is ∙ slice_get-append_left events (e ∷ []) runs.place within ∙ old.is in
          let same : level ≡ old.level = cc in
          record {
            session = runs.session;
            place = runs.place;
            is = old.is ∙ ap (λ (l : Level). Some (Begin runs.session l)) (sym same);
            counts = old.counts;
          }
      | inr new ↦ absurd (none new.counts (ap is_begin new.is))
    ]

pub running_back :
    (events : List Event) (e : Event) (s low high : ℕ) → high ≤ length events → IsRunning (events ++ e ∷ []) s low high →
    IsRunning events s low high
running_back events e s low high within running =
    λ q f after below is same. running q f after below (slice_get-append_left events (e ∷ []) q (omega arith) ∙ is) same

-- an event of a transaction is an old one, or the further one in a transaction that was pending
pub of_back :
    (events : List Event) (e : Event) (k p : ℕ) (f : Event) → IsOf (events ++ e ∷ []) k p f →
    IsOf events k p f ⊎ ((p ≡ length events) × (e ≡ f) × IsPending events k (session_in e))
of_back events e k p f of =
    elim (start_back events e k (session_in f) of.start of.starts) [
      | inl start ↦
          elim (slice_get_push_cases events e p f of.is) [
            | inl old ↦ inl record {
              start = of.start;
              starts = start;
              after = of.after;
              is = old.1;
              running = running_back events e (session_in f) of.start p (let h = old.0 in omega arith) of.running;
            }
            | inr new ↦ inr (
              new.0,
              new.1,
              let at_e : session_in e ≡ session_in f = ap session_in new.1 in
                  let here : IsPending events k (session_in f) = record {
                    start = of.start;
                    starts = start;
                    running = subst (λ (high : ℕ). IsRunning events (session_in f) of.start high) new.0
                        (running_back events e (session_in f) of.start p (let h = new.0 in omega arith) of.running);
                  } in
                  subst (λ (s : ℕ). IsPending events k s) (sym at_e) here,
            )
          ]
      | inr late ↦
          let within : p < length (events ++ e ∷ []) = slice_get_within (events ++ e ∷ []) p f of.is in
          let longer : length (events ++ e ∷ []) ≡ length events + 1 = length_push events e in
          let after = of.after in let at = late.at in
          absurd (omega arith)
    ]

-- a pending transaction has not committed
pub pending_not_committed : (events : List Event) (k s : ℕ) → IsPending events k s → IsCommitted events k → ⊥
pending_not_committed events k s pending committed =
    let of = committed.commit in
    let same_start : of.start ≡ pending.start = start_unique events k committed.session s of.start pending.start of.starts pending.starts in
    let same_session : committed.session ≡ s = start_session events k committed.session s of.start pending.start of.starts pending.starts in
    let within : committed.place < length events = slice_get_within events committed.place (Commit committed.session) of.is in
    let not_end : true ≡ false = pending.running committed.place (Commit committed.session) (let h = of.after in omega arith) within of.is same_session in
    false≢true (sym not_end)

pub reads_back :
    (events : List Event) (e : Event) (reader p : ℕ) (cell : Cell) (source : ℕ) → Reads (events ++ e ∷ []) reader p cell source →
    Reads events reader p cell source ⊎ ((p ≡ length events) × IsPending events reader (session_in e) × Gives e cell source)
reads_back events e reader p cell source reads =
    elim (of_back events e reader p reads.event reads.of_reader) [
      | inl old ↦ inl record { event = reads.event; of_reader = old; gives = reads.gives }
      | inr new ↦ inr (new.0, new.2, subst (λ (f : Event). Gives f cell source) (sym new.1) reads.gives)
    ]

pub committed_back :
    (events : List Event) (e : Event) (k : ℕ) → IsCommitted (events ++ e ∷ []) k →
    IsCommitted events k ⊎ ((s : ℕ) × ((e ≡ Commit s) × IsPending events k (session_in e)))
committed_back events e k committed =
    elim (of_back events e k committed.place (Commit committed.session) committed.commit) [
      | inl old ↦ inl record { place = committed.place; session = committed.session; commit = old }
      | inr new ↦ inr (committed.session, (new.1, new.2))
    ]

-- what writes after wrote before, or commits now
pub writes_back :
    (events : List Event) (e : Event) (k : ℕ) (cell : Cell) → Writes (events ++ e ∷ []) k cell →
    Writes events k cell ⊎ ((s : ℕ) × ((e ≡ Commit s) × IsPending events k (session_in e)))
writes_back events e k cell (inl initial) = inl (inl initial)
writes_back events e k cell (inr own) =
    elim (committed_back events e k own.0) [
      | inl committed ↦
          elim (of_back events e k own.1.place (Write own.1.session cell own.1.value) own.1.write) [
            | inl old ↦ inl (inr (committed, record { place = own.1.place; session = own.1.session; value = own.1.value; write = old }))
            | inr new ↦ absurd (pending_not_committed events k (session_in e) new.2 committed)
          ]
      | inr now ↦ inr now
    ]

-- what comes before what, where nothing begins
pub precedes_back :
    (events : List Event) (e : Event) → is_begin e ≡ false →
    (a b : ℕ) → Precedes (events ++ e ∷ []) a b →
    Precedes events a b ⊎ ((cell : Cell) × (IsPending events b (session_in e) × Gives e cell a))
precedes_back events e none a b (inl so) =
    let old = λ (k s p : ℕ) (start : IsStart (events ++ e ∷ []) k s p).
    let kept : IsStart events k s p = elim (start_back events e k s p start) [
      | inl before ↦ before
      | inr new ↦ absurd (false≢true (sym none ∙ ap is_begin new.is))
    ] in kept
    in
    inl (inl record {
      earlier = so.earlier;
      place = so.place;
      session = so.session;
      started = old b so.session so.place so.started;
      same = elim so.same [ inl initial ↦ inl initial | inr other ↦ inr (other.0, old a so.session other.0 other.1) ];
    })
precedes_back events e none a b (inr wr) =
    elim (reads_back events e b wr.place wr.cell a wr.reads) [
      | inl before ↦ inl (inr record { place = wr.place; cell = wr.cell; reads = before })
      | inr new ↦ inr (wr.cell, (new.1, new.2))
    ]
