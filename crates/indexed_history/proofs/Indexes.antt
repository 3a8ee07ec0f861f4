-- What an index of writers lists, as events are added.
use Rattle.std.proofs.Common.{◌≡◌, ◌≢◌, ℕ, ◌-◌, ◌<◌, ◌≤◌, List, [], ◌∷◌, ◌++◌, Ok, Err, Result, true, false, length, get_or, arith, refl, ap, sym, ◌∙◌, subst, inl, inr, ◌⊎◌, ◌↔◌, Option, Some, None, rules}
use Rattle.std.specs.Prelude.{OnOk, OnErr}
use Rattle.std.specs.List.{Contains}
use Rattle.std.proofs.lemmas.Bool.{cases_lt, false≢true}
use Rattle.graph_base.proofs.Places.{count_by-push}
use Rattle.cell_base.specs.declared.cell.Cell.{Cell}
use Rattle.cell_base.specs.declared.value.Value.{Value}
use Rattle.history_core.specs.declared.event.Event.{Event}
use Rattle.history_core.specs.declared.event.Event.TheVariants.{Write, Begin, Commit, Rollback, Define}
use Rattle.history_core.specs.declared.fault.BookFault.{BookFault}
use Rattle.history_core.specs.declared.fault.BookFault.TheVariants.{Full, Memory}
use Rattle.history_core.specs.declared.fault.Limit.{Limit}
use Rattle.history_core.specs.Initial.{load_of}
use Rattle.history_core.specs.Legal.{full_for}
use Rattle.history_core.specs.Events.{begun, session_in, is_begin, is_end}
use Rattle.history_core.specs.Records.{is_any_end}
use Rattle.history_core.specs.Transactions.{IsPending, IsCommitted}
use Rattle.history_core.specs.Relations.{HasWritten}
use Rattle.history_core.specs.Chronicle.{Chronicle}
use Rattle.history_core.proofs.Grown.{of_back, committed_back, pending_not_committed}
use Rattle.history_core.proofs.Next.{pending_back, pending_kept, committed_new, of_new}
use Rattle.history_core.proofs.Places.{start_session}
use Rattle.history_core.proofs.Prefixes.{start_bounded, start_positive, of_kept, committed_kept}
use Rattle.indexed_history.specs.declared.index.Index.{Index}
use Rattle.indexed_history.specs.Writers.{ListsWriters, IsPlain}
use Rattle.indexed_history.specs.Index.{numbers_at, IsIndex, AreAscending, GainsWriter, LosesWriter, ListsSame, Forgets}
use Rattle.indexed_history.specs.Parts.{IsTheTxn}
use Rattle.indexed_history.proofs.Ascending.{increasing_few, contains_get}

-- committed, or pending in some session
abbrev pub IsAlive : List Event → ℕ → Type 0
IsAlive events n = IsCommitted events n ⊎ ((s : ℕ) × IsPending events n s)

begun_more : (events : List Event) (e : Event) → begun events ≤ begun (events ++ e ∷ [])
begun_more events e = let more = count_by-push is_begin events e in omega arith

pub written_kept : (events : List Event) (e : Event) (n : ℕ) (x : Cell) → HasWritten events n x → HasWritten (events ++ e ∷ []) n x
written_kept events e n x written = record {
  place = written.place;
  session = written.session;
  value = written.value;
  write = of_kept events e n written.place (Write written.session x written.value) written.write;
}

-- what has written after an event had written before, or writes now
pub written_back :
    (events : List Event) (e : Event) (n : ℕ) (x : Cell) → HasWritten (events ++ e ∷ []) n x →
    HasWritten events n x ⊎ ((s : ℕ) × ((v : Value) × ((e ≡ Write s x v) × IsPending events n (session_in e))))
written_back events e n x written =
    elim (of_back events e n written.place (Write written.session x written.value) written.write) [
      | inl old ↦ inl record { place = written.place; session = written.session; value = written.value; write = old }
      | inr new ↦ inr (written.session, (written.value, (new.1, new.2)))
    ]

written_bounded : (events : List Event) (n : ℕ) (x : Cell) → HasWritten events n x → n ≤ begun events
written_bounded events n x written = start_bounded events n written.session written.write.start written.write.starts

written_positive : (events : List Event) (n : ℕ) (x : Cell) → HasWritten events n x → 0 < n
written_positive events n x written = start_positive events n written.session written.write.start written.write.starts

-- what has written and is alive after an event was alive before
alive_back :
    (events : List Event) (e : Event) (n : ℕ) (x : Cell) → HasWritten events n x → IsAlive (events ++ e ∷ []) n → IsAlive events n
alive_back events e n x written (inl committed) =
    elim (committed_back events e n committed) [ inl old ↦ inl old | inr now ↦ inr (session_in e, now.1.1) ]
alive_back events e n x written (inr (s, pending)) =
    elim (pending_back events e n s pending) [
      | inl old ↦ inr (s, old.0)
      | inr new ↦ let h = new.counts in let few = written_bounded events n x written in absurd (omega arith)
    ]

is_end_cases : (e : Event) → (is_end e ≡ false) ⊎ ((e ≡ Commit (session_in e)) ⊎ (e ≡ Rollback (session_in e)))
is_end_cases (Commit s) = inr (inl refl)
is_end_cases (Rollback s) = inr (inr refl)
is_end_cases _ = inl refl

-- what is alive stays so, but for the pending transaction of a session that rolls back
alive_kept :
    (events : List Event) (e : Event) (n : ℕ) → ((s : ℕ) → e ≡ Rollback s → IsPending events n s → ⊥) → IsAlive events n → IsAlive (events ++ e ∷ []) n
alive_kept events e n stays (inl committed) = inl (committed_kept events e n committed)
alive_kept events e n stays (inr (s, pending)) =
    elim (is_end_cases e) [
      | inl none ↦ inr (s, pending_kept events e n s (λ same. none) pending)
      | inr ends ↦ elim (session_cases (session_in e) s) [
        | inl same ↦ elim ends [
          | inl commits ↦ inl (subst (λ (f : Event). IsCommitted (events ++ f ∷ []) n) (sym (commits ∙ ap Commit same)) (committed_new events n s pending))
          | inr rolls ↦ absurd (stays s (rolls ∙ ap Rollback same) pending)
        ]
        | inr apart ↦ inr (s, pending_kept events e n s (λ same. absurd (apart same)) pending)
      ]
    ]
  where
    session_cases : (a b : ℕ) → (a ≡ b) ⊎ (a ≢ b)
    session_cases a b = elim (cases_lt a b) [
      | inl less ↦ inr (λ same. absurd (omega arith))
      | inr more ↦ elim (cases_lt b a) [ inl less ↦ inr (λ same. absurd (omega arith)) | inr other ↦ inl (omega arith) ]
    ]

-- an index lists at each cell, ascending, exactly the transactions that wrote it and are alive
pub record IsExact (events : List Event) (index : Index) : Type 0 where
  pub ascending : AreAscending index
  pub sound : (q : Cell) (n : ℕ) → Contains (numbers_at index q) n → HasWritten events n q × IsAlive events n
  pub whole : (q : Cell) (n : ℕ) → HasWritten events n q → IsAlive events n → Contains (numbers_at index q) n

pub exact_of : (events : List Event) (index : Index) → IsIndex events index → IsExact events index
exact_of events index is = record {
  ascending = λ q. (is q).ascending;
  sound = λ q n there. let all = (is q).wrote n there in (all.2, all.3);
  whole = λ q n written alive. elim alive [
    | inl committed ↦ (is q).whole n (written_positive events n q written) (inr (committed, written))
    | inr pending ↦ (is q).pending n pending.0 pending.1 written
  ];
}

pub index_of : (events : List Event) (index : Index) → IsExact events index → IsIndex events index
index_of events index is q = record {
  ascending = is.ascending q;
  wrote = λ n there. let both = is.sound q n there in (written_positive events n q both.0, written_bounded events n q both.0, both.0, both.1);
  whole = λ n positive writes. elim writes [
    | inl initial ↦ absurd (omega arith)
    | inr own ↦ is.whole q n own.1 (inl own.0)
  ];
  pending = λ n s pending written. is.whole q n written (inr (s, pending));
}

-- an event that is neither a first write nor a rollback leaves the index
pub indexed_still :
    (events : List Event) (e : Event) (index : Index) → ((s : ℕ) → e ≡ Rollback s → ⊥) →
    ((s : ℕ) (x : Cell) (v : Value) → e ≡ Write s x v → (n : ℕ) → IsPending events n (session_in e) → HasWritten events n x) →
    IsIndex events index → IsIndex (events ++ e ∷ []) index
indexed_still events e index no_rollback written is =
    let exact = exact_of events index is in
    index_of (events ++ e ∷ []) index record {
      ascending = exact.ascending;
      sound = λ q n there.
          let both = exact.sound q n there in
          (written_kept events e n q both.0, alive_kept events e n (λ s at pending. no_rollback s at) both.1);
      whole = λ q n wrote alive. elim (written_back events e n q wrote) [
        | inl old ↦ exact.whole q n old (alive_back events e n q old alive)
        | inr new ↦ let old = written new.0 q new.1.0 new.1.1.0 n new.1.1.1 in exact.whole q n old (alive_back events e n q old alive)
      ];
    }

pub no_write : (e : Event) → IsPlain e → (s : ℕ) (x : Cell) (v : Value) → e ≡ Write s x v → ⊥
no_write e plain s x v at = subst IsPlain at plain

no_rollback : (e : Event) → IsPlain e → (s : ℕ) → e ≡ Rollback s → ⊥
no_rollback e plain s at = subst IsPlain at plain

pub indexed_plain : (events : List Event) (e : Event) (index : Index) → IsPlain e → IsIndex events index → IsIndex (events ++ e ∷ []) index
indexed_plain events e index plain is =
    indexed_still events e index (no_rollback e plain) (λ s x v at n pending. absurd (no_write e plain s x v at)) is

pub indexed_define : (events : List Event) (s : ℕ) (name : List ℕ) (index : Index) → IsIndex events index → IsIndex (events ++ Define s name ∷ []) index
indexed_define events s name index is = indexed_still events (Define s name) index (λ t at. cc) (λ t x v at n pending. cc) is

-- an end that isn't a rollback
pub indexed_end :
    (events : List Event) (e : Event) (index : Index) → is_any_end e ≡ true → ((s : ℕ) → e ≡ Rollback s → ⊥) → IsIndex events index → IsIndex (events ++ e ∷ []) index
indexed_end events e index end other is =
    indexed_still events e index other (λ s x v at n pending. absurd (false≢true (ap is_any_end (sym at) ∙ end))) is

-- a write of a cell that the transaction has written
pub indexed_further :
    (events : List Event) (s : ℕ) (x : Cell) (v : Value) (index : Index) → ((n : ℕ) → IsPending events n s → HasWritten events n x) → IsIndex events index →
    IsIndex (events ++ Write s x v ∷ []) index
indexed_further events s x v index written is =
    indexed_still events (Write s x v) index (λ t at. cc)
    (λ t y u at n pending. let cells : x ≡ y = cc in subst (λ (z : Cell). HasWritten events n z) cells (written n pending)) is

-- a first write of the pending transaction, which is listed
pub indexed_first :
    (events : List Event) (s : ℕ) (x : Cell) (v : Value) (number : ℕ) (old new : Index) → IsPending events number s →
    ((n : ℕ) → IsPending events n s → n ≡ number) → AreAscending new → GainsWriter old x number new → IsIndex events old → IsIndex (events ++ Write s x v ∷ []) new
indexed_first events s x v number old new pending unique ascending gains is =
    let exact = exact_of events old is in
    index_of (events ++ Write s x v ∷ []) new record {
      ascending = ascending;
      sound = λ q n there. elim ((gains q n).0 there) [
        | inl before ↦
            let both = exact.sound q n before in
            (written_kept events (Write s x v) n q both.0, alive_kept events (Write s x v) n (λ t at p. cc) both.1)
        | inr now ↦ (
          subst (λ (y : Cell). HasWritten (events ++ Write s x v ∷ []) n y) (sym now.0)
              (subst (λ (k : ℕ). HasWritten (events ++ Write s x v ∷ []) k x) (sym now.1)
              record { place = length events; session = s; value = v; write = of_new events (Write s x v) number pending }),
          subst (λ (k : ℕ). IsAlive (events ++ Write s x v ∷ []) k) (sym now.1) (inr (s, pending_kept events (Write s x v) number s (λ same. refl) pending)),
        )
      ];
      whole = λ q n wrote alive. elim (written_back events (Write s x v) n q wrote) [
        | inl before ↦ (gains q n).1 (inl (exact.whole q n before (alive_back events (Write s x v) n q before alive)))
        | inr now ↦
            let at : Write s x v ≡ Write now.0 q now.1.0 = now.1.1.0 in
            let cells : q ≡ x = cc in
            (gains q n).1 (inr (cells, unique n now.1.1.1))
      ];
    }

-- the transaction was listed and is taken out again
pub indexed_back :
    (events : List Event) (x : Cell) (number : ℕ) (old mid new : Index) → AreAscending new → (HasWritten events number x → ⊥) → GainsWriter old x number mid →
    LosesWriter mid x number new → IsIndex events old → IsIndex events new
indexed_back events x number old mid new ascending unwritten gains loses is =
    let exact = exact_of events old is in
    index_of events new record {
      ascending = ascending;
      sound = λ q n there.
          let both = (loses q n).0 there in
          elim ((gains q n).0 both.0) [
            | inl before ↦ exact.sound q n before
            | inr now ↦ absurd (both.1 now)
          ];
      whole = λ q n wrote alive. (loses q n).1 (
        (gains q n).1 (inl (exact.whole q n wrote alive)),
        λ now. unwritten (subst (λ (k : ℕ). HasWritten events k x) now.1 (subst (λ (y : Cell). HasWritten events n y) now.0 wrote)),
      );
    }

pub indexed_same : (events : List Event) (old new : Index) → ListsSame old new → IsIndex events old → IsIndex events new
indexed_same events old new same is q = subst (λ (ns : List ℕ). ListsWriters events q ns) (sym (same q)) (is q)

-- a rollback, where the transaction is forgotten at all cells that it wrote
pub indexed_rollback :
    (events : List Event) (s number : ℕ) (writes : List (Cell × Value)) (old new : Index) → IsPending events number s →
    ((n : ℕ) → IsPending events n s → n ≡ number) → ((q : Cell) → HasWritten events number q → ((v : Value) → Contains writes (q, v) → ⊥) → ⊥) →
    Forgets old writes number new → IsIndex events old → IsIndex (events ++ Rollback s ∷ []) new
indexed_rollback events s number writes old new pending unique noted forgets is =
    let exact = exact_of events old is in
    index_of (events ++ Rollback s ∷ []) new record {
      ascending = forgets.ascending;
      sound = λ q n there.
          let both = exact.sound q n (forgets.fewer q n there) in (
            written_kept events (Rollback s) n q both.0,
            alive_kept events (Rollback s) n (λ t at still.
                let same : t ≡ s = cc in
                let here : n ≡ number = unique n (subst (λ (k : ℕ). IsPending events n k) same still) in
                noted q (subst (λ (k : ℕ). HasWritten events k q) here both.0)
                (λ v written. forgets.gone q v written (subst (λ (k : ℕ). Contains (numbers_at new q) k) here there))) both.1,
          );
      whole = λ q n wrote alive. elim (written_back events (Rollback s) n q wrote) [
        | inl before ↦ forgets.others q n (λ same. dead n same alive) (exact.whole q n before (alive_back events (Rollback s) n q before alive))
        | inr now ↦ let at : Rollback s ≡ Write now.0 q now.1.0 = now.1.1.0 in cc
      ];
    }
  where
    one_session : (t : ℕ) → IsPending events number t → s ≡ t
    one_session t other = start_session events number s t pending.start other.start pending.starts other.starts

    dead : (n : ℕ) → n ≡ number → IsAlive (events ++ Rollback s ∷ []) n → ⊥
    dead n same (inl committed) =
        elim (committed_back events (Rollback s) n committed) [
          | inl before ↦ pending_not_committed events number s pending (subst (λ (k : ℕ). IsCommitted events k) same before)
          | inr now ↦ let at : Rollback s ≡ Commit now.0 = now.1.0 in cc
        ]
    dead n same (inr (t, still)) =
        elim (pending_back events (Rollback s) n t still) [
          | inl before ↦
              let sessions : s ≡ t = one_session t (subst (λ (k : ℕ). IsPending events k t) same before.0) in
              false≢true (sym (before.1 sessions))
          | inr new ↦ let at : Rollback s ≡ Begin t new.level = new.is in cc
        ]

-- there are no more writers than transactions
pub writers_few : (events : List Event) (x : Cell) (numbers : List ℕ) → ListsWriters events x numbers → length numbers ≤ begun events
writers_few events x numbers is =
    elim (cases_lt 0 (length numbers)) [
      | inl some ↦
          let last = increasing_few numbers is.ascending (λ k within. (at k within).0) (length numbers - 1) (omega arith) in
          let high = (at (length numbers - 1) (omega arith)).1 in
          omega arith
      | inr none ↦ omega arith
    ]
  where
    at : (k : ℕ) → k < length numbers → (0 < get_or numbers k 0) × (get_or numbers k 0 ≤ begun events)
    at k within =
        let all = is.wrote (get_or numbers k 0) (contains_get numbers k (get_or numbers k 0) within refl) in
        (all.0, all.1)

-- an event was added, or nothing changed
pub indexed_either :
    (old new : Chronicle) (e : Event) (index : Index) (r : Result (Unit {0}) BookFault) → OnOk r (new.events ≡ old.events ++ e ∷ []) → OnErr r (new ≡ old) →
    (IsIndex old.events index → IsIndex (old.events ++ e ∷ []) index) → IsIndex old.events index → IsIndex new.events index
indexed_either old new e index (Ok u) ok err step is = subst (λ (es : List Event). IsIndex es index) (sym ok) (step is)
indexed_either old new e index (Err fault) ok err step is = subst (λ (h : Chronicle). IsIndex h.events index) (sym err) is

pub committed_bounded : (events : List Event) (n : ℕ) → IsCommitted events n → n ≤ begun events
committed_bounded events n committed = start_bounded events n committed.session committed.commit.start committed.commit.starts

-- without events nothing is listed
pub indexed_none : (events : List Event) (index : Index) → events ≡ [] → ((q : Cell) → numbers_at index q ≡ []) → IsIndex events index
indexed_none events index none empty q =
    subst (λ (es : List Event). ListsWriters es q (numbers_at index q)) (sym none)
    (subst (λ (ns : List ℕ). ListsWriters [] q ns) (sym (empty q)) record {
      ascending = λ k within. absurd (omega arith);
      wrote = λ n there. let within = there.1 in absurd (omega arith);
      whole = λ n positive writes. elim writes [
        | inl initial ↦ absurd (omega arith)
        | inr own ↦ let few = written_bounded [] n q own.1 in let zero_begun : begun [] ≡ 0 = refl in absurd (omega arith)
      ];
      pending = λ n s pending written. let few = written_bounded [] n q written in let some = written_positive [] n q written in let zero_begun : begun [] ≡ 0 = refl in absurd (omega arith);
    })

-- where there is room for a write, it is refused out of memory alone
pub memory_left :
    (initial : List (Cell × Value)) (events : List Event) (s : ℕ) (x : Cell) (v : Value) (fault : BookFault) (r : Result (Unit {0}) BookFault) → r ≡ Err fault →
    load_of initial events < 1048576 → ((limit : Limit) → (r ≡ Err (Full limit)) ↔ (full_for initial events (Write s x v) ≡ Some limit)) →
    fault ≡ Memory
memory_left initial events s x v Memory r is room full = refl
memory_left initial events s x v (Full limit) r is room full =
    let there : full_for initial events (Write s x v) ≡ Some limit = (full limit).0 is in
    let none : full_for initial events (Write s x v) ≡ None = search rules in
    let both : None ≡ Some limit = sym none ∙ there in
    cc

-- what is found pending in a session is its transaction
pub the_txn :
    (events : List Event) (s number : ℕ) (found : Option ℕ) → found ≡ Some number → ((n : ℕ) → (found ≡ Some n) ↔ IsPending events n s) → IsTheTxn events s number
the_txn events s number found is pending n = (
  λ p. let both : Some n ≡ Some number = sym ((pending n).1 p) ∙ is in cc,
  λ same. (pending n).0 (is ∙ ap (λ (k : ℕ). Some k) (sym same)),
)

pub none_found : (events : List Event) (s n : ℕ) (found : Option ℕ) → found ≡ None → ((k : ℕ) → (found ≡ Some k) ↔ IsPending events k s) → IsPending events n s → ⊥
none_found events s n found is pending p = let both : None ≡ Some n = sym is ∙ (pending n).1 p in cc
