-- Two histories that are equal but for what their reads were answered have the same transactions, relations and commit orders.
use Rattle.std.proofs.Common.{◌≡◌, ℕ, ◌+◌, List, [], ◌∷◌, ◌++◌, Some, None, Bool, cond, length, take, map, zero, suc, arith, refl, ap, sym, ◌∙◌, subst, inl, inr, ◌⊎◌}
use Rattle.std.specs.List.{slice_get, count_by}
use Rattle.std.proofs.lemmas.List.{take-map, map-append, length-map}
use Rattle.std.proofs.lemmas.List.Sums.{sum_by-cons}
use Rattle.graph_base.specs.Order.{HoldsEachOnce}
use Rattle.graph_base.specs.Chain.{IsChain}
use Rattle.cell_base.specs.declared.level.Level.{Level}
use Rattle.cell_base.specs.declared.level.Level.TheVariants.{Rc, Ra, Cc}
use Rattle.cell_base.specs.declared.cell.Cell.{Cell}
use Rattle.cell_base.specs.declared.value.Value.{Value}
use Rattle.cell_base.specs.declared.value.Value.TheVariants.{Unset}
use Rattle.history_core.specs.declared.event.Event.{Event}
use Rattle.history_core.specs.declared.event.Event.TheVariants.{Open, Close, Define, Look, Begin, Scan, Read, Own, Write, Commit, Rollback, Show}
use Rattle.history_core.specs.Events.{begun, session_in, is_begin, is_end}
use Rattle.history_core.specs.Transactions.{IsStart, IsOf, IsCommitted, IsPending, IsRunning, RunsAt}
use Rattle.history_core.specs.Relations.{HasWritten, LastWrites, Writes, Gives, Reads, Precedes, IsVisibleAt, Demands, IsConsistent}
use Rattle.history_core.specs.Legal.{ReadsNothing}

-- the event, without what a read was answered
abbrev pub without_answer : Event → Event
without_answer (Read s x w n u v) = Read s x w 0 0 Unset
without_answer event = event

abbrev pub Agree : List Event → List Event → Type 0
Agree xs ys = map without_answer xs ≡ map without_answer ys

-- ---- one event

pub record IsRead (e : Event) : Type 0 where
  pub session : ℕ
  pub cell : Cell
  pub source : ℕ
  pub count : ℕ
  pub word : ℕ
  pub value : Value
  pub is : e ≡ Read session cell source count word value

pub read_or_other : (e : Event) → ReadsNothing e ⊎ IsRead e
read_or_other (Read s x w n u v) = inr record { session = s; cell = x; source = w; count = n; word = u; value = v; is = refl }
read_or_other (Open s) = inl tt
read_or_other (Close s) = inl tt
read_or_other (Define s name) = inl tt
read_or_other (Look s count) = inl tt
read_or_other (Begin s level) = inl tt
read_or_other (Scan s table keys) = inl tt
read_or_other (Own s x v) = inl tt
read_or_other (Write s x v) = inl tt
read_or_other (Commit s) = inl tt
read_or_other (Rollback s) = inl tt
read_or_other (Show s number) = inl tt

pub whole_already : (e : Event) → ReadsNothing e → without_answer e ≡ e
whole_already (Read s x w n u v) plain = absurd plain
whole_already (Open s) plain = refl
whole_already (Close s) plain = refl
whole_already (Define s name) plain = refl
whole_already (Look s count) plain = refl
whole_already (Begin s level) plain = refl
whole_already (Scan s table keys) plain = refl
whole_already (Own s x v) plain = refl
whole_already (Write s x v) plain = refl
whole_already (Commit s) plain = refl
whole_already (Rollback s) plain = refl
whole_already (Show s number) plain = refl

-- what agrees with an event that reads nothing is that event
pub same_event : (e f : Event) → ReadsNothing e → without_answer e ≡ without_answer f → f ≡ e
same_event e f plain same =
    elim (read_or_other f) [
      | inl other ↦ sym (whole_already f other) ∙ sym same ∙ whole_already e plain
      | inr read ↦
          let is : e ≡ Read read.session read.cell read.source 0 0 Unset =
          sym (whole_already e plain) ∙ same ∙ ap without_answer read.is in
          absurd (subst (λ (g : Event). ReadsNothing g) is plain)
    ]

-- what doesn't depend on the answer of a read
abbrev pub IgnoresAnswers : {X : Type 0} → (Event → X) → Type 0
IgnoresAnswers F = (s : ℕ) (x : Cell) (w n u : ℕ) (v : Value) → F (Read s x w 0 0 Unset) ≡ F (Read s x w n u v)

pub kept_of : {X : Type 0} (F : Event → X) → IgnoresAnswers F → (e : Event) → F (without_answer e) ≡ F e
kept_of F ignores e =
    elim (read_or_other e) [
      | inl other ↦ ap F (whole_already e other)
      | inr read ↦
          subst (λ (g : Event). F (without_answer g) ≡ F g) (sym read.is)
          (ignores read.session read.cell read.source read.count read.word read.value)
    ]

pub same_of : {X : Type 0} (F : Event → X) → IgnoresAnswers F → (e f : Event) → without_answer e ≡ without_answer f → F e ≡ F f
same_of F ignores e f same = sym (kept_of F ignores e) ∙ ap F same ∙ kept_of F ignores f

gives_bare : (e : Event) (x : Cell) (w : ℕ) → Gives e x w → Gives (without_answer e) x w
gives_bare e x w gives =
    elim (read_or_other e) [
      | inl other ↦ subst (λ (g : Event). Gives g x w) (sym (whole_already e other)) gives
      | inr read ↦ subst (λ (g : Event). Gives g x w → Gives (without_answer g) x w) (sym read.is) (λ h. h) gives
    ]

gives_full : (e : Event) (x : Cell) (w : ℕ) → Gives (without_answer e) x w → Gives e x w
gives_full e x w gives =
    elim (read_or_other e) [
      | inl other ↦ subst (λ (g : Event). Gives g x w) (whole_already e other) gives
      | inr read ↦ subst (λ (g : Event). Gives (without_answer g) x w → Gives g x w) (sym read.is) (λ h. h) gives
    ]

gives_same : (e f : Event) (x : Cell) (w : ℕ) → without_answer e ≡ without_answer f → Gives e x w → Gives f x w
gives_same e f x w same gives = gives_full f x w (subst (λ (g : Event). Gives g x w) same (gives_bare e x w gives))

-- ---- lists

-- the event at the place that agrees with this one
pub record Twin (ys : List Event) (k : ℕ) (e : Event) : Type 0 where
  pub event : Event
  pub is : slice_get ys k ≡ Some event
  pub same : without_answer e ≡ without_answer event

pub twin : (xs ys : List Event) → Agree xs ys → (k : ℕ) (e : Event) → slice_get xs k ≡ Some e → Twin ys k e
twin [] ys same k e is = absurd (let h : None ≡ Some e = is in cc)
twin (x ∷ xs) [] same k e is = absurd (let h : without_answer x ∷ map without_answer xs ≡ [] = same in cc)
twin (x ∷ xs) (y ∷ ys) same zero e is =
    let heads : without_answer x ∷ map without_answer xs ≡ without_answer y ∷ map without_answer ys = same in
    let here : Some x ≡ Some e = is in
    let first : x ≡ e = cc in
    let both : without_answer x ≡ without_answer y = cc in
    record { event = y; is = refl; same = ap without_answer (sym first) ∙ both }
twin (x ∷ xs) (y ∷ ys) same (suc k) e is =
    let heads : without_answer x ∷ map without_answer xs ≡ without_answer y ∷ map without_answer ys = same in
    let tails : map without_answer xs ≡ map without_answer ys = cc in
    let there : slice_get xs k ≡ Some e = is in
    let found = twin xs ys tails k e there in
    record { event = found.event; is = found.is; same = found.same }

pub agree_length : (xs ys : List Event) → Agree xs ys → length xs ≡ length ys
agree_length xs ys same = sym (length-map xs without_answer) ∙ ap length same ∙ length-map ys without_answer

pub agree_take : (xs ys : List Event) (k : ℕ) → Agree xs ys → Agree (take k xs) (take k ys)
agree_take xs ys k same = sym (take-map without_answer k xs) ∙ ap (λ (es : List Event). take k es) same ∙ take-map without_answer k ys

pub agree_push : (xs ys : List Event) (e f : Event) → Agree xs ys → without_answer e ≡ without_answer f → Agree (xs ++ e ∷ []) (ys ++ f ∷ [])
agree_push xs ys e f same last =
    map-append without_answer xs (e ∷ [])
    ∙ ap (λ (es : List Event). es ++ without_answer e ∷ []) same
    ∙ ap (λ (g : Event). map without_answer ys ++ g ∷ []) last
    ∙ sym (map-append without_answer ys (f ∷ []))

count_bare : (f : Event → Bool) → IgnoresAnswers f → (xs : List Event) → count_by f (map without_answer xs) ≡ count_by f xs
count_bare f ignores [] = refl
count_bare f ignores (x ∷ xs) =
    sum_by-cons (λ e. cond (f e) 1 0) (without_answer x) (map without_answer xs)
    ∙ ap (λ (b : Bool). cond b 1 0 + count_by f (map without_answer xs)) (kept_of f ignores x)
    ∙ ap (λ (n : ℕ). cond (f x) 1 0 + n) (count_bare f ignores xs)
    ∙ sym (sum_by-cons (λ e. cond (f e) 1 0) x xs)

pub agree_count : (f : Event → Bool) → IgnoresAnswers f → (xs ys : List Event) → Agree xs ys → count_by f xs ≡ count_by f ys
agree_count f ignores xs ys same = sym (count_bare f ignores xs) ∙ ap (λ (es : List Event). count_by f es) same ∙ count_bare f ignores ys

pub agree_begun : (xs ys : List Event) → Agree xs ys → begun xs ≡ begun ys
agree_begun xs ys same = agree_count is_begin (λ s x w n u v. refl) xs ys same

-- ---- transactions

same_session : (e f : Event) → without_answer e ≡ without_answer f → session_in e ≡ session_in f
same_session e f same = same_of session_in (λ s x w n u v. refl) e f same

same_end : (e f : Event) → without_answer e ≡ without_answer f → is_end e ≡ is_end f
same_end e f same = same_of is_end (λ s x w n u v. refl) e f same

pub start_agrees : (xs ys : List Event) → Agree xs ys → (k s p : ℕ) → IsStart xs k s p → IsStart ys k s p
start_agrees xs ys same k s p start =
    let there = twin xs ys same p (Begin s start.level) start.is in
    let event : there.event ≡ Begin s start.level = same_event (Begin s start.level) there.event tt there.same in
    let counts : begun (take p xs) ≡ begun (take p ys) = agree_begun (take p xs) (take p ys) (agree_take xs ys p same) in
    record {
      level = start.level;
      is = there.is ∙ ap (λ (e : Event). Some e) event;
      counts = let h = start.counts in omega arith;
    }

pub runs_agrees : (xs ys : List Event) → Agree xs ys → (k : ℕ) (level : Level) → RunsAt xs k level → RunsAt ys k level
runs_agrees xs ys same k level runs =
    let there = twin xs ys same runs.place (Begin runs.session level) runs.is in
    let event : there.event ≡ Begin runs.session level = same_event (Begin runs.session level) there.event tt there.same in
    let counts : begun (take runs.place xs) ≡ begun (take runs.place ys) =
    agree_begun (take runs.place xs) (take runs.place ys) (agree_take xs ys runs.place same) in
    record {
      session = runs.session;
      place = runs.place;
      is = there.is ∙ ap (λ (e : Event). Some e) event;
      counts = let h = runs.counts in omega arith;
    }

running_agrees : (xs ys : List Event) → Agree xs ys → (s low high : ℕ) → IsRunning xs s low high → IsRunning ys s low high
running_agrees xs ys same s low high running =
    λ q e after below is session.
    let there = twin ys xs (sym same) q e is in
    same_end e there.event there.same
    ∙ running q there.event after below there.is (sym (same_session e there.event there.same) ∙ session)

-- the event of the transaction that agrees with this one
pub record TwinOf (ys : List Event) (k p : ℕ) (e : Event) : Type 0 where
  pub event : Event
  pub of : IsOf ys k p event
  pub same : without_answer e ≡ without_answer event

pub of_agrees : (xs ys : List Event) → Agree xs ys → (k p : ℕ) (e : Event) → IsOf xs k p e → TwinOf ys k p e
of_agrees xs ys same k p e of =
    let there = twin xs ys same p e of.is in
    let session : session_in e ≡ session_in there.event = same_session e there.event there.same in
    record {
      event = there.event;
      of = record {
        start = of.start;
        starts = subst (λ (s : ℕ). IsStart ys k s of.start) session (start_agrees xs ys same k (session_in e) of.start of.starts);
        after = of.after;
        is = there.is;
        running = subst (λ (s : ℕ). IsRunning ys s of.start p) session (running_agrees xs ys same (session_in e) of.start p of.running);
      };
      same = there.same;
    }

-- an event that reads nothing is the same
pub plain_agrees : (xs ys : List Event) → Agree xs ys → (k p : ℕ) (e : Event) → ReadsNothing e → IsOf xs k p e → IsOf ys k p e
plain_agrees xs ys same k p e plain of =
    let there = of_agrees xs ys same k p e of in
    subst (λ (g : Event). IsOf ys k p g) (same_event e there.event plain there.same) there.of

pub pending_agrees : (xs ys : List Event) → Agree xs ys → (k s : ℕ) → IsPending xs k s → IsPending ys k s
pending_agrees xs ys same k s pending = record {
  start = pending.start;
  starts = start_agrees xs ys same k s pending.start pending.starts;
  running = subst (λ (high : ℕ). IsRunning ys s pending.start high) (agree_length xs ys same)
      (running_agrees xs ys same s pending.start (length xs) pending.running);
}

pub committed_agrees : (xs ys : List Event) → Agree xs ys → (k : ℕ) → IsCommitted xs k → IsCommitted ys k
committed_agrees xs ys same k committed = record {
  place = committed.place;
  session = committed.session;
  commit = plain_agrees xs ys same k committed.place (Commit committed.session) tt committed.commit;
}

-- ---- what was written and read

pub written_agrees : (xs ys : List Event) → Agree xs ys → (k : ℕ) (x : Cell) → HasWritten xs k x → HasWritten ys k x
written_agrees xs ys same k x written = record {
  place = written.place;
  session = written.session;
  value = written.value;
  write = plain_agrees xs ys same k written.place (Write written.session x written.value) tt written.write;
}

pub last_agrees : (xs ys : List Event) → Agree xs ys → (k : ℕ) (x : Cell) (v : Value) → LastWrites xs k x v → LastWrites ys k x v
last_agrees xs ys same k x v last = record {
  place = last.place;
  session = last.session;
  write = plain_agrees xs ys same k last.place (Write last.session x v) tt last.write;
  last = λ q s w of. last.last q s w (plain_agrees ys xs (sym same) k q (Write s x w) tt of);
}

pub writes_agree : (xs ys : List Event) → Agree xs ys → (k : ℕ) (x : Cell) → Writes xs k x → Writes ys k x
writes_agree xs ys same k x (inl first) = inl first
writes_agree xs ys same k x (inr own) = inr (committed_agrees xs ys same k own.0, written_agrees xs ys same k x own.1)

reads_agree : (xs ys : List Event) → Agree xs ys → (r p : ℕ) (x : Cell) (w : ℕ) → Reads xs r p x w → Reads ys r p x w
reads_agree xs ys same r p x w reads =
    let there = of_agrees xs ys same r p reads.event reads.of_reader in
    record { event = there.event; of_reader = there.of; gives = gives_same reads.event there.event x w there.same reads.gives }

-- ---- commit orders

precedes_agrees : (xs ys : List Event) → Agree xs ys → (a b : ℕ) → Precedes xs a b → Precedes ys a b
precedes_agrees xs ys same a b (inl so) = inl record {
  earlier = so.earlier;
  place = so.place;
  session = so.session;
  started = start_agrees xs ys same b so.session so.place so.started;
  same = elim so.same [ inl first ↦ inl first | inr other ↦ inr (other.0, start_agrees xs ys same a so.session other.0 other.1) ];
}
precedes_agrees xs ys same a b (inr wr) =
    inr record { place = wr.place; cell = wr.cell; reads = reads_agree xs ys same b wr.place wr.cell a wr.reads }

chain_agrees : (xs ys : List Event) → Agree xs ys → (a : ℕ) (between : List ℕ) (b : ℕ) → IsChain (Precedes xs) a between b → IsChain (Precedes ys) a between b
chain_agrees xs ys same a [] b link = precedes_agrees xs ys same a b link
chain_agrees xs ys same a (m ∷ between) b (link, rest) = (precedes_agrees xs ys same a m link, chain_agrees xs ys same m between b rest)

sees_agrees : (level : Level) (xs ys : List Event) → Agree xs ys → (r p a : ℕ) → IsVisibleAt level xs r p a → IsVisibleAt level ys r p a
sees_agrees Rc xs ys same r p a sees = record {
  earlier = sees.earlier;
  cell = sees.cell;
  below = sees.below;
  reads = reads_agree xs ys same r sees.earlier sees.cell a sees.reads;
}
sees_agrees Ra xs ys same r p a sees = precedes_agrees xs ys same a r sees
sees_agrees Cc xs ys same r p a sees = record { between = sees.between; is = chain_agrees xs ys same a sees.between r sees.is }

demands_agree : (xs ys : List Event) → Agree xs ys → (a b : ℕ) → Demands xs a b → Demands ys a b
demands_agree xs ys same a b d = record {
  reader = d.reader;
  place = d.place;
  cell = d.cell;
  reads = reads_agree xs ys same d.reader d.place d.cell b d.reads;
  other = d.other;
  writes = writes_agree xs ys same a d.cell d.writes;
  visible = record {
    level = d.visible.level;
    runs = runs_agrees xs ys same d.reader d.visible.level d.visible.runs;
    sees = sees_agrees d.visible.level xs ys same d.reader d.place a d.visible.sees;
  };
}

pub consistent_agrees : (xs ys : List Event) → Agree xs ys → IsConsistent xs → IsConsistent ys
consistent_agrees xs ys same (order, meets) = (
  order,
  record {
    holds = subst (λ (n : ℕ). HoldsEachOnce (n + 1) order) (agree_begun xs ys same) meets.holds;
    first = meets.first;
    precedes = λ a b p. meets.precedes a b (precedes_agrees ys xs (sym same) a b p);
    demands = λ a b d. meets.demands a b (demands_agree ys xs (sym same) a b d);
  },
)
