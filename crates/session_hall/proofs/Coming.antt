-- A call of a book to whose history others had added before it.
use Rattle.std.proofs.Common.{◌≡◌, ◌≢◌, ℕ, List, [], ◌∷◌, ◌++◌, length, refl, sym, ◌∙◌, ap, subst, Option, Some, None, inl, inr}
use Rattle.std.specs.Prelude.{◌⊎◌, All}
use Rattle.std.proofs.lemmas.List.{append-nil, append_cancel_left}
use Rattle.sql_tree.specs.declared.table.Table.{Table}
use Rattle.history_core.specs.declared.event.Event.{Event}
use Rattle.history_core.specs.declared.event.Event.TheVariants.{Open, Close, Define, Look, Begin, Scan, Write, Commit, Rollback, Show}
use Rattle.history_core.specs.declared.fault.BookFault.{BookFault}
use Rattle.history_core.specs.declared.fault.BookFault.TheVariants as faults
use Rattle.history_core.specs.declared.fault.DefineAnswer.TheVariants as defines
use Rattle.history_core.specs.Events.{session_in}
use Rattle.history_book.specs.Book.{Past, SessionState, no_session, in_session, pending, HasSession, IsIdle, IsInTransaction, IsUnwritten, HasWrite, session_of, GoesOn, Adds}
use Rattle.valid_writes.specs.Owning.{OwnsAllThatComes}
use Rattle.block_machine.specs.Calls.{Call}
use Rattle.block_machine.specs.Calls as calls
use Rattle.block_machine.specs.Script.{Entry, did, refused, short, unsent, stop}
use Rattle.block_machine.specs.declared.call.Answer.{Answer}
use Rattle.block_machine.specs.declared.call.Answer.TheVariants as answers
use Rattle.session_core.specs.Told.{opened_after}
use Rattle.session_core.specs.Record.{Happens, Declines, Draws, StateAfter, IsValidRecord, events_of}
use Rattle.session_core.specs.Plays.{MayAsk}
use Rattle.session_core.proofs.Playing.{reads_later, reads_session}
use Rattle.session_core.proofs.ValidRecords.{Happens-leaves, Declines-goes}
use Rattle.session_hall.specs.Accounts.{Comes}
use Rattle.session_hall.proofs.Later.{goes_later, adds_later, adds_in}

-- what others added isn't of the session that the call opens
abbrev pub IsForeign : Call → Answer → List Event → Type 0
IsForeign calls.Open (answers.Opened s) others = All (λ (x : Event). session_in x ≢ s) others
IsForeign _ _ others = Unit {0}

draws_later : {W : Type 0} (gives : W → ℕ → W → Type 0) (p m : Past) (v : W) (c : Call) (x : Entry) (w : W) → m.state ≡ p.state →
    Draws gives m v c x w → Draws gives p v c x w
draws_later gives p m v (calls.Touch cell) x w same (inl (h, k)) = inl (subst (λ (s : SessionState). HasWrite cell s) same h, k)
draws_later gives p m v (calls.Touch cell) x w same (inr (h, k)) = inr (subst (λ (s : SessionState). IsUnwritten cell s) same h, k)
draws_later gives p m v _ x w same h = h

happens_later : (p m : Past) (c : Call) (a : Answer) (e : Event) (q : Past) (g : GoesOn p m) → IsForeign c a g.others → Happens m c a e q →
    Happens p c a e q
happens_later p m calls.Open (answers.Opened s) e q g foreign h =
    (h.0, adds_later p m q e g (subst (λ (n : ℕ). All (λ (x : Event). session_in x ≢ n) g.others) (sym (ap session_in h.0)) foreign) h.1)
happens_later p m calls.Close answers.Closed e q g foreign h =
    (h.0 ∙ ap (λ (s : SessionState). Close (session_of s)) g.state, adds_in p m q e g (ap session_in h.0) h.1)
happens_later p m (calls.Look known) (answers.Looked tables) e q g foreign h = (
  h.0 ∙ ap (λ (s : SessionState). Look (session_of s) (length q.seen.tables)) g.state,
  record {
    before = h.1.before;
    whole = h.1.whole;
    known_is = h.1.known_is;
    adds = subst (λ (s : SessionState). Adds p (Look (session_of s) (length q.seen.tables)) q) g.state
        (adds_in p m q (Look (session_of m.state) (length q.seen.tables)) g refl h.1.adds);
  },
)
happens_later p m (calls.Define t) (answers.Defined (defines.Defined n)) e q g foreign h = (
  h.0 ∙ ap (λ (s : SessionState). Define (session_of s) t.name) g.state,
  (
    h.1.0,
    h.1.1,
    h.1.2,
    subst (λ (s : SessionState). Adds p (Define (session_of s) t.name) q) g.state
        (adds_in p m q (Define (session_of m.state) t.name) g refl h.1.3),
  ),
)
happens_later p m (calls.Define t) (answers.Defined (defines.Taken n)) e q g foreign h = (
  h.0 ∙ ap (λ (s : SessionState). Look (session_of s) n) g.state,
  (
    h.1.0,
    h.1.1,
    subst (λ (s : SessionState). Adds p (Look (session_of s) n) q) g.state (adds_in p m q (Look (session_of m.state) n) g refl h.1.2),
  ),
)
happens_later p m (calls.Begin level) (answers.Begun n) e q g foreign h =
    (h.0 ∙ ap (λ (s : SessionState). Begin (session_of s) level) g.state, adds_in p m q e g (ap session_in h.0) h.1, h.2)
happens_later p m (calls.Scan table) (answers.Listed keys) e q g foreign h =
    (h.0 ∙ ap (λ (s : SessionState). Scan (session_of s) table keys) g.state, adds_in p m q e g (ap session_in h.0) h.1)
happens_later p m (calls.Touch cell) (answers.Found value) e q g foreign h =
    (reads_later p m cell value e g.state h.0, adds_in p m q e g (reads_session m cell value e h.0) h.1)
happens_later p m (calls.Write cell value) answers.Written e q g foreign h =
    (h.0 ∙ ap (λ (s : SessionState). Write (session_of s) cell value) g.state, adds_in p m q e g (ap session_in h.0) h.1)
happens_later p m calls.Commit answers.Committed e q g foreign h =
    (h.0 ∙ ap (λ (s : SessionState). Commit (session_of s)) g.state, adds_in p m q e g (ap session_in h.0) h.1)
happens_later p m calls.Rollback answers.RolledBack e q g foreign h =
    (h.0 ∙ ap (λ (s : SessionState). Rollback (session_of s)) g.state, adds_in p m q e g (ap session_in h.0) h.1)
happens_later p m calls.Show (answers.Shown n) e q g foreign h =
    (h.0 ∙ ap (λ (s : SessionState). Show (session_of s) n) g.state, adds_in p m q e g (ap session_in h.0) h.1, h.2)
happens_later p m _ _ e q g foreign h = absurd h

declines_later : (p m : Past) (c : Call) (why : BookFault) (q : Past) → GoesOn p m → Declines m c why q → Declines p c why q
declines_later p m c (faults.Full limit) q g h = (h.0, goes_later p m q g h.1, h.2, h.3)
declines_later p m c faults.Memory q g h = (h.0, goes_later p m q g h.1)

-- the same for an entry
abbrev pub IsForeignTo : Call → Entry → List Event → Type 0
IsForeignTo c (did a e) others = IsForeign c a others
IsForeignTo c _ others = Unit {0}

-- one call, and what came of it
pub one_later : {W : Type 0} (gives : W → ℕ → W → Type 0) (p m : Past) (v : W) (c : Call) (x : Entry) (q : Past) (w : W) (g : GoesOn p m) →
    IsForeignTo c x g.others → IsValidRecord gives m v (c ∷ []) (x ∷ []) q w → IsValidRecord gives p v (c ∷ []) (x ∷ []) q w
one_later gives p m v c (did a e) q w g foreign l = (
  l.0,
  l.1,
  happens_later p m c a e l.0 g foreign l.2,
  draws_later gives p m v c (did a e) l.1 g.state l.3,
  l.4,
  subst (λ (s : SessionState). StateAfter c a s l.0.state) g.state l.5,
)
one_later gives p m v c (refused why) q w g foreign l =
    (l.0, l.1, declines_later p m c why l.0 g l.2, draws_later gives p m v c (refused why) l.1 g.state l.3, l.4)
one_later gives p m v c (short final n) q w g foreign l = absurd l
one_later gives p m v c (unsent n) q w g foreign l = absurd l
one_later gives p m v c (stop cause) q w g foreign l = absurd l

-- ---- what came of one call

-- the call was answered so, or refused
abbrev pub Came : Past → Call → Entry → Past → Type 0
Came p c (did a e) q = Happens p c a e q × StateAfter c a p.state q.state
Came p c (refused why) q = Declines p c why q
Came p c (short final n) q = ⊥
Came p c (unsent n) q = ⊥
Came p c (stop cause) q = ⊥

pub came_of : {W : Type 0} (gives : W → ℕ → W → Type 0) (p : Past) (v : W) (c : Call) (x : Entry) (q : Past) (w : W) →
    IsValidRecord gives p v (c ∷ []) (x ∷ []) q w → Came p c x q
came_of gives p v c (did a e) q w l =
    subst (λ (y : Past). Happens p c a e y × StateAfter c a p.state y.state) (sym l.4.0) (l.2, l.5)
came_of gives p v c (refused why) q w l = subst (λ (y : Past). Declines p c why y) (sym l.4.0) l.2
came_of gives p v c (short final n) q w l = absurd l
came_of gives p v c (unsent n) q w l = absurd l
came_of gives p v c (stop cause) q w l = absurd l

-- the event that an answered call added
adds_of : (p : Past) (c : Call) (a : Answer) (e : Event) (q : Past) → Happens p c a e q → (x : Event) × (e ≡ x) × Adds p x q
adds_of p calls.Open (answers.Opened s) e q h = (e, refl, h.1)
adds_of p calls.Close answers.Closed e q h = (e, refl, h.1)
adds_of p (calls.Look known) (answers.Looked tables) e q h = (Look (session_of p.state) (length q.seen.tables), h.0, h.1.adds)
adds_of p (calls.Define t) (answers.Defined (defines.Defined n)) e q h = (Define (session_of p.state) t.name, h.0, h.1.3)
adds_of p (calls.Define t) (answers.Defined (defines.Taken n)) e q h = (Look (session_of p.state) n, h.0, h.1.2)
adds_of p (calls.Begin level) (answers.Begun n) e q h = (e, refl, h.1)
adds_of p (calls.Scan table) (answers.Listed keys) e q h = (e, refl, h.1)
adds_of p (calls.Touch cell) (answers.Found value) e q h = (e, refl, h.1)
adds_of p (calls.Write cell value) answers.Written e q h = (e, refl, h.1)
adds_of p calls.Commit answers.Committed e q h = (e, refl, h.1)
adds_of p calls.Rollback answers.RolledBack e q h = (e, refl, h.1)
adds_of p calls.Show (answers.Shown n) e q h = (e, refl, h.1)
adds_of p _ _ e q h = absurd h

-- where the book owns all that comes, just these events came
came_own : (p : Past) (c : Call) (x : Entry) (q : Past) → Came p c x q → q.own ≡ p.own ++ events_of (x ∷ [])
came_own p c (did a e) q h = (Happens-leaves p c a e q h.0).own
came_own p c (refused why) q h = (Declines-goes p c why q h).own ∙ sym (append-nil p.own)
came_own p c (short final n) q h = absurd h
came_own p c (unsent n) q h = absurd h
came_own p c (stop cause) q h = absurd h

came_tables : (p : Past) (c : Call) (x : Entry) (q : Past) → Came p c x q → (more : List Table) × (q.seen.tables ≡ p.seen.tables ++ more)
came_tables p c (did a e) q h = let adds = (adds_of p c a e q h.0).2 in (adds.more, adds.tables)
came_tables p c (refused why) q h = let goes = Declines-goes p c why q h in (goes.more, goes.tables)
came_tables p c (short final n) q h = absurd h
came_tables p c (unsent n) q h = absurd h
came_tables p c (stop cause) q h = absurd h

came_start : (p : Past) (c : Call) (x : Entry) (q : Past) → Came p c x q → (q.seen.level ≡ p.seen.level) × (q.seen.initial ≡ p.seen.initial)
came_start p c (did a e) q h = let leaves = Happens-leaves p c a e q h.0 in (leaves.level, leaves.initial)
came_start p c (refused why) q h = let goes = Declines-goes p c why q h in (goes.level, goes.initial)
came_start p c (short final n) q h = absurd h
came_start p c (unsent n) q h = absurd h
came_start p c (stop cause) q h = absurd h

pub came_comes : (p : Past) (c : Call) (x : Entry) (q : Past) → Came p c x q → OwnsAllThatComes p q → Comes p.seen (events_of (x ∷ [])) q.seen
came_comes p c x q h owns =
    let same : owns.added ≡ events_of (x ∷ []) = append_cancel_left p.own owns.added (events_of (x ∷ [])) (sym owns.own ∙ came_own p c x q h) in
    let start = came_start p c x q h in
    let tables = came_tables p c x q h in
    record {
      level = start.0;
      initial = start.1;
      seen = owns.seen ∙ ap (λ (es : List Event). p.seen.events ++ es) same;
      more = tables.0;
      tables = tables.1;
    }

pub came_owns : (p : Past) (c : Call) (x : Entry) (q : Past) → Came p c x q → q.own ≡ p.own ++ events_of (x ∷ [])
came_owns p c x q h = came_own p c x q h

-- ---- whose event it is

idle_has : (s : SessionState) → IsIdle s → HasSession s
idle_has no_session h = h
idle_has (in_session s) h = tt
idle_has (pending s ws) h = tt

transaction_has : (s : SessionState) → IsInTransaction s → HasSession s
transaction_has no_session h = h
transaction_has (in_session s) h = tt
transaction_has (pending s ws) h = tt

abbrev pub IsInner : Call → Type 0
IsInner calls.Open = ⊥
IsInner _ = Unit {0}

-- any call but an Open is asked of an open session
pub asks_open : (c : Call) (p : Past) → MayAsk c p → IsInner c → HasSession p.state
asks_open calls.Open p may inner = absurd inner
asks_open calls.Close p may inner = idle_has p.state may
asks_open (calls.Look known) p may inner = may.0
asks_open (calls.Define t) p may inner = may.0
asks_open (calls.Begin level) p may inner = idle_has p.state may
asks_open (calls.Scan table) p may inner = transaction_has p.state may.0
asks_open (calls.Touch cell) p may inner = transaction_has p.state may.0
asks_open (calls.Write cell value) p may inner = transaction_has p.state may.0
asks_open calls.Commit p may inner = transaction_has p.state may
asks_open calls.Rollback p may inner = transaction_has p.state may
asks_open calls.Show p may inner = may

-- how the number goes on: an Open gives one where there was none, another call leaves it, and its event has it
pub record Numbers (number : Option ℕ) (p : Past) (a : Answer) (e : Event) (q : Past) : Type 0 where
  pub after : opened_after number a ≡ Some (session_in e)
  pub has : HasSession q.state → session_of q.state ≡ session_in e
  pub either : ((number ≡ None) × (e ≡ Open (session_in e))) ⊎ (number ≡ Some (session_in e))

-- an inner call: the session stays
inner_numbers : (number : Option ℕ) (p : Past) (a : Answer) (e : Event) (q : Past) → opened_after number a ≡ number →
    number ≡ Some (session_of p.state) → session_in e ≡ session_of p.state → (HasSession q.state → session_of q.state ≡ session_of p.state) →
    Numbers number p a e q
inner_numbers number p a e q same number_is mine has =
    let is : number ≡ Some (session_in e) = number_is ∙ ap (λ (n : ℕ). Some n) (sym mine) in
    record { after = same ∙ is; has = λ h. has h ∙ sym mine; either = inr is }

state_number : (s t : SessionState) → t ≡ s → HasSession t → session_of t ≡ session_of s
state_number s t same h = ap session_of same

gone : (t : SessionState) → t ≡ no_session → HasSession t → ⊥
gone t same h = subst HasSession same h

pub came_numbers : (number : Option ℕ) (p : Past) (c : Call) (a : Answer) (e : Event) (q : Past) → MayAsk c p →
    (HasSession p.state → number ≡ Some (session_of p.state)) → (p.state ≡ no_session → number ≡ None) → Happens p c a e q →
    StateAfter c a p.state q.state → Numbers number p a e q
came_numbers number p calls.Open (answers.Opened s) e q may number_is away h k =
    let mine : s ≡ session_in e = sym (ap session_in h.0) in
    record {
      after = ap (λ (n : ℕ). Some n) mine;
      has = λ i. ap session_of k ∙ mine;
      either = inl (away may, h.0 ∙ ap Open mine);
    }
came_numbers number p calls.Close answers.Closed e q may number_is away h k =
    inner_numbers number p answers.Closed e q refl (number_is (idle_has p.state may)) (ap session_in h.0) (λ i. absurd (gone q.state k i))
came_numbers number p (calls.Look known) (answers.Looked tables) e q may number_is away h k =
    inner_numbers number p (answers.Looked tables) e q refl (number_is may.0) (ap session_in h.0) (state_number p.state q.state k)
came_numbers number p (calls.Define t) (answers.Defined (defines.Defined n)) e q may number_is away h k =
    inner_numbers number p (answers.Defined (defines.Defined n)) e q refl (number_is may.0) (ap session_in h.0) (state_number p.state q.state k)
came_numbers number p (calls.Define t) (answers.Defined (defines.Taken n)) e q may number_is away h k =
    inner_numbers number p (answers.Defined (defines.Taken n)) e q refl (number_is may.0) (ap session_in h.0) (state_number p.state q.state k)
came_numbers number p (calls.Begin level) (answers.Begun n) e q may number_is away h k =
    inner_numbers number p (answers.Begun n) e q refl (number_is (idle_has p.state may)) (ap session_in h.0) (λ i. ap session_of k)
came_numbers number p (calls.Scan table) (answers.Listed keys) e q may number_is away h k =
    inner_numbers number p (answers.Listed keys) e q refl (number_is (transaction_has p.state may.0)) (ap session_in h.0)
    (state_number p.state q.state k)
came_numbers number p (calls.Touch cell) (answers.Found value) e q may number_is away h k =
    inner_numbers number p (answers.Found value) e q refl (number_is (transaction_has p.state may.0)) (reads_session p cell value e h.0)
    (state_number p.state q.state k)
came_numbers number p (calls.Write cell value) answers.Written e q may number_is away h k =
    inner_numbers number p answers.Written e q refl (number_is (transaction_has p.state may.0)) (ap session_in h.0) (λ i. ap session_of k)
came_numbers number p calls.Commit answers.Committed e q may number_is away h k =
    inner_numbers number p answers.Committed e q refl (number_is (transaction_has p.state may)) (ap session_in h.0) (λ i. ap session_of k)
came_numbers number p calls.Rollback answers.RolledBack e q may number_is away h k =
    inner_numbers number p answers.RolledBack e q refl (number_is (transaction_has p.state may)) (ap session_in h.0) (λ i. ap session_of k)
came_numbers number p calls.Show (answers.Shown n) e q may number_is away h k =
    inner_numbers number p (answers.Shown n) e q refl (number_is may) (ap session_in h.0) (state_number p.state q.state k)
came_numbers number p _ _ e q may number_is away h k = absurd h
