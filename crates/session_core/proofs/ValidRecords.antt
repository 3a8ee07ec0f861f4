-- A valid record goes on, and its events are the book's own.
use Rattle.std.proofs.Common.{◌≡◌, ℕ, ◌≤◌, List, [], ◌∷◌, ◌++◌, length, refl, sym, ◌∙◌, ap, subst, append_assoc, arith, length-append}
use Rattle.std.proofs.lemmas.List.{append-nil}
use Rattle.history_core.specs.declared.event.Event.{Event}
use Rattle.history_core.specs.declared.fault.BookFault.{BookFault}
use Rattle.history_core.specs.declared.fault.BookFault.TheVariants as faults
use Rattle.history_core.specs.declared.fault.DefineAnswer.TheVariants as defines
use Rattle.history_book.specs.Book.{Past, Adds, GoesOn}
use Rattle.block_machine.specs.Calls.{Call}
use Rattle.block_machine.specs.Calls as calls
use Rattle.block_machine.specs.declared.call.Answer.{Answer}
use Rattle.block_machine.specs.declared.call.Answer.TheVariants as answers
use Rattle.block_machine.specs.Script.{Entry, did, refused, short, unsent, stop}
use Rattle.block_machine.specs.Stages.{entry_for}
use Rattle.session_core.specs.Record.{Happens, Declines, Draws, StateAfter, IsValidRecord, events_of}
use Rattle.session_core.specs.Plays.{Plays}
use Rattle.session_core.specs.Steps.{IsShort}

-- one more call, which was answered
pub IsValidRecord-did : {W : Type 0} (gives : W → ℕ → W → Type 0) (p : Past) (v : W) (cs : List Call) (es : List Entry) (q : Past) (w : W)
    (c : Call) (a : Answer) (e : Event) (r : Past)
    (u : W) →
    IsValidRecord gives p v cs es q w → Happens q c a e r → Draws gives q w c (did a e) u → StateAfter c a q.state r.state →
    IsValidRecord gives p v (cs ++ c ∷ []) (es ++ did a e ∷ []) r u
IsValidRecord-did {W} gives p v [] [] q w c a e r u l h d k = (
  r,
  u,
  subst (λ (x : Past). Happens x c a e r) l.0 h,
  subst (λ (x : W). Draws gives p x c (did a e) u) l.1
      (subst (λ (x : Past). Draws gives x w c (did a e) u) l.0 d),
  (refl, refl),
  subst (λ (x : Past). StateAfter c a x.state r.state) l.0 k,
)
IsValidRecord-did gives p v [] (did b y ∷ es) q w c a e r u l h d k = absurd l
IsValidRecord-did gives p v [] (refused why ∷ es) q w c a e r u l h d k = absurd l
IsValidRecord-did gives p v [] (short final n ∷ es) q w c a e r u l h d k = IsValidRecord-did gives p v [] es q w c a e r u l h d k
IsValidRecord-did gives p v [] (unsent n ∷ es) q w c a e r u l h d k = IsValidRecord-did gives p v [] es q w c a e r u l h d k
IsValidRecord-did gives p v [] (stop cause ∷ es) q w c a e r u l h d k = IsValidRecord-did gives p v [] es q w c a e r u l h d k
IsValidRecord-did gives p v (x ∷ cs) [] q w c a e r u l h d k = absurd l
IsValidRecord-did gives p v (x ∷ cs) (did b y ∷ es) q w c a e r u l h d k =
    (l.0, l.1, l.2, l.3, IsValidRecord-did gives l.0 l.1 cs es q w c a e r u l.4 h d k, l.5)
IsValidRecord-did gives p v (x ∷ cs) (refused why ∷ es) q w c a e r u l h d k =
    (l.0, l.1, l.2, l.3, IsValidRecord-did gives l.0 l.1 cs es q w c a e r u l.4 h d k)
IsValidRecord-did gives p v (x ∷ cs) (short final n ∷ es) q w c a e r u l h d k = IsValidRecord-did gives p v (x ∷ cs) es q w c a e r u l h d k
IsValidRecord-did gives p v (x ∷ cs) (unsent n ∷ es) q w c a e r u l h d k = IsValidRecord-did gives p v (x ∷ cs) es q w c a e r u l h d k
IsValidRecord-did gives p v (x ∷ cs) (stop cause ∷ es) q w c a e r u l h d k = IsValidRecord-did gives p v (x ∷ cs) es q w c a e r u l h d k

-- one more call, which was refused
pub IsValidRecord-refused : {W : Type 0} (gives : W → ℕ → W → Type 0) (p : Past) (v : W) (cs : List Call) (es : List Entry) (q : Past) (w : W)
    (c : Call) (why : BookFault) (r : Past) (u : W) →
    IsValidRecord gives p v cs es q w → Declines q c why r → Draws gives q w c (refused why) u →
    IsValidRecord gives p v (cs ++ c ∷ []) (es ++ refused why ∷ []) r u
IsValidRecord-refused {W} gives p v [] [] q w c why r u l h d = (
  r,
  u,
  subst (λ (x : Past). Declines x c why r) l.0 h,
  subst (λ (x : W). Draws gives p x c (refused why) u) l.1
      (subst (λ (x : Past). Draws gives x w c (refused why) u) l.0 d),
  (refl, refl),
)
IsValidRecord-refused gives p v [] (did b x ∷ es) q w c why r u l h d = absurd l
IsValidRecord-refused gives p v [] (refused y ∷ es) q w c why r u l h d = absurd l
IsValidRecord-refused gives p v [] (short final n ∷ es) q w c why r u l h d = IsValidRecord-refused gives p v [] es q w c why r u l h d
IsValidRecord-refused gives p v [] (unsent n ∷ es) q w c why r u l h d = IsValidRecord-refused gives p v [] es q w c why r u l h d
IsValidRecord-refused gives p v [] (stop cause ∷ es) q w c why r u l h d = IsValidRecord-refused gives p v [] es q w c why r u l h d
IsValidRecord-refused gives p v (k ∷ cs) [] q w c why r u l h d = absurd l
IsValidRecord-refused gives p v (k ∷ cs) (did b x ∷ es) q w c why r u l h d =
    (l.0, l.1, l.2, l.3, IsValidRecord-refused gives l.0 l.1 cs es q w c why r u l.4 h d, l.5)
IsValidRecord-refused gives p v (k ∷ cs) (refused y ∷ es) q w c why r u l h d =
    (l.0, l.1, l.2, l.3, IsValidRecord-refused gives l.0 l.1 cs es q w c why r u l.4 h d)
IsValidRecord-refused gives p v (k ∷ cs) (short final n ∷ es) q w c why r u l h d = IsValidRecord-refused gives p v (k ∷ cs) es q w c why r u l h d
IsValidRecord-refused gives p v (k ∷ cs) (unsent n ∷ es) q w c why r u l h d = IsValidRecord-refused gives p v (k ∷ cs) es q w c why r u l h d
IsValidRecord-refused gives p v (k ∷ cs) (stop cause ∷ es) q w c why r u l h d = IsValidRecord-refused gives p v (k ∷ cs) es q w c why r u l h d

-- an entry that no call made
abbrev pub IsQuiet : Entry → Type 0
IsQuiet (did a e) = ⊥
IsQuiet (refused why) = ⊥
IsQuiet (short final n) = Unit {0}
IsQuiet (unsent n) = Unit {0}
IsQuiet (stop cause) = Unit {0}

IsValidRecord-alone : {W : Type 0} (gives : W → ℕ → W → Type 0) (p : Past) (v : W) (cs : List Call) (q : Past) (w : W) (x : Entry) → IsQuiet x →
    IsValidRecord gives p v cs [] q w → IsValidRecord gives p v cs (x ∷ []) q w
IsValidRecord-alone gives p v [] q w (did a e) i l = absurd i
IsValidRecord-alone gives p v [] q w (refused why) i l = absurd i
IsValidRecord-alone gives p v [] q w (short final n) i l = l
IsValidRecord-alone gives p v [] q w (unsent n) i l = l
IsValidRecord-alone gives p v [] q w (stop cause) i l = l
IsValidRecord-alone gives p v (k ∷ cs) q w x i l = absurd l

pub IsValidRecord-quiet : {W : Type 0} (gives : W → ℕ → W → Type 0) (p : Past) (v : W) (cs : List Call) (es : List Entry) (q : Past) (w : W)
    (x : Entry) → IsQuiet x →
    IsValidRecord gives p v cs es q w →
    IsValidRecord gives p v cs (es ++ x ∷ []) q w
IsValidRecord-quiet gives p v cs [] q w x i l = IsValidRecord-alone gives p v cs q w x i l
IsValidRecord-quiet gives p v [] (did b y ∷ es) q w x i l = absurd l
IsValidRecord-quiet gives p v [] (refused why ∷ es) q w x i l = absurd l
IsValidRecord-quiet gives p v [] (short final n ∷ es) q w x i l = IsValidRecord-quiet gives p v [] es q w x i l
IsValidRecord-quiet gives p v [] (unsent n ∷ es) q w x i l = IsValidRecord-quiet gives p v [] es q w x i l
IsValidRecord-quiet gives p v [] (stop cause ∷ es) q w x i l = IsValidRecord-quiet gives p v [] es q w x i l
IsValidRecord-quiet gives p v (k ∷ cs) (did b y ∷ es) q w x i l = (l.0, l.1, l.2, l.3, IsValidRecord-quiet gives l.0 l.1 cs es q w x i l.4, l.5)
IsValidRecord-quiet gives p v (k ∷ cs) (refused why ∷ es) q w x i l = (l.0, l.1, l.2, l.3, IsValidRecord-quiet gives l.0 l.1 cs es q w x i l.4)
IsValidRecord-quiet gives p v (k ∷ cs) (short final n ∷ es) q w x i l = IsValidRecord-quiet gives p v (k ∷ cs) es q w x i l
IsValidRecord-quiet gives p v (k ∷ cs) (unsent n ∷ es) q w x i l = IsValidRecord-quiet gives p v (k ∷ cs) es q w x i l
IsValidRecord-quiet gives p v (k ∷ cs) (stop cause ∷ es) q w x i l = IsValidRecord-quiet gives p v (k ∷ cs) es q w x i l

-- the entries of a call's own lack of memory
pub IsValidRecord-short : {W : Type 0} (gives : W → ℕ → W → Type 0) (p : Past) (v : W) (cs : List Call) (es : List Entry) (q : Past) (w : W)
    (sent : List ℕ) (added : List Entry) →
    IsShort sent added →
    IsValidRecord gives p v cs es q w → IsValidRecord gives p v cs (es ++ added) q w
IsValidRecord-short gives p v cs es q w sent [] i l = subst (λ (x : List Entry). IsValidRecord gives p v cs x q w) (sym (append-nil es)) l
IsValidRecord-short gives p v cs es q w sent (short final n ∷ []) i l = IsValidRecord-quiet gives p v cs es q w (short final n) tt l
IsValidRecord-short gives p v cs es q w sent (short final n ∷ x ∷ xs) i l = absurd i
IsValidRecord-short gives p v cs es q w sent (did a x ∷ xs) i l = absurd i
IsValidRecord-short gives p v cs es q w sent (refused why ∷ xs) i l = absurd i
IsValidRecord-short gives p v cs es q w sent (unsent n ∷ xs) i l = absurd i
IsValidRecord-short gives p v cs es q w sent (stop cause ∷ xs) i l = absurd i

pub IsValidRecord-plays : {W : Type 0} (gives : W → ℕ → W → Type 0) (p : Past) (v : W) (cs : List Call) (es : List Entry) (q : Past) (w : W)
    (c : Call) (a : Answer) (e : Event) (r : Past)
    (u : W) →
    IsValidRecord gives p v cs es q w → Plays gives q w c a e r u → StateAfter c a q.state r.state →
    IsValidRecord gives p v (cs ++ c ∷ []) (es ++ entry_for a e ∷ []) r u
IsValidRecord-plays gives p v cs es q w c (answers.Refused why) e r u l h k = IsValidRecord-refused gives p v cs es q w c why r u l h.0 h.1
IsValidRecord-plays gives p v cs es q w c (answers.Opened n) e r u l h k = IsValidRecord-did gives p v cs es q w c (answers.Opened n) e r u l h.0 h.1 k
IsValidRecord-plays gives p v cs es q w c answers.Closed e r u l h k = IsValidRecord-did gives p v cs es q w c answers.Closed e r u l h.0 h.1 k
IsValidRecord-plays gives p v cs es q w c (answers.Looked ts) e r u l h k = IsValidRecord-did gives p v cs es q w c (answers.Looked ts) e r u l h.0 h.1 k
IsValidRecord-plays gives p v cs es q w c (answers.Defined d) e r u l h k = IsValidRecord-did gives p v cs es q w c (answers.Defined d) e r u l h.0 h.1 k
IsValidRecord-plays gives p v cs es q w c (answers.Begun n) e r u l h k = IsValidRecord-did gives p v cs es q w c (answers.Begun n) e r u l h.0 h.1 k
IsValidRecord-plays gives p v cs es q w c (answers.Listed ks) e r u l h k = IsValidRecord-did gives p v cs es q w c (answers.Listed ks) e r u l h.0 h.1 k
IsValidRecord-plays gives p v cs es q w c (answers.Found x) e r u l h k = IsValidRecord-did gives p v cs es q w c (answers.Found x) e r u l h.0 h.1 k
IsValidRecord-plays gives p v cs es q w c answers.Written e r u l h k = IsValidRecord-did gives p v cs es q w c answers.Written e r u l h.0 h.1 k
IsValidRecord-plays gives p v cs es q w c answers.Committed e r u l h k = IsValidRecord-did gives p v cs es q w c answers.Committed e r u l h.0 h.1 k
IsValidRecord-plays gives p v cs es q w c answers.RolledBack e r u l h k = IsValidRecord-did gives p v cs es q w c answers.RolledBack e r u l h.0 h.1 k
IsValidRecord-plays gives p v cs es q w c (answers.Shown n) e r u l h k = IsValidRecord-did gives p v cs es q w c (answers.Shown n) e r u l h.0 h.1 k

-- an entry that no call made may stand before
quiet_before : {W : Type 0} (gives : W → ℕ → W → Type 0) (p : Past) (v : W) (cs : List Call) (es : List Entry) (q : Past) (w : W) (x : Entry) →
    IsQuiet x → IsValidRecord gives p v cs es q w → IsValidRecord gives p v cs (x ∷ es) q w
quiet_before gives p v cs es q w (did a e) i l = absurd i
quiet_before gives p v cs es q w (refused why) i l = absurd i
quiet_before gives p v [] es q w (short final n) i l = l
quiet_before gives p v (c ∷ cs) es q w (short final n) i l = l
quiet_before gives p v [] es q w (unsent n) i l = l
quiet_before gives p v (c ∷ cs) es q w (unsent n) i l = l
quiet_before gives p v [] es q w (stop cause) i l = l
quiet_before gives p v (c ∷ cs) es q w (stop cause) i l = l

-- two valid records, the second from where the first leads to
pub IsValidRecord-append : {W : Type 0} (gives : W → ℕ → W → Type 0) (p : Past) (v : W) (cs : List Call) (es : List Entry) (m : Past) (u : W)
    (ds : List Call) (fs : List Entry) (q : Past) (w : W) → IsValidRecord gives p v cs es m u → IsValidRecord gives m u ds fs q w →
    IsValidRecord gives p v (cs ++ ds) (es ++ fs) q w
IsValidRecord-append {W} gives p v [] [] m u ds fs q w l k =
    subst (λ (x : Past). IsValidRecord gives x v ds fs q w) l.0 (subst (λ (x : W). IsValidRecord gives m x ds fs q w) l.1 k)
IsValidRecord-append gives p v [] (did b y ∷ es) m u ds fs q w l k = absurd l
IsValidRecord-append gives p v [] (refused why ∷ es) m u ds fs q w l k = absurd l
IsValidRecord-append gives p v [] (short final n ∷ es) m u ds fs q w l k =
    quiet_before gives p v ds (es ++ fs) q w (short final n) tt (IsValidRecord-append gives p v [] es m u ds fs q w l k)
IsValidRecord-append gives p v [] (unsent n ∷ es) m u ds fs q w l k =
    quiet_before gives p v ds (es ++ fs) q w (unsent n) tt (IsValidRecord-append gives p v [] es m u ds fs q w l k)
IsValidRecord-append gives p v [] (stop cause ∷ es) m u ds fs q w l k =
    quiet_before gives p v ds (es ++ fs) q w (stop cause) tt (IsValidRecord-append gives p v [] es m u ds fs q w l k)
IsValidRecord-append gives p v (x ∷ cs) [] m u ds fs q w l k = absurd l
IsValidRecord-append gives p v (x ∷ cs) (did b y ∷ es) m u ds fs q w l k =
    (l.0, l.1, l.2, l.3, IsValidRecord-append gives l.0 l.1 cs es m u ds fs q w l.4 k, l.5)
IsValidRecord-append gives p v (x ∷ cs) (refused why ∷ es) m u ds fs q w l k =
    (l.0, l.1, l.2, l.3, IsValidRecord-append gives l.0 l.1 cs es m u ds fs q w l.4 k)
IsValidRecord-append gives p v (x ∷ cs) (short final n ∷ es) m u ds fs q w l k =
    IsValidRecord-append gives p v (x ∷ cs) es m u ds fs q w l k
IsValidRecord-append gives p v (x ∷ cs) (unsent n ∷ es) m u ds fs q w l k = IsValidRecord-append gives p v (x ∷ cs) es m u ds fs q w l k
IsValidRecord-append gives p v (x ∷ cs) (stop cause ∷ es) m u ds fs q w l k =
    IsValidRecord-append gives p v (x ∷ cs) es m u ds fs q w l k

-- what an answered call leaves of the level, the initial state, the own events and the tables
pub record Leaves (p q : Past) (e : Event) : Type 0 where
  pub level : q.seen.level ≡ p.seen.level
  pub initial : q.seen.initial ≡ p.seen.initial
  pub own : q.own ≡ p.own ++ e ∷ []
  pub tables : length p.seen.tables ≤ length q.seen.tables

leaves_of : (p q : Past) (x e : Event) → e ≡ x → Adds p x q → Leaves p q e
leaves_of p q x e is adds = record {
  level = adds.level;
  initial = adds.initial;
  own = adds.own ∙ ap (λ y. p.own ++ y ∷ []) (sym is);
  tables = omega (arith, ap length adds.tables, length-append p.seen.tables adds.more);
}

pub Happens-leaves : (p : Past) (c : Call) (a : Answer) (e : Event) (q : Past) → Happens p c a e q → Leaves p q e
Happens-leaves p calls.Open (answers.Opened s) e q h = leaves_of p q e e refl h.1
Happens-leaves p calls.Close answers.Closed e q h = leaves_of p q e e refl h.1
Happens-leaves p (calls.Look known) (answers.Looked tables) e q h = leaves_of p q _ e h.0 h.1.adds
Happens-leaves p (calls.Define t) (answers.Defined (defines.Defined n)) e q h = leaves_of p q _ e h.0 h.1.3
Happens-leaves p (calls.Define t) (answers.Defined (defines.Taken n)) e q h = leaves_of p q _ e h.0 h.1.2
Happens-leaves p (calls.Begin level) (answers.Begun n) e q h = leaves_of p q e e refl h.1
Happens-leaves p (calls.Scan table) (answers.Listed keys) e q h = leaves_of p q e e refl h.1
Happens-leaves p (calls.Touch cell) (answers.Found value) e q h = leaves_of p q e e refl h.1
Happens-leaves p (calls.Write cell value) answers.Written e q h = leaves_of p q e e refl h.1
Happens-leaves p calls.Commit answers.Committed e q h = leaves_of p q e e refl h.1
Happens-leaves p calls.Rollback answers.RolledBack e q h = leaves_of p q e e refl h.1
Happens-leaves p calls.Show (answers.Shown n) e q h = leaves_of p q e e refl h.1
Happens-leaves p _ _ e q h = absurd h

pub Declines-goes : (p : Past) (c : Call) (why : BookFault) (q : Past) → Declines p c why q → GoesOn p q
Declines-goes p c (faults.Full limit) q h = h.1
Declines-goes p c faults.Memory q h = h.1

pub own_events : {W : Type 0} (gives : W → ℕ → W → Type 0) (p : Past) (v : W) (cs : List Call) (es : List Entry) (q : Past) (w : W) →
    IsValidRecord gives p v cs es q w → q.own ≡ p.own ++ events_of es
own_events gives p v [] [] q w l = ap (λ (x : Past). x.own) l.0 ∙ sym (append-nil p.own)
own_events gives p v (c ∷ cs) [] q w l = absurd l
own_events gives p v [] (did a e ∷ es) q w l = absurd l
own_events gives p v [] (refused why ∷ es) q w l = absurd l
own_events gives p v [] (short final n ∷ es) q w l = own_events gives p v [] es q w l
own_events gives p v [] (unsent n ∷ es) q w l = own_events gives p v [] es q w l
own_events gives p v [] (stop cause ∷ es) q w l = own_events gives p v [] es q w l
own_events gives p v (c ∷ cs) (did a e ∷ es) q w l =
    own_events gives l.0 l.1 cs es q w l.4 ∙ ap (λ x. x ++ events_of es) (Happens-leaves p c a e l.0 l.2).own
    ∙ append_assoc p.own (e ∷ []) (events_of es)
own_events gives p v (c ∷ cs) (refused why ∷ es) q w l =
    own_events gives l.0 l.1 cs es q w l.4 ∙ ap (λ x. x ++ events_of es) (Declines-goes p c why l.0 l.2).own
own_events gives p v (c ∷ cs) (short final n ∷ es) q w l = own_events gives p v (c ∷ cs) es q w l
own_events gives p v (c ∷ cs) (unsent n ∷ es) q w l = own_events gives p v (c ∷ cs) es q w l
own_events gives p v (c ∷ cs) (stop cause ∷ es) q w l = own_events gives p v (c ∷ cs) es q w l

-- a history keeps its level and its initial state
pub record KeepsStart (p q : Past) : Type 0 where
  pub level : q.seen.level ≡ p.seen.level
  pub initial : q.seen.initial ≡ p.seen.initial

keeps_on : (p m q : Past) → m.seen.level ≡ p.seen.level → m.seen.initial ≡ p.seen.initial → KeepsStart m q → KeepsStart p q
keeps_on p m q level initial keeps = record { level = keeps.level ∙ level; initial = keeps.initial ∙ initial }

pub keeps_start : {W : Type 0} (gives : W → ℕ → W → Type 0) (p : Past) (v : W) (cs : List Call) (es : List Entry) (q : Past) (w : W) →
    IsValidRecord gives p v cs es q w → KeepsStart p q
keeps_start gives p v [] [] q w l =
    record { level = ap (λ (x : Past). x.seen.level) l.0; initial = ap (λ (x : Past). x.seen.initial) l.0 }
keeps_start gives p v (c ∷ cs) [] q w l = absurd l
keeps_start gives p v [] (did a e ∷ es) q w l = absurd l
keeps_start gives p v [] (refused why ∷ es) q w l = absurd l
keeps_start gives p v [] (short final n ∷ es) q w l = keeps_start gives p v [] es q w l
keeps_start gives p v [] (unsent n ∷ es) q w l = keeps_start gives p v [] es q w l
keeps_start gives p v [] (stop cause ∷ es) q w l = keeps_start gives p v [] es q w l
keeps_start gives p v (c ∷ cs) (did a e ∷ es) q w l =
    let leaves = Happens-leaves p c a e l.0 l.2 in
    keeps_on p l.0 q leaves.level leaves.initial (keeps_start gives l.0 l.1 cs es q w l.4)
keeps_start gives p v (c ∷ cs) (refused why ∷ es) q w l =
    let goes = Declines-goes p c why l.0 l.2 in keeps_on p l.0 q goes.level goes.initial (keeps_start gives l.0 l.1 cs es q w l.4)
keeps_start gives p v (c ∷ cs) (short final n ∷ es) q w l = keeps_start gives p v (c ∷ cs) es q w l
keeps_start gives p v (c ∷ cs) (unsent n ∷ es) q w l = keeps_start gives p v (c ∷ cs) es q w l
keeps_start gives p v (c ∷ cs) (stop cause ∷ es) q w l = keeps_start gives p v (c ∷ cs) es q w l
