-- What is known of an answer and its event from the events before them, the state, the words and the tables that are defined at the end.
use Rattle.std.proofs.Common.{◌≡◌, ℕ, ◌+◌, List, [], ◌∷◌, ◌++◌, length, take, drop, refl, ap, sym, ◌∙◌, subst, inl, inr, ◌⊎◌}
use Rattle.std.specs.List.{Contains}
use Rattle.std.proofs.lemmas.List.{take_at, drop_at}
use Rattle.cell_base.specs.declared.cell.Cell.{Cell}
use Rattle.cell_base.specs.declared.key.Key.{Key}
use Rattle.cell_base.specs.declared.value.Value.{Value}
use Rattle.sql_tree.specs.declared.table.Table.{Table}
use Rattle.history_core.specs.declared.event.Event.{Event}
use Rattle.history_core.specs.declared.event.Event.TheVariants.{Open, Close, Define, Look, Begin, Scan, Read, Own, Write, Commit, Rollback, Show}
use Rattle.history_core.specs.declared.fault.DefineAnswer.TheVariants as defines
use Rattle.history_core.specs.Events.{names, defined, opened, begun}
use Rattle.history_core.specs.Initial.{IsInitialState}
use Rattle.history_core.specs.Relations.{WritesValue}
use Rattle.history_core.specs.Legal.{Follows, IsOffered, ListsKeys}
use Rattle.history_core.specs.Chronicle.{IsLegalChronicle}
use Rattle.history_book.specs.Book.{Past, SessionState, session_of, HasWrite, IsUnwritten, LastWrite}
use Rattle.history_core.proofs.KeptLemmas.{names-push}
use Rattle.block_machine.specs.Calls.{Call}
use Rattle.block_machine.specs.Calls as calls
use Rattle.block_machine.specs.declared.call.Answer.{Answer}
use Rattle.block_machine.specs.declared.call.Answer.TheVariants as answers
use Rattle.block_machine.specs.Script.{did}
use Rattle.session_core.specs.Record.{Happens, Draws, HoldsWord, ReadsBack, ReadsFrom}
use Rattle.choice_stream.specs.Choices.{DrawsFirst}
use Rattle.program_laws.proofs.Leads.{Leads, Made}
use Rattle.program_laws.proofs.Names.{placed}
use Rattle.program_laws.proofs.Values.{not_both}

-- ---- what a touch finds

-- the own write that was last
pub record Back (state : SessionState) (words : List ℕ) (cell : Cell) (value : Value) (e : Event) (after : List ℕ) : Type 0 where
  pub written : HasWrite cell state
  pub last : LastWrite cell value state
  pub event : e ≡ Own (session_of state) cell value
  pub words_are : after ≡ words

-- a write that was offered
pub record From (initial : List (Cell × Value)) (events : List Event) (state : SessionState) (words : List ℕ) (cell : Cell) (value : Value) (e : Event) (after : List ℕ) : Type 0 where
  pub unwritten : IsUnwritten cell state
  pub source : ℕ
  pub count : ℕ
  pub word : ℕ
  pub event : e ≡ Read (session_of state) cell source count word value
  pub drawn : DrawsFirst words word after
  pub is_state : IsInitialState initial
  pub offered : IsOffered events (Read (session_of state) cell source count word value)
  pub writes : WritesValue initial events source cell value

-- what a definition comes to
pub record News (events : List Event) (state : SessionState) (table : Table) (a : Answer) (e : Event) : Type 0 where
  pub new : ¬ (Contains (names events) table.name)
  pub answer : a ≡ answers.Defined (defines.Defined (defined events))
  pub event : e ≡ Define (session_of state) table.name

pub record Olds (events : List Event) (state : SessionState) (table : Table) (a : Answer) (e : Event) : Type 0 where
  pub old : Contains (names events) table.name
  pub answer : a ≡ answers.Defined (defines.Taken (defined events))
  pub event : e ≡ Look (session_of state) (defined events)

-- the tables that are defined, and what each call then comes to
abbrev pub Known : List (Cell × Value) → List Event → SessionState → List Table → List ℕ → Call → Answer → Event → List ℕ → Type 0
Known initial events state tables words calls.Open a e after =
    (a ≡ answers.Opened (opened events + 1)) × (e ≡ Open (opened events + 1)) × (after ≡ words)
Known initial events state tables words calls.Close a e after = (a ≡ answers.Closed) × (e ≡ Close (session_of state)) × (after ≡ words)
Known initial events state tables words (calls.Look known) a e after =
    (a ≡ answers.Looked (drop known tables)) × (e ≡ Look (session_of state) (defined events)) × (after ≡ words)
Known initial events state tables words (calls.Define table) a e after =
    (News events state table a e ⊎ Olds events state table a e) × (after ≡ words)
Known initial events state tables words (calls.Begin level) a e after =
    (a ≡ answers.Begun (begun (events ++ Begin (session_of state) level ∷ []))) × (e ≡ Begin (session_of state) level) × (after ≡ words)
Known initial events state tables words (calls.Scan table) a e after =
    (keys : List Key) × ListsKeys initial events (session_of state) table keys × (a ≡ answers.Listed keys) × (e ≡ Scan (session_of state) table keys) × (after ≡ words)
Known initial events state tables words (calls.Touch cell) a e after =
    (value : Value) × (a ≡ answers.Found value) × (Back state words cell value e after ⊎ From initial events state words cell value e after)
Known initial events state tables words (calls.Write cell value) a e after =
    (a ≡ answers.Written) × (e ≡ Write (session_of state) cell value) × (after ≡ words)
Known initial events state tables words calls.Commit a e after = (a ≡ answers.Committed) × (e ≡ Commit (session_of state)) × (after ≡ words)
Known initial events state tables words calls.Rollback a e after = (a ≡ answers.RolledBack) × (e ≡ Rollback (session_of state)) × (after ≡ words)
Known initial events state tables words calls.Show a e after =
    (a ≡ answers.Shown (length events + 1)) × (e ≡ Show (session_of state) (length events + 1)) × (after ≡ words)

-- ---- it is known

-- what is known on the way from one past over an answer to the end
pub record Way (p m q : Past) (e : Event) : Type 0 where
  pub made : Made p m e
  pub level : m.seen.level ≡ p.seen.level
  pub initial : m.seen.initial ≡ p.seen.initial
  pub legal : IsLegalChronicle q.seen
  pub leads : Leads m q

follows_of : (p m : Past) (e f : Event) → Made p m e → e ≡ f → Follows p.seen.initial p.seen.events f
follows_of p m e f made is = subst (λ (x : Event). Follows p.seen.initial p.seen.events x) is made.may.follows

word_held : (s : ℕ) (cell : Cell) (source count word : ℕ) (value : Value) (e : Event) (drawn : ℕ) → e ≡ Read s cell source count word value →
    HoldsWord (did (answers.Found value) e) drawn → word ≡ drawn
word_held s cell source count word value e drawn is holds =
    subst (λ (x : Event). HoldsWord (did (answers.Found value) x) drawn) is holds

touched : (p m q : Past) (v u : List ℕ) (cell : Cell) (value : Value) (e : Event) → Way p m q e →
    ReadsBack p cell value e ⊎ ReadsFrom p cell value e → Draws DrawsFirst p v (calls.Touch cell) (did (answers.Found value) e) u →
    Back p.state v cell value e u ⊎ From p.seen.initial p.seen.events p.state v cell value e u
touched p m q v u cell value e way (inl back) (inl same) = inl record { written = back.written; last = back.last; event = back.event_is; words_are = same.1 }
touched p m q v u cell value e way (inl back) (inr drawn) = absurd (not_both cell p.state back.written drawn.0)
touched p m q v u cell value e way (inr from) (inl same) = absurd (not_both cell p.state same.0 from.unwritten)
touched p m q v u cell value e way (inr from) (inr drawn) =
    let follows = follows_of p m e (Read (session_of p.state) cell from.source from.count from.word value) way.made from.event_is in
    let word : from.word ≡ drawn.1.0 = word_held (session_of p.state) cell from.source from.count from.word value e drawn.1.0 from.event_is drawn.1.2 in
    inr record {
      unwritten = from.unwritten;
      source = from.source;
      count = from.count;
      word = from.word;
      event = from.event_is;
      drawn = subst (λ (w : ℕ). DrawsFirst v w u) (sym word) drawn.1.1;
      is_state = subst (λ (cells : List (Cell × Value)). IsInitialState cells) (way.leads.initial ∙ way.initial) way.legal.initial;
      offered = subst (λ (x : Event). IsOffered p.seen.events x) from.event_is way.made.offered;
      writes = follows.3;
    }

defined_as : (p m q : Past) (s : ℕ) (table : Table) (before : List Table) (n : ℕ) (e : Event) → Way p m q e → s ≡ session_of p.state →
    e ≡ Define (session_of p.state) table.name → m.seen.tables ≡ before ++ table ∷ [] → length before ≡ n →
    News p.seen.events p.state table (answers.Defined (defines.Defined n)) e
defined_as p m q s table before n e way here is tables count =
    let seen : m.seen.events ≡ p.seen.events ++ Define (session_of p.state) table.name ∷ [] =
    way.made.seen ∙ ap (λ (x : Event). p.seen.events ++ x ∷ []) is in
    let at = placed p m q (session_of p.state) table before way.legal way.leads seen tables in
    record {
      new = (follows_of p m e (Define (session_of p.state) table.name) way.made is).1;
      answer = ap (λ (k : ℕ). answers.Defined (defines.Defined k)) (sym count ∙ at.place);
      event = is;
    }

taken_as : (p m q : Past) (table : Table) (n : ℕ) (e : Event) → Way p m q e → e ≡ Look (session_of p.state) n →
    Contains (names m.seen.events) table.name → Olds p.seen.events p.state table (answers.Defined (defines.Taken n)) e
taken_as p m q table n e way is there =
    let count : n ≡ defined p.seen.events = (follows_of p m e (Look (session_of p.state) n) way.made is).1 in
    let names_are : names m.seen.events ≡ names p.seen.events =
    ap names (way.made.seen ∙ ap (λ (x : Event). p.seen.events ++ x ∷ []) is) ∙ names-push p.seen.events (Look (session_of p.state) n) refl in
    record {
      old = subst (λ (ns : List (List ℕ)). Contains ns table.name) names_are there;
      answer = ap (λ (k : ℕ). answers.Defined (defines.Taken k)) count;
      event = is ∙ ap (λ (k : ℕ). Look (session_of p.state) k) count;
    }

-- the tables that a look shows are those that are defined, but for the known ones
looked_as : (p m q : Past) (known : ℕ) (tables before : List Table) (e : Event) → Way p m q e → e ≡ Look (session_of p.state) (length m.seen.tables) →
    m.seen.tables ≡ before ++ tables → length before ≡ known → tables ≡ drop known (take (defined p.seen.events) q.seen.tables)
looked_as p m q known tables before e way is whole count =
    let many : length m.seen.tables ≡ defined p.seen.events =
    (follows_of p m e (Look (session_of p.state) (length m.seen.tables)) way.made is).1 in
    let front : take (defined p.seen.events) q.seen.tables ≡ m.seen.tables =
    ap (λ (ts : List Table). take (defined p.seen.events) ts) way.leads.tables
    ∙ take_at m.seen.tables way.leads.more (defined p.seen.events) many in
    let cut : drop known (before ++ tables) ≡ tables = drop_at before tables known count in
    sym (ap (λ (ts : List Table). drop known ts) (front ∙ whole) ∙ cut)

pub known : (p m q : Past) (v u : List ℕ) (c : Call) (a : Answer) (e : Event) → Way p m q e → Happens p c a e m → Draws DrawsFirst p v c (did a e) u →
    Known p.seen.initial p.seen.events p.state (take (defined p.seen.events) q.seen.tables) v c a e u
known p m q v u calls.Open (answers.Opened s) e way h d =
    let number : s ≡ opened p.seen.events + 1 = follows_of p m e (Open s) way.made h.0 in
    (ap (λ (k : ℕ). answers.Opened k) number, h.0 ∙ ap (λ (k : ℕ). Open k) number, d)
known p m q v u calls.Close answers.Closed e way h d = (refl, h.0, d)
known p m q v u (calls.Look many) (answers.Looked tables) e way h d = (
  ap (λ (ts : List Table). answers.Looked ts) (looked_as p m q many tables h.1.before e way h.0 h.1.whole h.1.known_is),
  h.0 ∙ ap (λ (k : ℕ). Look (session_of p.state) k) (follows_of p m e (Look (session_of p.state) (length m.seen.tables)) way.made h.0).1,
  d,
)
known p m q v u (calls.Define t) (answers.Defined (defines.Defined n)) e way h d =
    (inl (defined_as p m q (session_of p.state) t h.1.0 n e way refl h.0 h.1.1 h.1.2), d)
known p m q v u (calls.Define t) (answers.Defined (defines.Taken n)) e way h d = (inr (taken_as p m q t n e way h.0 h.1.1), d)
known p m q v u (calls.Begin level) (answers.Begun n) e way h d = (
  ap (λ (k : ℕ). answers.Begun k) (h.2 ∙ ap begun (way.made.seen ∙ ap (λ (x : Event). p.seen.events ++ x ∷ []) h.0)),
  h.0,
  d,
)
known p m q v u (calls.Scan table) (answers.Listed keys) e way h d =
    (keys, (follows_of p m e (Scan (session_of p.state) table keys) way.made h.0).2, refl, h.0, d)
known p m q v u (calls.Touch cell) (answers.Found value) e way h d = (value, refl, touched p m q v u cell value e way h.0 d)
known p m q v u (calls.Write cell value) answers.Written e way h d = (refl, h.0, d)
known p m q v u calls.Commit answers.Committed e way h d = (refl, h.0, d)
known p m q v u calls.Rollback answers.RolledBack e way h d = (refl, h.0, d)
known p m q v u calls.Show (answers.Shown n) e way h d =
    let number : n ≡ length p.seen.events + 1 = (follows_of p m e (Show (session_of p.state) n) way.made h.0).1 in
    (ap (λ (k : ℕ). answers.Shown k) number, h.0 ∙ ap (λ (k : ℕ). Show (session_of p.state) k) number, d)
known p m q v u _ _ e way h d = absurd h
