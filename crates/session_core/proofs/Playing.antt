-- The calls of a book, and where they leave its session.
use Rattle.std.proofs.Common.{◌≡◌, ◌≤◌, ◌+◌, ℕ, List, [], ◌∷◌, length, refl, sym, ◌∙◌, ap, subst, arith, Some, length-append, ◌++◌, inl, inr, Ok, Err}
use Rattle.std.proofs.lemmas.List.Elements.{All-tail}
use Rattle.std.specs.Prelude.{◌⊎◌, All, true, false}
use Rattle.cell_base.specs.declared.cell.Cell.{Cell}
use Rattle.cell_base.specs.declared.cell.Cell.TheVariants.{Presence, Field}
use Rattle.cell_base.specs.declared.value.Value.{Value}
use Rattle.sql_tree.specs.declared.table.Table.{Table}
use Rattle.sound_table.specs.Sound.{IsSound}
use Rattle.history_core.specs.Events.{table_of, session_in}
use Rattle.history_core.specs.declared.event.Event.{Event}
use Rattle.history_core.specs.declared.event.Event.TheVariants.{Open, Define, Look, Own, Read}
use Rattle.history_core.specs.declared.fault.Limit.{Limit}
use Rattle.history_core.specs.declared.fault.BookFault.{BookFault}
use Rattle.history_core.specs.declared.fault.BookFault.TheVariants as faults
use Rattle.history_core.specs.declared.fault.DefineAnswer.{DefineAnswer}
use Rattle.history_core.specs.declared.fault.DefineAnswer.TheVariants as defines
use Rattle.history_core.specs.Chronicle.{Chronicle, IsFormedChronicle, IsLegalChronicle}
use Rattle.history_book.specs.Book.{AnswersTables, AnswersDefine, AnswersTouch, Past, SessionState, no_session, in_session, pending, GoesOn, IsIdle, HasSession, IsInTransaction, IsUnwritten, HasWrite, LastWrite, session_of}
use Rattle.history_core.proofs.TablesFew.{tables_few}
use Rattle.statement_course.specs.Course.{Course, scan, touch, write, done, first_demand}
use Rattle.statement_course.specs.Laws.{ReadsFirst, table_number}
use Rattle.statement_course.specs.declared.demand.Demand.{Demand}
use Rattle.statement_course.specs.declared.demand.Demand.TheVariants as demands
use Rattle.cell_compile.specs.Plans.{rest_of}
use Rattle.block_machine.specs.Calls.{Call, asks_cells, call_for}
use Rattle.block_machine.specs.Calls as calls
use Rattle.block_machine.specs.Knowledge.{Knowledge, with_tables}
use Rattle.block_machine.specs.Script.{Entry, did, refused}
use Rattle.block_machine.specs.Stages.{Fits, IsKnownAfter, IsSoundStage, KnowsTables, owed_after}
use Rattle.block_machine.specs.Stages as message_stages
use Rattle.block_machine.specs.Runners.{knowledge_of, stage_of, tables_of, wanted}
use Rattle.block_machine.specs.declared.block.Block.{Block}
use Rattle.block_machine.specs.declared.block.Block.TheVariants.{Implicit, Regular, Failed}
use Rattle.block_machine.specs.declared.block.Owed.TheVariants as owed_kinds
use Rattle.block_machine.specs.declared.call.Answer.{Answer}
use Rattle.block_machine.specs.declared.call.Answer.TheVariants as answers
use Rattle.block_machine.specs.declared.message_runner.MessageRunner.{MessageRunner}
use Rattle.block_machine.specs.declared.stage.MessageStage.{MessageStage}
use Rattle.block_machine.specs.declared.stage.MessageStage.TheVariants as message_stage
use Rattle.session_core.specs.declared.session.Session.{Session}
use Rattle.session_core.specs.declared.stage.SessionStage.{SessionStage}
use Rattle.session_core.specs.declared.stage.SessionStage.TheVariants as stages
use Rattle.session_core.specs.Wants.{of_message}
use Rattle.session_core.specs.Wants as wishes
use Rattle.session_core.specs.Record.{StateAfter, Draws, Happens, ReadsBack, ReadsFrom, may_be_refused, limit_for, HasNewName}
use Rattle.session_core.specs.Plays.{Plays, MayAsk, owed_of}
use Rattle.session_core.specs.Stands.{IsFit, owed_at, wants}
use Rattle.session_core.specs.Running.{IsAnswered, Sits}
use Rattle.session_core.proofs.ValidRecords.{Happens-leaves, Declines-goes}

-- ---- one call

-- a call that was answered
pub played : {W : Type 0} (gives : W → ℕ → W → Type 0) (p : Past) (v : W) (c d : Call) (a : Answer) (e : Event) (q : Past) (w : W) → c ≡ d →
    Plays gives p v d a e q w → (x : Event) × Plays gives p v c a x q w
played gives p v c d a e q w is h = (e, subst (λ (x : Call). Plays gives p v x a e q w) (sym is) h)

-- a call that was refused
pub declined : {W : Type 0} (gives : W → ℕ → W → Type 0) (p : Past) (v : W) (c d : Call) (why : BookFault) (q : Past) (w : W) → c ≡ d →
    may_be_refused d → GoesOn p q →
    ((limit : Limit) → why ≡ faults.Full limit → limit_for q d ≡ Some limit) →
    ((limit : Limit) → why ≡ faults.Full limit → HasNewName q d limit) → Draws gives p v d (refused why) w → (x : Event) ×
    Plays gives p v c (answers.Refused why) x q w
declined gives p v c d (faults.Full limit) q w is may goes full fresh draws = (
  Open 0,
  subst (λ (x : Call). Plays gives p v x (answers.Refused (faults.Full limit)) (Open 0) q w) (sym is)
      ((may, goes, full limit refl, fresh limit refl), draws),
)
declined gives p v c d faults.Memory q w is may goes full fresh draws =
    (Open 0, subst (λ (x : Call). Plays gives p v x (answers.Refused faults.Memory) (Open 0) q w) (sym is) ((may, goes), draws))

pub defined_plays : {W : Type 0} (gives : W → ℕ → W → Type 0) (p : Past) (v : W) (table : Table) (answer : DefineAnswer) (q : Past) →
    AnswersDefine p table answer q →
    (x : Event) × Plays gives p v (calls.Define table) (answers.Defined answer) x q v
defined_plays gives p v table (defines.Defined n) q h = (Define (session_of p.state) table.name, ((refl, h), refl))
defined_plays gives p v table (defines.Taken n) q h = (Look (session_of p.state) n, ((refl, h), refl))

-- what a look brings, with what was known, is all tables
known_all : (p q : Past) (known : ℕ) (tables : List Table) → AnswersTables p known tables q → known + length tables ≡ length q.seen.tables
known_all p q known tables a = sym (ap length a.whole ∙ length-append a.before tables ∙ ap (λ n. n + length tables) a.known_is)

sound_after : (before tables : List Table) → All IsSound (before ++ tables) → All IsSound tables
sound_after [] tables h = h
sound_after (b ∷ bs) tables h = sound_after bs tables (All-tail IsSound b (bs ++ tables) h)

formed_of : (history : Chronicle) → IsLegalChronicle history → IsFormedChronicle history
formed_of history legal = record { initial = legal.initial; formed = legal.legal.formed; tables = legal.tables }

pub look_fits : (c : Call) (p q : Past) (known : ℕ) (tables : List Table) → c ≡ calls.Look known → AnswersTables p known tables q →
    IsLegalChronicle q.seen → Fits c (answers.Looked tables)
look_fits c p q known tables is a legal =
    subst (λ (x : Call). Fits x (answers.Looked tables)) (sym is) (
      omega (arith, known_all p q known tables a, tables_few q.seen (formed_of q.seen legal)),
      sound_after a.before tables (subst (λ (ts : List Table). All IsSound ts) a.whole legal.tables.sound),
    )

-- ---- a touch of a cell

-- a touch that was answered, by an own read or by a read
pub found_plays : {W : Type 0} (gives : W → ℕ → W → Type 0) (p : Past) (v : W) (cell : Cell) (value : Value) (q : Past) (w : W) →
    AnswersTouch gives p v cell (Ok value) q w → (x : Event) × Plays gives p v (calls.Touch cell) (answers.Found value) x q w
found_plays gives p v cell value q w (inl (back, same)) = (
  Own (session_of p.state) cell value,
  ((inl (record { written = back.written; last = back.last; event_is = refl }), back.ok), inl (back.written, same)),
)
found_plays gives p v cell value q w (inr (word, drawn, read)) =
    let one = read.ok in (
      Read (session_of p.state) cell one.source one.count word value,
      (
        (inr (record { unwritten = read.unwritten; source = one.source; count = one.count; word = word; event_is = refl }), one.adds),
        inr (read.unwritten, (word, drawn, refl)),
      ),
    )

-- and what one draws that was refused
pub refused_draws : {W : Type 0} (gives : W → ℕ → W → Type 0) (p : Past) (v : W) (cell : Cell) (why : BookFault) (q : Past) (w : W) →
    AnswersTouch gives p v cell (Err why) q w → Draws gives p v (calls.Touch cell) (refused why) w
refused_draws gives p v cell why q w (inl (back, same)) = inl (back.written, same)
refused_draws gives p v cell why q w (inr (word, drawn, read)) = inr (read.unwritten, (word, drawn, tt))

-- what was read at one state was read at a state that is the same
pub reads_later : (p m : Past) (cell : Cell) (value : Value) (e : Event) → m.state ≡ p.state → ReadsBack m cell value e
    ⊎ ReadsFrom m cell value e → ReadsBack p cell value e ⊎ ReadsFrom p cell value e
reads_later p m cell value e same (inl h) = inl (record {
  written = subst (λ (s : SessionState). HasWrite cell s) same h.written;
  last = subst (λ (s : SessionState). LastWrite cell value s) same h.last;
  event_is = h.event_is ∙ ap (λ (s : SessionState). Own (session_of s) cell value) same;
})
reads_later p m cell value e same (inr h) = inr (record {
  unwritten = subst (λ (s : SessionState). IsUnwritten cell s) same h.unwritten;
  source = h.source;
  count = h.count;
  word = h.word;
  event_is = h.event_is ∙ ap (λ (s : SessionState). Read (session_of s) cell h.source h.count h.word value) same;
})

pub reads_session : (p : Past) (cell : Cell) (value : Value) (e : Event) → ReadsBack p cell value e ⊎ ReadsFrom p cell value e →
    session_in e ≡ session_of p.state
reads_session p cell value e (inl h) = ap session_in h.event_is
reads_session p cell value e (inr h) = ap session_in h.event_is

-- ---- what may be asked

in_transaction : (state : SessionState) → owed_of state ≡ owed_kinds.Rollback → IsInTransaction state
in_transaction no_session h = absurd (cc h)
in_transaction (in_session s) h = absurd (cc h)
in_transaction (pending s ws) h = tt

idle : (state : SessionState) → owed_of state ≡ owed_kinds.Close → IsIdle state
idle no_session h = absurd (cc h)
idle (in_session s) h = tt
idle (pending s ws) h = absurd (cc h)

none_away : (state : SessionState) → owed_of state ≡ owed_kinds.Nothing → state ≡ no_session
none_away no_session h = refl
none_away (in_session s) h = absurd (cc h)
none_away (pending s ws) h = absurd (cc h)

-- both words for the number of a cell's table
same_table : (cell : Cell) → table_of cell ≡ table_number cell
same_table (Presence table key) = refl
same_table (Field table key column) = refl

rollback_of : (state : SessionState) → IsInTransaction state → owed_of state ≡ owed_kinds.Rollback
rollback_of no_session h = absurd h
rollback_of (in_session s) h = absurd h
rollback_of (pending s ws) h = refl

-- the cells of a running statement may be asked for
may_ask_cells : (c : Course) (n : ℕ) (past : Past) → IsInTransaction past.state → ReadsFirst n c → n ≤ length past.seen.tables →
    asks_cells (first_demand c) ≡ true → MayAsk (call_for (first_demand c)) past
may_ask_cells (scan table next) n past t r le a = (t, omega (arith, r.0, le))
may_ask_cells (touch cell next) n past t r le a = (t, omega (arith, same_table cell, r.0, le))
may_ask_cells (write cell value next) n past t r le a = (t, r.1, omega (arith, same_table cell, r.0, le))
may_ask_cells (done outcome) n past t r le a = absurd (cc a)

book_of : (d c : Call) → calls.Book d ≡ calls.Book c → d ≡ c
book_of d c h = cc h

-- a state with a session
in_session_of : (block : Block) (state : SessionState) → owed_of state ≡ message_stages.owed_at (message_stage.Refreshing block) → HasSession state
in_session_of (Implicit false) no_session h = absurd (cc h)
in_session_of (Implicit true) no_session h = absurd (cc h)
in_session_of Regular no_session h = absurd (cc h)
in_session_of Failed no_session h = absurd (cc h)
in_session_of block (in_session s) h = tt
in_session_of block (pending s ws) h = tt

-- what a message asks may be asked where the book sits
may_ask_message : (stage : MessageStage) (known : Knowledge) (past : Past) (c : Call) → owed_of past.state ≡ message_stages.owed_at stage →
    length known.tables ≤ length past.seen.tables → KnowsTables stage known.tables → IsSoundStage stage →
    message_stages.wants stage known ≡ calls.Book c → MayAsk c past
may_ask_message (message_stage.Resting block) known past c o k t s w = absurd (cc w)
may_ask_message (message_stage.Skipping state) known past c o k t s w = absurd (cc w)
may_ask_message (message_stage.Over state) known past c o k t s w = absurd (cc w)
may_ask_message (message_stage.Refreshing block) known past c o k t s w = subst (λ (x : Call). MayAsk x past)
    (book_of (calls.Look (length known.tables)) c w) (in_session_of block past.state o, k)
may_ask_message (message_stage.Defining table block) known past c o k t s w = subst (λ (x : Call). MayAsk x past)
    (book_of (calls.Define table) c w) (in_session_of block past.state o, s)
may_ask_message (message_stage.Looking statement description block) known past c o k t s w = subst (λ (x : Call). MayAsk x past)
    (book_of (calls.Look (length known.tables)) c w) (in_session_of block past.state o, k)
may_ask_message (message_stage.Beginning plan description) known past c o k t s w = subst (λ (x : Call). MayAsk x past) (book_of (calls.Begin known.level) c w)
    (idle past.state o)
may_ask_message (message_stage.Running run p) known past c o k t s w =
    subst (λ (x : Call). MayAsk x past) (book_of (call_for (first_demand (rest_of run.plan))) c w)
    (may_ask_cells (rest_of run.plan) (length known.tables) past (in_transaction past.state o) t k run.asks)
may_ask_message (message_stage.Starting words) known past c o k t s w = subst (λ (x : Call). MayAsk x past) (book_of (calls.Begin known.level) c w)
    (idle past.state o)
may_ask_message (message_stage.Showing description block) known past c o k t s w = subst (λ (x : Call). MayAsk x past) (book_of calls.Show c w)
    (in_session_of block past.state o)
may_ask_message (message_stage.Committing reply) known past c o k t s w = subst (λ (x : Call). MayAsk x past) (book_of calls.Commit c w)
    (in_transaction past.state o)
may_ask_message (message_stage.RollingBack reply) known past c o k t s w = subst (λ (x : Call). MayAsk x past) (book_of calls.Rollback c w)
    (in_transaction past.state o)
may_ask_message (message_stage.Telling reply block) known past c o k t s w = absurd (cc w)
may_ask_message (message_stage.Undoing code p) known past c o k t s w = subst (λ (x : Call). MayAsk x past) (book_of calls.Rollback c w)
    (in_transaction past.state o)
may_ask_message (message_stage.Failing code state) known past c o k t s w = absurd (cc w)
may_ask_message (message_stage.Finishing ready) known past c o k t s w = subst (λ (x : Call). MayAsk x past) (book_of calls.Commit c w)
    (in_transaction past.state o)
may_ask_message (message_stage.Readying state) known past c o k t s w = absurd (cc w)

wish_of : (d c : Call) → wishes.Book d ≡ wishes.Book c → d ≡ c
wish_of d c h = cc h

message_wish : (w : calls.MessageWant) (c : Call) → of_message w ≡ wishes.Book c → w ≡ calls.Book c
message_wish (calls.Book d) c h = ap calls.Book (wish_of d c h)
message_wish calls.Send c h = absurd (cc h)
message_wish calls.Nothing c h = absurd (cc h)

may_ask_stage : (stage : SessionStage) (r : MessageRunner) (past : Past) (c : Call) → owed_of past.state ≡ owed_at stage r →
    length (tables_of r) ≤ length past.seen.tables → IsFit r → wants stage r ≡ wishes.Book c → MayAsk c past
may_ask_stage (stages.Waiting phase) r past c o k f w = absurd (cc w)
may_ask_stage (stages.Taking phase) r past c o k f w = absurd (cc w)
may_ask_stage stages.Opening r past c o k f w = subst (λ (x : Call). MayAsk x past) (wish_of calls.Open c w) (none_away past.state o)
may_ask_stage stages.Running r past c o k f w = may_ask_message (stage_of r) (knowledge_of r) past c o k f.knows f.sound.stage
    (message_wish (wanted r) c w)
may_ask_stage stages.Undoing r past c o k f w = subst (λ (x : Call). MayAsk x past) (wish_of calls.Rollback c w)
    (in_transaction past.state o)
may_ask_stage (stages.Telling reply) r past c o k f w = absurd (cc w)
may_ask_stage (stages.Leaving finish) r past c o k f w = subst (λ (x : Call). MayAsk x past) (wish_of calls.Rollback c w)
    (in_transaction past.state o)
may_ask_stage (stages.Closing finish) r past c o k f w = subst (λ (x : Call). MayAsk x past) (wish_of calls.Close c w) (idle past.state o)
may_ask_stage (stages.Parting fatal) r past c o k f w = absurd (cc w)
may_ask_stage (stages.Ended finish) r past c o k f w = absurd (cc w)

-- what a session asks may be asked where the book sits
pub may_ask : (s : Session) (past : Past) (c : Call) → Sits s past → wants s.stage s.runner ≡ wishes.Book c → MayAsk c past
may_ask s past c sits w = may_ask_stage s.stage s.runner past c sits.owed sits.known_tables sits.fit w

-- ---- where an answer leaves the book

state_owed : (p : Past) (c : Call) (a : Answer) (t : SessionState) → MayAsk c p → Fits c a → StateAfter c a p.state t →
    owed_of t ≡ owed_after c a (owed_of p.state)
state_owed p calls.Open (answers.Opened s) t m f h = ap owed_of h
state_owed p calls.Open (answers.Refused why) t m f h = ap owed_of h
state_owed p calls.Close answers.Closed t m f h = ap owed_of h
state_owed p (calls.Look k) (answers.Looked ts) t m f h = ap owed_of h
state_owed p (calls.Look k) (answers.Refused why) t m f h = ap owed_of h
state_owed p (calls.Define n) (answers.Defined d) t m f h = ap owed_of h
state_owed p (calls.Define n) (answers.Refused why) t m f h = ap owed_of h
state_owed p (calls.Begin level) (answers.Begun n) t m f h = ap owed_of h
state_owed p (calls.Begin level) (answers.Refused why) t m f h = ap owed_of h
state_owed p (calls.Scan n) (answers.Listed ks) t m f h = ap owed_of h
state_owed p (calls.Scan n) (answers.Refused why) t m f h = ap owed_of h
state_owed p (calls.Touch cell) (answers.Found v) t m f h = ap owed_of h
state_owed p (calls.Touch cell) (answers.Refused why) t m f h = ap owed_of h
state_owed p (calls.Write cell v) answers.Written t m f h = ap owed_of h ∙ sym (rollback_of p.state m.0)
state_owed p (calls.Write cell v) (answers.Refused why) t m f h = ap owed_of h
state_owed p calls.Commit answers.Committed t m f h = ap owed_of h
state_owed p calls.Rollback answers.RolledBack t m f h = ap owed_of h
state_owed p calls.Show (answers.Shown n) t m f h = ap owed_of h
state_owed p calls.Show (answers.Refused why) t m f h = ap owed_of h
state_owed p _ _ t m f h = absurd f

-- a look is asked from the tables that are known on
abbrev pub LooksFrom : Call → ℕ → Type 0
LooksFrom (calls.Look n) known = n ≡ known
LooksFrom _ known = Unit {0}

cells_look : (d : Demand) (known : ℕ) → LooksFrom (call_for d) known
cells_look (demands.Scan table) known = tt
cells_look (demands.Touch cell) known = tt
cells_look (demands.Write cell value) known = tt
cells_look (demands.Reply outcome) known = tt

message_look : (stage : MessageStage) (known : Knowledge) (c : Call) → message_stages.wants stage known ≡ calls.Book c →
    LooksFrom c (length known.tables)
message_look (message_stage.Resting block) known c w = absurd (cc w)
message_look (message_stage.Skipping state) known c w = absurd (cc w)
message_look (message_stage.Over state) known c w = absurd (cc w)
message_look (message_stage.Refreshing block) known c w = subst (λ (x : Call). LooksFrom x (length known.tables))
    (book_of (calls.Look (length known.tables)) c w) refl
message_look (message_stage.Defining table block) known c w = subst (λ (x : Call). LooksFrom x (length known.tables))
    (book_of (calls.Define table) c w) tt
message_look (message_stage.Looking statement description block) known c w = subst (λ (x : Call). LooksFrom x (length known.tables))
    (book_of (calls.Look (length known.tables)) c w) refl
message_look (message_stage.Beginning plan description) known c w = subst (λ (x : Call). LooksFrom x (length known.tables)) (book_of (calls.Begin known.level) c w) tt
message_look (message_stage.Running run p) known c w =
    subst (λ (x : Call). LooksFrom x (length known.tables)) (book_of (call_for (first_demand (rest_of run.plan))) c w)
    (cells_look (first_demand (rest_of run.plan)) (length known.tables))
message_look (message_stage.Starting words) known c w = subst (λ (x : Call). LooksFrom x (length known.tables)) (book_of (calls.Begin known.level) c w) tt
message_look (message_stage.Showing description block) known c w = subst (λ (x : Call). LooksFrom x (length known.tables)) (book_of calls.Show c w) tt
message_look (message_stage.Committing reply) known c w = subst (λ (x : Call). LooksFrom x (length known.tables)) (book_of calls.Commit c w) tt
message_look (message_stage.RollingBack reply) known c w = subst (λ (x : Call). LooksFrom x (length known.tables)) (book_of calls.Rollback c w) tt
message_look (message_stage.Telling reply block) known c w = absurd (cc w)
message_look (message_stage.Undoing code p) known c w = subst (λ (x : Call). LooksFrom x (length known.tables)) (book_of calls.Rollback c w) tt
message_look (message_stage.Failing code state) known c w = absurd (cc w)
message_look (message_stage.Finishing ready) known c w = subst (λ (x : Call). LooksFrom x (length known.tables)) (book_of calls.Commit c w) tt
message_look (message_stage.Readying state) known c w = absurd (cc w)

stage_look : (stage : SessionStage) (r : MessageRunner) (c : Call) → wants stage r ≡ wishes.Book c → LooksFrom c (length (tables_of r))
stage_look (stages.Waiting phase) r c w = absurd (cc w)
stage_look (stages.Taking phase) r c w = absurd (cc w)
stage_look stages.Opening r c w = subst (λ (x : Call). LooksFrom x (length (tables_of r))) (wish_of calls.Open c w) tt
stage_look stages.Running r c w = message_look (stage_of r) (knowledge_of r) c (message_wish (wanted r) c w)
stage_look stages.Undoing r c w = subst (λ (x : Call). LooksFrom x (length (tables_of r))) (wish_of calls.Rollback c w) tt
stage_look (stages.Telling reply) r c w = absurd (cc w)
stage_look (stages.Leaving finish) r c w = subst (λ (x : Call). LooksFrom x (length (tables_of r))) (wish_of calls.Rollback c w) tt
stage_look (stages.Closing finish) r c w = subst (λ (x : Call). LooksFrom x (length (tables_of r))) (wish_of calls.Close c w) tt
stage_look (stages.Parting fatal) r c w = absurd (cc w)
stage_look (stages.Ended finish) r c w = absurd (cc w)

looked_tables : (p : Past) (c : Call) (tables : List Table) (e : Event) (q : Past) (known : ℕ) → Happens p c (answers.Looked tables) e q →
    LooksFrom c known → known + length tables ≤ length q.seen.tables
looked_tables p (calls.Look n) tables e q known h l = omega (arith, known_all p q n tables h.1, l)
looked_tables p _ tables e q known h l = absurd h

grown_tables : (known : Knowledge) (tables : List Table) (after : Knowledge) (m : ℕ) → length known.tables + length tables ≤ m →
    (after ≡ known) ⊎ (after ≡ with_tables known tables) → length after.tables ≤ m
grown_tables known tables after m le (inl e) = omega (arith, le, ap (λ (k : Knowledge). length k.tables) e)
grown_tables known tables after m le (inr e) =
    omega (arith, le, ap (λ (k : Knowledge). length k.tables) e, length-append known.tables tables)

same_tables : (known after : Knowledge) (m n : ℕ) → length known.tables ≤ m → m ≤ n → after ≡ known → length after.tables ≤ n
same_tables known after m n le more e = omega (arith, le, more, ap (λ (k : Knowledge). length k.tables) e)

tables_after : {W : Type 0} (gives : W → ℕ → W → Type 0) (p : Past) (v : W) (c : Call) (a : Answer) (e : Event) (q : Past) (w : W)
    (known after : Knowledge) →
    Plays gives p v c a e q w →
    length known.tables ≤ length p.seen.tables → LooksFrom c (length known.tables) → IsKnownAfter known a after → length after.tables ≤ length q.seen.tables
tables_after gives p v c (answers.Looked tables) e q w known after h k l is = grown_tables known tables after (length q.seen.tables)
    (looked_tables p c tables e q (length known.tables) h.0 l) is
tables_after gives p v c (answers.Refused why) e q w known after h k l is =
    let goes : GoesOn p q = Declines-goes p c why q h.0 in omega
    (arith, k, ap (λ (x : Knowledge). length x.tables) is, ap length goes.tables, length-append p.seen.tables goes.more)
tables_after gives p v c (answers.Opened n) e q w known after h k l is = same_tables known after (length p.seen.tables)
    (length q.seen.tables) k (Happens-leaves p c (answers.Opened n) e q h.0).tables is
tables_after gives p v c answers.Closed e q w known after h k l is = same_tables known after (length p.seen.tables) (length q.seen.tables) k
    (Happens-leaves p c answers.Closed e q h.0).tables is
tables_after gives p v c (answers.Defined d) e q w known after h k l is = same_tables known after (length p.seen.tables)
    (length q.seen.tables) k (Happens-leaves p c (answers.Defined d) e q h.0).tables is
tables_after gives p v c (answers.Begun n) e q w known after h k l is = same_tables known after (length p.seen.tables)
    (length q.seen.tables) k (Happens-leaves p c (answers.Begun n) e q h.0).tables is
tables_after gives p v c (answers.Listed ks) e q w known after h k l is = same_tables known after (length p.seen.tables)
    (length q.seen.tables) k (Happens-leaves p c (answers.Listed ks) e q h.0).tables is
tables_after gives p v c (answers.Found x) e q w known after h k l is = same_tables known after (length p.seen.tables)
    (length q.seen.tables) k (Happens-leaves p c (answers.Found x) e q h.0).tables is
tables_after gives p v c answers.Written e q w known after h k l is = same_tables known after (length p.seen.tables) (length q.seen.tables)
    k (Happens-leaves p c answers.Written e q h.0).tables is
tables_after gives p v c answers.Committed e q w known after h k l is = same_tables known after (length p.seen.tables)
    (length q.seen.tables) k (Happens-leaves p c answers.Committed e q h.0).tables is
tables_after gives p v c answers.RolledBack e q w known after h k l is = same_tables known after (length p.seen.tables)
    (length q.seen.tables) k (Happens-leaves p c answers.RolledBack e q h.0).tables is
tables_after gives p v c (answers.Shown n) e q w known after h k l is = same_tables known after (length p.seen.tables)
    (length q.seen.tables) k (Happens-leaves p c (answers.Shown n) e q h.0).tables is

pub sits_after : {W : Type 0} (gives : W → ℕ → W → Type 0) (s next : Session) (p : Past) (v : W) (c : Call) (a : Answer) (e : Event)
    (q : Past) (w : W) →
    Sits s p → wants s.stage s.runner ≡ wishes.Book c → MayAsk c p → Fits c a → Plays gives p v c a e q w → StateAfter c a p.state q.state →
    owed_at next.stage next.runner ≡ owed_after c a (owed_at s.stage s.runner) → IsKnownAfter (knowledge_of s.runner) a (knowledge_of next.runner) →
    IsFit next.runner → Sits next q
sits_after gives s next p v c a e q w sits wants_c may fits plays state owed after_is fit = record {
  owed = state_owed p c a q.state may fits state ∙ ap (owed_after c a) sits.owed ∙ sym owed;
  known_tables = tables_after gives p v c a e q w (knowledge_of s.runner) (knowledge_of next.runner) plays sits.known_tables
      (stage_look s.stage s.runner c wants_c) after_is;
  fit = fit;
}

-- the same, where the session took the answer to the call that it wanted
pub sits_answered : {W : Type 0} (gives : W → ℕ → W → Type 0) (s next : Session) (p : Past) (v : W) (answer : Answer) (q : Past) (w : W) →
    Sits s p → IsAnswered gives s p v answer q w →
    ((c : Call) → wants s.stage s.runner ≡ wishes.Book c →
    owed_at next.stage next.runner ≡ owed_after c answer (owed_at s.stage s.runner)) →
    IsKnownAfter (knowledge_of s.runner) answer (knowledge_of next.runner) → IsFit next.runner → Sits next q
sits_answered gives s next p v answer q w sits a owed after_is fit =
    sits_after gives s next p v a.call answer a.event q w sits a.wanted_is (may_ask s p a.call sits a.wanted_is) a.fits a.plays a.state
    (owed a.call a.wanted_is) after_is fit
