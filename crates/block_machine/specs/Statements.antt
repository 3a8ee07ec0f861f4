-- One statement: what it asks of the book, what is told of it, and in which block it leaves the session, by the block in which it stands
-- (PostgreSQL's documentation, "Multiple Statements in a Simple Query", and "BEGIN", "COMMIT", "ROLLBACK", "SET", "SHOW").
use Rattle.std.specs.Prelude.{ℕ, List, [], ◌∷◌, ◌++◌, length, if◌then◌else◌, Bool, true, false, Option, Some, None, Ok, Err}
use Rattle.std.specs.Fmt.{decimal}
use Rattle.std.specs.Str.{bytes_eq}
use Rattle.cell_base.specs.declared.level.Level.{Level}
use Rattle.cell_base.specs.declared.sql_state.SqlState.{SqlState}
use Rattle.cell_base.specs.declared.sql_state.SqlState.TheVariants as states
use Rattle.history_core.specs.declared.fault.BookFault.{BookFault}
use Rattle.history_core.specs.declared.fault.BookFault.TheVariants as faults
use Rattle.pg_framing.specs.declared.replies.TransactionState.{TransactionState}
use Rattle.pg_framing.specs.declared.replies.TransactionState.TheVariants as ready
use Rattle.sql_tree.specs.declared.statement.Statement.{Statement}
use Rattle.sql_tree.specs.declared.statement.Statement.TheVariants as tree
use Rattle.sql_tree.specs.declared.statement.TableRef.{TableRef}
use Rattle.sql_tree.specs.declared.table.Table.{Table}
use Rattle.sql_tree.specs.declared.typed.Typed.{Typed}
use Rattle.typing_rules.specs.Outcome.{Outcome as Result}
use Rattle.typing_rules.specs.Building.{built}
use Rattle.typing_rules.specs.Typed.{typed}
use Rattle.statement_course.specs.declared.demand.Outcome.{Outcome}
use Rattle.statement_course.specs.declared.demand.Outcome.TheVariants as outcomes
use Rattle.statement_course.specs.Course.{Course, scan, touch, write, done}
use Rattle.statement_course.specs.Statements.{course_of}
use Rattle.outcome_replies.specs.Replies.{outcome_reply}
use Rattle.outcome_replies.specs.declared.description.RowDescription.{RowDescription}
use Rattle.block_machine.specs.Calls as calls
use Rattle.block_machine.specs.Knowledge.{Knowledge, with_tables, with_level}
use Rattle.block_machine.specs.Settings.{is_own, history_name, level_name, chosen_level, value_of}
use Rattle.block_machine.specs.Replies.{error_reply, created_reply, set_reply, commit_reply, rollback_reply, needless_commit_reply, needless_rollback_reply, start_reply, needless_start_reply, show_reply}
use Rattle.block_machine.specs.Script.{Script, lost, ask, tell, unless_short, on_looked, on_defined, on_begun, on_listed, on_found, on_written, on_shown}
use Rattle.block_machine.specs.declared.block.Block.{Block}
use Rattle.block_machine.specs.declared.block.Block.TheVariants.{Implicit, Regular, Failed}
use Rattle.block_machine.specs.declared.block.Owed.{Owed}
use Rattle.block_machine.specs.declared.block.Owed.TheVariants as owes

-- What follows a statement. Where it succeeded, that is by the block in which it leaves the session and what the session then knows;
-- where it failed, by the state in which it leaves the session and what the session then knows; where its reply could not be sent, by
-- what the session owes.
pub record Around : Type 0 where
  pub succeeded : Block → Knowledge → Script
  pub failed : TransactionState → Knowledge → Script
  pub broken : Owed → Script

-- a pending transaction is rolled back before the session is closed
abbrev pub owed_in : Block → Owed
owed_in (Implicit false) = owes.Close
owed_in (Implicit true) = owes.Rollback
owed_in Regular = owes.Rollback
owed_in Failed = owes.Close

-- a statement that succeeds is told this reply
abbrev pub succeeds : List ℕ → Block → Knowledge → Around → Script
succeeds reply block known around = tell reply (around.broken (owed_in block)) (around.succeeded block known)

-- ErrorResponse, where no transaction is pending, and what follows a statement that failed
abbrev pub refused_with : SqlState → TransactionState → Knowledge → Around → Script
refused_with code state known around = tell (error_reply code) (around.broken owes.Close) (around.failed state known)

-- A statement that fails: the transaction that is pending is rolled back first, and then ErrorResponse is told. A regular block is then
-- failed.
abbrev pub fails : SqlState → Block → Knowledge → Around → Script
fails code (Implicit false) known around = refused_with code ready.Idle known around
fails code (Implicit true) known around = ask calls.Rollback (λ _. refused_with code ready.Idle known around)
fails code Regular known around = ask calls.Rollback (λ _. refused_with code ready.Failed known around)
fails code Failed known around = refused_with code ready.Failed known around

-- the code of a statement whose call was refused
abbrev pub refusal_state : BookFault → SqlState
refusal_state (faults.Full limit) = states.S54000
refusal_state faults.Memory = states.S53200

-- a statement whose call was refused
abbrev pub declined : Block → Knowledge → Around → BookFault → Script
declined block known around why = fails (refusal_state why) block known around

-- the session itself is out of memory in a statement
abbrev pub unless_short_in : Block → Knowledge → Around → Script → Script
unless_short_in block known around rest = unless_short false (fails states.S53200 block known around) rest

-- ---- BEGIN, COMMIT, ROLLBACK: one for each block

-- BEGIN, and START TRANSACTION where the flag is true: a transaction at the session's level. One that the message has begun goes on in
-- the block.
abbrev pub starts : Bool → Block → Knowledge → Around → Script
starts start (Implicit false) known around =
    ask (calls.Begin known.level) (λ a. on_begun a (succeeds (start_reply start) Regular known around) (declined (Implicit false) known around))
starts start (Implicit true) known around = succeeds (start_reply start) Regular known around
starts start Regular known around = succeeds (needless_start_reply start) Regular known around
starts start Failed known around = fails states.S25P02 Failed known around

-- COMMIT, END. Of a failed block nothing is left to commit, and its reply is that of ROLLBACK.
abbrev pub commits : Block → Knowledge → Around → Script
commits (Implicit false) known around = succeeds needless_commit_reply (Implicit false) known around
commits (Implicit true) known around = ask calls.Commit (λ _. succeeds needless_commit_reply (Implicit false) known around)
commits Regular known around = ask calls.Commit (λ _. succeeds commit_reply (Implicit false) known around)
commits Failed known around = succeeds rollback_reply (Implicit false) known around

-- ROLLBACK, ABORT
abbrev pub rolls_back : Block → Knowledge → Around → Script
rolls_back (Implicit false) known around = succeeds needless_rollback_reply (Implicit false) known around
rolls_back (Implicit true) known around = ask calls.Rollback (λ _. succeeds needless_rollback_reply (Implicit false) known around)
rolls_back Regular known around = ask calls.Rollback (λ _. succeeds rollback_reply (Implicit false) known around)
rolls_back Failed known around = succeeds rollback_reply (Implicit false) known around

-- ---- CREATE TABLE

-- A table that is built is defined at once, whatever becomes of the block. Where its name is taken the code is 42P07.
abbrev pub defines : Result Table → Block → Knowledge → Around → Script
defines (Err code) block known around = fails code block known around
defines (Ok table) block known around =
    ask (calls.Define table) (λ a.
    on_defined a (succeeds created_reply block known around) (fails states.S42P07 block known around) (declined block known around))

-- ---- SELECT, INSERT, UPDATE, DELETE

-- what a statement comes to
abbrev pub concludes : RowDescription → Outcome → Block → Knowledge → Around → Script
concludes description (outcomes.Failed code) block known around = fails code block known around
concludes description outcome block known around = succeeds (outcome_reply description outcome) block known around

-- A statement in its transaction asks for what its course demands, one call for each demand. The session itself may be out of memory
-- after each answer.
abbrev pub runs : RowDescription → Course → Block → Knowledge → Around → Script
runs description (scan table next) block known around =
    ask (calls.Scan table) (λ a.
    on_listed a (λ keys. unless_short_in block known around (runs description (next keys) block known around)) (declined block known around))
runs description (touch cell next) block known around =
    ask (calls.Touch cell) (λ a.
    on_found a (λ value. unless_short_in block known around (runs description (next value) block known around)) (declined block known around))
runs description (write cell value next) block known around =
    ask (calls.Write cell value) (λ a.
    on_written a (unless_short_in block known around (runs description next block known around)) (declined block known around))
runs description (done outcome) block known around = concludes description outcome block known around

-- the same after an answer, where the session may be out of memory
abbrev pub continues : RowDescription → Course → Block → Knowledge → Around → Script
continues description c block known around = unless_short_in block known around (runs description c block known around)

-- A statement that runs: an implicit block begins its transaction, at the session's level, where none is pending.
abbrev pub begins : RowDescription → Course → Block → Knowledge → Around → Script
begins description c (Implicit false) known around =
    ask (calls.Begin known.level) (λ a. on_begun a (continues description c (Implicit true) known around) (declined (Implicit false) known around))
begins description c (Implicit true) known around = runs description c (Implicit true) known around
begins description c Regular known around = runs description c Regular known around
begins description c Failed known around = fails states.S25P02 Failed known around

-- a statement that has its types runs over the tables that are known
abbrev pub judged : RowDescription → Result Typed → Block → Knowledge → Around → Script
judged description (Ok t) block known around = begins description (course_of known.tables t) block known around
judged description (Err code) block known around = fails code block known around

-- A statement is typed over the tables that are known after its look. A session that is out of memory for its typing forgets what the
-- look showed.
abbrev pub typed_over : RowDescription → Statement → Block → Knowledge → List Table → Around → Script
typed_over description statement block known tables around =
    unless_short_in block known around
    (judged description (typed (known.tables ++ tables) statement) block (with_tables known tables) around)

-- A statement looks at the tables: the session is shown those that it doesn't know.
abbrev pub looks : RowDescription → Statement → Block → Knowledge → Around → Script
looks description statement block known around =
    ask (calls.Look (length known.tables)) (λ a.
    on_looked a (λ tables. typed_over description statement block known tables around) (declined block known around))

-- the statement is kept meanwhile, and the session may be out of memory for it
abbrev pub prepares : RowDescription → Statement → Block → Knowledge → Around → Script
prepares description statement block known around = unless_short_in block known around (looks description statement block known around)

-- A SELECT without FROM is answered at once. It begins no transaction, and its course asks for nothing.
abbrev pub at_once : RowDescription → Course → Block → Knowledge → Around → Script
at_once description (done outcome) block known around = concludes description outcome block known around
at_once description _ block known around = lost

abbrev pub judged_at_once : RowDescription → Result Typed → Block → Knowledge → Around → Script
judged_at_once description (Ok t) block known around = at_once description (course_of [] t) block known around
judged_at_once description (Err code) block known around = fails code block known around

-- a SELECT, given its FROM
abbrev pub selects : RowDescription → List TableRef → Statement → Block → Knowledge → Around → Script
selects description [] statement block known around =
    unless_short_in block known around (judged_at_once description (typed [] statement) block known around)
selects description (entry ∷ more) statement block known around = prepares description statement block known around

-- ---- a look of its own

-- The tables that are known are brought up to date. Nothing is told where that succeeds; where the session is out of memory for the
-- tables that it is shown, it forgets them.
abbrev pub refreshes : Block → Knowledge → Around → Script
refreshes block known around =
    ask (calls.Look (length known.tables)) (λ a.
    on_looked a (λ tables. unless_short_in block known around (around.succeeded block (with_tables known tables))) (declined block known around))

-- ---- SET, SHOW

-- A SET of the level of the session's next transactions, given the level that its values choose. A running transaction keeps the level
-- of its Begin, and no rollback undoes the SET.
abbrev pub sets_level : Option Level → Block → Knowledge → Around → Script
sets_level (Some level) block known around = succeeds set_reply block (with_level known level) around
sets_level None block known around = fails states.S0A000 block known around

-- Of the settings of the server's own the level alone can be set. To set another setting has no effect.
abbrev pub sets : List ℕ → List (List ℕ) → Block → Knowledge → Around → Script
sets name values block known around =
    if bytes_eq name level_name then sets_level (chosen_level known.served values) block known around
    else if is_own name then fails states.S0A000 block known around
    else succeeds set_reply block known around

-- a setting that isn't there is 0A000
abbrev pub shows_value : RowDescription → List ℕ → Option (List ℕ) → Block → Knowledge → Around → Script
shows_value description name None block known around = fails states.S0A000 block known around
shows_value description name (Some value) block known around =
    unless_short_in block known around (succeeds (show_reply description name value) block known around)

-- how many events the history has is asked of the book
abbrev pub shows_history : RowDescription → Block → Knowledge → Around → Script
shows_history description block known around =
    ask calls.Show (λ a.
    on_shown a (λ n. unless_short_in block known around (succeeds (show_reply description history_name (decimal n)) block known around))
    (declined block known around))

abbrev pub shows : RowDescription → List ℕ → Block → Knowledge → Around → Script
shows description name block known around =
    if bytes_eq name history_name then shows_history description block known around
    else shows_value description name (value_of known.level name) block known around

-- ---- all of them

-- a statement outside a failed block
abbrev pub performs : RowDescription → Statement → Block → Knowledge → Around → Script
performs description (tree.Select select) block known around = selects description select.from (tree.Select select) block known around
performs description (tree.Insert insert) block known around = prepares description (tree.Insert insert) block known around
performs description (tree.Update update) block known around = prepares description (tree.Update update) block known around
performs description (tree.Delete delete) block known around = prepares description (tree.Delete delete) block known around
performs description (tree.Create create) block known around = unless_short_in block known around (defines (built create) block known around)
performs description (tree.Begin start) block known around = starts start block known around
performs description tree.Commit block known around = commits block known around
performs description tree.Rollback block known around = rolls_back block known around
performs description (tree.Set name values) block known around = sets name values block known around
performs description tree.SetModes block known around = succeeds set_reply block known around
performs description (tree.Show name) block known around = shows description name block known around

-- a failed block takes its end alone
abbrev pub in_failed : Statement → Knowledge → Around → Script
in_failed tree.Commit known around = commits Failed known around
in_failed tree.Rollback known around = rolls_back Failed known around
in_failed _ known around = fails states.S25P02 Failed known around

-- A statement, in the block in which it stands; whether the reply of a SELECT or a SHOW is told with its RowDescription.
abbrev pub told_of : RowDescription → Statement → Block → Knowledge → Around → Script
told_of description statement (Implicit pending) known around = performs description statement (Implicit pending) known around
told_of description statement Regular known around = performs description statement Regular known around
told_of description statement Failed known around = in_failed statement known around
