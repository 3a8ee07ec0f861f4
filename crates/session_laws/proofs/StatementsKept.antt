-- A statement's script keeps to the rules where what stands around it does.
use Rattle.std.proofs.Common.{◌≡◌, Bool, true, false, cond, ℕ, List, [], ◌∷◌, ◌++◌, length, Option, Some, None, Ok, Err, refl}
use Rattle.std.specs.Fmt.{decimal}
use Rattle.std.specs.Str.{bytes_eq}
use Rattle.cell_base.specs.declared.level.Level.{Level}
use Rattle.cell_base.specs.declared.sql_state.SqlState.{SqlState}
use Rattle.cell_base.specs.declared.sql_state.SqlState.TheVariants as states
use Rattle.history_core.specs.declared.fault.BookFault.{BookFault}
use Rattle.pg_framing.specs.declared.replies.TransactionState.{TransactionState}
use Rattle.pg_framing.specs.declared.replies.TransactionState.TheVariants as ready
use Rattle.sql_tree.specs.declared.statement.Statement.{Statement}
use Rattle.sql_tree.specs.declared.statement.Statement.TheVariants as tree
use Rattle.sql_tree.specs.declared.statement.TableRef.{TableRef}
use Rattle.sql_tree.specs.declared.table.Table.{Table}
use Rattle.sql_tree.specs.declared.typed.Typed.{Typed}
use Rattle.typing_rules.specs.Outcome.{Outcome as Result}
use Rattle.typing_rules.specs.Building.{built}
use Rattle.typing_rules.specs.Typed.{typed}
use Rattle.statement_course.specs.declared.demand.Outcome.{Outcome}
use Rattle.statement_course.specs.declared.demand.Outcome.TheVariants as outcomes
use Rattle.statement_course.specs.Course.{Course, scan, touch, write, done}
use Rattle.statement_course.specs.Statements.{course_of}
use Rattle.outcome_replies.specs.Replies.{outcome_reply}
use Rattle.outcome_replies.specs.declared.description.RowDescription.{RowDescription}
use Rattle.block_machine.specs.Calls as calls
use Rattle.block_machine.specs.Knowledge.{Knowledge, with_tables, with_level}
use Rattle.block_machine.specs.Settings.{is_own, history_name, level_name, chosen_level, value_of}
use Rattle.block_machine.specs.Replies.{error_reply, created_reply, set_reply, commit_reply, rollback_reply, needless_commit_reply, needless_rollback_reply, start_reply, needless_start_reply, show_reply}
use Rattle.block_machine.specs.Script.{Script}
use Rattle.block_machine.specs.Statements as told
use Rattle.block_machine.specs.Statements.{Around, owed_in, refusal_state}
use Rattle.block_machine.specs.declared.block.Block.{Block}
use Rattle.block_machine.specs.declared.block.Block.TheVariants.{Implicit, Regular, Failed}
use Rattle.block_machine.specs.declared.block.Owed.{Owed}
use Rattle.block_machine.specs.declared.block.Owed.TheVariants as owes
use Rattle.block_machine.specs.declared.call.Answer.TheVariants as answers
use Rattle.session_laws.proofs.Rules.{Rules, Breaks, AreFit, Keeps, lost_keeps, ask_keeps, tell_keeps, short_keeps, looked_keeps, defined_keeps, begun_keeps, listed_keeps, found_keeps, written_keeps, shown_keeps}

-- what stands around a statement keeps to the rules
pub record Surrounds (r : Rules) (around : Around) : Type 0 where
  pub succeeded : (s : r.State) (b : Block) (k : Knowledge) → r.Resting s k → Keeps r s (around.succeeded b k)
  pub failed : (s : r.State) (state : TransactionState) (k : Knowledge) → r.Resting s k → Keeps r s (around.failed state k)
  pub broken : (s : r.State) (owed : Owed) (k : Knowledge) → r.Resting s k → Keeps r s (around.broken owed)

-- a statement may fail in this block
abbrev pub MayFail : (r : Rules) → r.State → Knowledge → Block → Type 0
MayFail r s k (Implicit false) = r.Resting s k
MayFail r s k (Implicit true) = Breaks r s k
MayFail r s k Regular = Breaks r s k
MayFail r s k Failed = r.Resting s k

pub may_fail : (r : Rules) → AreFit r → (s : r.State) (k : Knowledge) (block : Block) → r.Resting s k → MayFail r s k block
may_fail r fit s k (Implicit false) resting = resting
may_fail r fit s k (Implicit true) resting = fit.rolls_back s k resting
may_fail r fit s k Regular resting = fit.rolls_back s k resting
may_fail r fit s k Failed resting = resting

pub succeeds : (r : Rules) → (around : Around) → Surrounds r around → (s : r.State) (reply : List ℕ) (block : Block) (known : Knowledge) → r.Resting s known →
    Keeps r s (told.succeeds reply block known around)
succeeds r around h s reply block known resting =
    tell_keeps r s reply (around.broken (owed_in block)) (around.succeeded block known) (h.broken s (owed_in block) known resting) (h.succeeded s block known resting)

refused_with : (r : Rules) → (around : Around) → Surrounds r around → (s : r.State) (code : SqlState) (state : TransactionState) (known : Knowledge) → r.Resting s known →
    Keeps r s (told.refused_with code state known around)
refused_with r around h s code state known resting =
    tell_keeps r s (error_reply code) (around.broken owes.Close) (around.failed state known) (h.broken s owes.Close known resting) (h.failed s state known resting)

pub fails : (r : Rules) → (around : Around) → Surrounds r around → (s : r.State) (code : SqlState) (block : Block) (known : Knowledge) → MayFail r s known block →
    Keeps r s (told.fails code block known around)
fails r around h s code (Implicit false) known may = refused_with r around h s code ready.Idle known may
fails r around h s code (Implicit true) known may =
    ask_keeps r s calls.Rollback (λ _. told.refused_with code ready.Idle known around) may.0
    (λ a. refused_with r around h (r.next s calls.Rollback a) code ready.Idle known (may.1 a))
fails r around h s code Regular known may =
    ask_keeps r s calls.Rollback (λ _. told.refused_with code ready.Failed known around) may.0
    (λ a. refused_with r around h (r.next s calls.Rollback a) code ready.Failed known (may.1 a))
fails r around h s code Failed known may = refused_with r around h s code ready.Failed known may

declined : (r : Rules) → (around : Around) → Surrounds r around → (s : r.State) (block : Block) (known : Knowledge) (why : BookFault) → MayFail r s known block →
    Keeps r s (told.declined block known around why)
declined r around h s block known why may = fails r around h s (refusal_state why) block known may

at_rest : (r : Rules) → (around : Around) → Surrounds r around → (s : r.State) (block : Block) (known : Knowledge) (script : Script) → MayFail r s known block →
    Keeps r s script → Keeps r s (told.unless_short_in block known around script)
at_rest r around h s block known script may keeps =
    short_keeps r s false (told.fails states.S53200 block known around) script (fails r around h s states.S53200 block known may) keeps

-- ---- BEGIN, COMMIT, ROLLBACK

starts : (r : Rules) → AreFit r → (around : Around) → Surrounds r around → (s : r.State) (start : Bool) (block : Block) (known : Knowledge) → r.Resting s known →
    Keeps r s (told.starts start block known around)
starts r fit around h s start (Implicit false) known resting =
    let asks = fit.begins s known known.level resting in
    ask_keeps r s (calls.Begin known.level) _ asks.0
    (begun_keeps r s (calls.Begin known.level) _ _
    (λ a. succeeds r around h (r.next s (calls.Begin known.level) a) (start_reply start) Regular known (asks.1 a))
    (λ why. declined r around h (r.next s (calls.Begin known.level) (answers.Refused why)) (Implicit false) known why (asks.1 (answers.Refused why))))
starts r fit around h s start (Implicit true) known resting = succeeds r around h s (start_reply start) Regular known resting
starts r fit around h s start Regular known resting = succeeds r around h s (needless_start_reply start) Regular known resting
starts r fit around h s start Failed known resting = fails r around h s states.S25P02 Failed known resting

commits : (r : Rules) → AreFit r → (around : Around) → Surrounds r around → (s : r.State) (block : Block) (known : Knowledge) → r.Resting s known →
    Keeps r s (told.commits block known around)
commits r fit around h s (Implicit false) known resting = succeeds r around h s needless_commit_reply (Implicit false) known resting
commits r fit around h s (Implicit true) known resting =
    let asks = fit.commits s known resting in
    ask_keeps r s calls.Commit _ asks.0 (λ a. succeeds r around h (r.next s calls.Commit a) needless_commit_reply (Implicit false) known (asks.1 a))
commits r fit around h s Regular known resting =
    let asks = fit.commits s known resting in
    ask_keeps r s calls.Commit _ asks.0 (λ a. succeeds r around h (r.next s calls.Commit a) commit_reply (Implicit false) known (asks.1 a))
commits r fit around h s Failed known resting = succeeds r around h s rollback_reply (Implicit false) known resting

rolls_back : (r : Rules) → AreFit r → (around : Around) → Surrounds r around → (s : r.State) (block : Block) (known : Knowledge) → r.Resting s known →
    Keeps r s (told.rolls_back block known around)
rolls_back r fit around h s (Implicit false) known resting = succeeds r around h s needless_rollback_reply (Implicit false) known resting
rolls_back r fit around h s (Implicit true) known resting =
    let asks = fit.rolls_back s known resting in
    ask_keeps r s calls.Rollback _ asks.0 (λ a. succeeds r around h (r.next s calls.Rollback a) needless_rollback_reply (Implicit false) known (asks.1 a))
rolls_back r fit around h s Regular known resting =
    let asks = fit.rolls_back s known resting in
    ask_keeps r s calls.Rollback _ asks.0 (λ a. succeeds r around h (r.next s calls.Rollback a) rollback_reply (Implicit false) known (asks.1 a))
rolls_back r fit around h s Failed known resting = succeeds r around h s rollback_reply (Implicit false) known resting

-- ---- CREATE TABLE

defines : (r : Rules) → AreFit r → (around : Around) → Surrounds r around → (s : r.State) (table : Result Table) (block : Block) (known : Knowledge) → r.Resting s known →
    Keeps r s (told.defines table block known around)
defines r fit around h s (Err code) block known resting = fails r around h s code block known (may_fail r fit s known block resting)
defines r fit around h s (Ok table) block known resting =
    let asks = fit.defines s known table resting in
    ask_keeps r s (calls.Define table) _ asks.0
    (defined_keeps r s (calls.Define table) _ _ _
    (λ a. succeeds r around h (r.next s (calls.Define table) a) created_reply block known (asks.1 a))
    (λ a. fails r around h (r.next s (calls.Define table) a) states.S42P07 block known (may_fail r fit (r.next s (calls.Define table) a) known block (asks.1 a)))
    (λ why. declined r around h (r.next s (calls.Define table) (answers.Refused why)) block known why
    (may_fail r fit (r.next s (calls.Define table) (answers.Refused why)) known block (asks.1 (answers.Refused why)))))

-- ---- SELECT, INSERT, UPDATE, DELETE

concludes : (r : Rules) → AreFit r → (around : Around) → Surrounds r around → (s : r.State) (description : RowDescription) (outcome : Outcome) (block : Block) (known : Knowledge) →
    r.Resting s known → Keeps r s (told.concludes description outcome block known around)
concludes r fit around h s description (outcomes.Failed code) block known resting = fails r around h s code block known (may_fail r fit s known block resting)
concludes r fit around h s description outcome block known resting = succeeds r around h s (outcome_reply description outcome) block known resting

-- a transaction is pending in the block
abbrev Pends : Block → Type 0
Pends (Implicit false) = ⊥
Pends (Implicit true) = Unit {0}
Pends Regular = Unit {0}
Pends Failed = ⊥

in_block : (r : Rules) → (s : r.State) (k : Knowledge) (block : Block) → Pends block → Breaks r s k → MayFail r s k block
in_block r s k (Implicit false) pends breaks = absurd pends
in_block r s k (Implicit true) pends breaks = breaks
in_block r s k Regular pends breaks = breaks
in_block r s k Failed pends breaks = absurd pends

runs : (r : Rules) → AreFit r → (around : Around) → Surrounds r around → (description : RowDescription) (c : Course) (s : r.State) (block : Block) (known : Knowledge) →
    Pends block → r.Runs s known c → Keeps r s (told.runs description c block known around)
runs r fit around h description (scan table rest) s block known pends running =
    let asks = fit.scans s known table rest running in
    ask_keeps r s (calls.Scan table) _ asks.0
    (listed_keeps r s (calls.Scan table) _ _
    (λ keys.
    at_rest r around h (r.next s (calls.Scan table) (answers.Listed keys)) block known (told.runs description (rest keys) block known around)
    (in_block r (r.next s (calls.Scan table) (answers.Listed keys)) known block pends
    (fit.breaks (r.next s (calls.Scan table) (answers.Listed keys)) known (rest keys) (asks.1 keys)))
    (runs r fit around h description (rest keys) (r.next s (calls.Scan table) (answers.Listed keys)) block known pends (asks.1 keys)))
    (λ why. declined r around h (r.next s (calls.Scan table) (answers.Refused why)) block known why
    (in_block r (r.next s (calls.Scan table) (answers.Refused why)) known block pends (asks.2 why))))
runs r fit around h description (touch cell rest) s block known pends running =
    let asks = fit.touches s known cell rest running in
    ask_keeps r s (calls.Touch cell) _ asks.0
    (found_keeps r s (calls.Touch cell) _ _
    (λ value.
    at_rest r around h (r.next s (calls.Touch cell) (answers.Found value)) block known (told.runs description (rest value) block known around)
    (in_block r (r.next s (calls.Touch cell) (answers.Found value)) known block pends
    (fit.breaks (r.next s (calls.Touch cell) (answers.Found value)) known (rest value) (asks.1 value)))
    (runs r fit around h description (rest value) (r.next s (calls.Touch cell) (answers.Found value)) block known pends (asks.1 value)))
    (λ why. declined r around h (r.next s (calls.Touch cell) (answers.Refused why)) block known why
    (in_block r (r.next s (calls.Touch cell) (answers.Refused why)) known block pends (asks.2 why))))
runs r fit around h description (write cell value rest) s block known pends running =
    let asks = fit.writes s known cell value rest running in
    ask_keeps r s (calls.Write cell value) _ asks.0
    (written_keeps r s (calls.Write cell value) _ _
    (at_rest r around h (r.next s (calls.Write cell value) answers.Written) block known (told.runs description rest block known around)
    (in_block r (r.next s (calls.Write cell value) answers.Written) known block pends
    (fit.breaks (r.next s (calls.Write cell value) answers.Written) known rest asks.1))
    (runs r fit around h description rest (r.next s (calls.Write cell value) answers.Written) block known pends asks.1))
    (λ why. declined r around h (r.next s (calls.Write cell value) (answers.Refused why)) block known why
    (in_block r (r.next s (calls.Write cell value) (answers.Refused why)) known block pends (asks.2 why))))
runs r fit around h description (done outcome) s block known pends running =
    concludes r fit around h s description outcome block known (fit.finishes s known outcome running)

begins : (r : Rules) → AreFit r → (around : Around) → Surrounds r around → (description : RowDescription) (statement : Statement) (t : Typed) (s : r.State) (block : Block) (known : Knowledge) →
    r.Resting s known → typed known.tables statement ≡ Ok t → Keeps r s (told.begins description (course_of known.tables t) block known around)
begins r fit around h description statement t s (Implicit false) known resting is =
    let asks = fit.begins s known known.level resting in
    ask_keeps r s (calls.Begin known.level) _ asks.0
    (begun_keeps r s (calls.Begin known.level) _ _
    (λ a.
    at_rest r around h (r.next s (calls.Begin known.level) a) (Implicit true) known (told.runs description (course_of known.tables t) (Implicit true) known around)
    (fit.rolls_back (r.next s (calls.Begin known.level) a) known (asks.1 a))
    (runs r fit around h description (course_of known.tables t) (r.next s (calls.Begin known.level) a) (Implicit true) known tt
    (fit.runs (r.next s (calls.Begin known.level) a) known statement t (asks.1 a) is)))
    (λ why. declined r around h (r.next s (calls.Begin known.level) (answers.Refused why)) (Implicit false) known why (asks.1 (answers.Refused why))))
begins r fit around h description statement t s (Implicit true) known resting is =
    runs r fit around h description (course_of known.tables t) s (Implicit true) known tt (fit.runs s known statement t resting is)
begins r fit around h description statement t s Regular known resting is =
    runs r fit around h description (course_of known.tables t) s Regular known tt (fit.runs s known statement t resting is)
begins r fit around h description statement t s Failed known resting is = fails r around h s states.S25P02 Failed known resting

judged : (r : Rules) → AreFit r → (around : Around) → Surrounds r around → (description : RowDescription) (statement : Statement) (t : Result Typed) (s : r.State) (block : Block) (known : Knowledge) →
    r.Resting s known → typed known.tables statement ≡ t → Keeps r s (told.judged description t block known around)
judged r fit around h description statement (Ok t) s block known resting is = begins r fit around h description statement t s block known resting is
judged r fit around h description statement (Err code) s block known resting is = fails r around h s code block known (may_fail r fit s known block resting)

typed_over : (r : Rules) → AreFit r → (around : Around) → Surrounds r around → (description : RowDescription) (statement : Statement) (s : r.State) (block : Block) (known : Knowledge) (tables : List Table) →
    r.Resting s known → r.Resting s (with_tables known tables) → Keeps r s (told.typed_over description statement block known tables around)
typed_over r fit around h description statement s block known tables resting shown =
    at_rest r around h s block known (told.judged description (typed (known.tables ++ tables) statement) block (with_tables known tables) around)
    (may_fail r fit s known block resting)
    (judged r fit around h description statement (typed (known.tables ++ tables) statement) s block (with_tables known tables) shown refl)

looks : (r : Rules) → AreFit r → (around : Around) → Surrounds r around → (description : RowDescription) (statement : Statement) (s : r.State) (block : Block) (known : Knowledge) →
    r.Resting s known → Keeps r s (told.looks description statement block known around)
looks r fit around h description statement s block known resting =
    let asks = fit.looks s known resting in
    ask_keeps r s (calls.Look (length known.tables)) _ asks.0
    (looked_keeps r s (calls.Look (length known.tables)) _ _
    (λ tables. typed_over r fit around h description statement (r.next s (calls.Look (length known.tables)) (answers.Looked tables)) block known tables
    (asks.1 (answers.Looked tables)) (fit.looked s known tables resting))
    (λ why. declined r around h (r.next s (calls.Look (length known.tables)) (answers.Refused why)) block known why
    (may_fail r fit (r.next s (calls.Look (length known.tables)) (answers.Refused why)) known block (asks.1 (answers.Refused why)))))

prepares : (r : Rules) → AreFit r → (around : Around) → Surrounds r around → (description : RowDescription) (statement : Statement) (s : r.State) (block : Block) (known : Knowledge) →
    r.Resting s known → Keeps r s (told.prepares description statement block known around)
prepares r fit around h description statement s block known resting =
    at_rest r around h s block known (told.looks description statement block known around) (may_fail r fit s known block resting)
    (looks r fit around h description statement s block known resting)

at_once : (r : Rules) → AreFit r → (around : Around) → Surrounds r around → (description : RowDescription) (c : Course) (s : r.State) (block : Block) (known : Knowledge) →
    r.Resting s known → Keeps r s (told.at_once description c block known around)
at_once r fit around h description (done outcome) s block known resting = concludes r fit around h s description outcome block known resting
at_once r fit around h description (scan table rest) s block known resting = lost_keeps r s
at_once r fit around h description (touch cell rest) s block known resting = lost_keeps r s
at_once r fit around h description (write cell value rest) s block known resting = lost_keeps r s

judged_at_once : (r : Rules) → AreFit r → (around : Around) → Surrounds r around → (description : RowDescription) (t : Result Typed) (s : r.State) (block : Block) (known : Knowledge) →
    r.Resting s known → Keeps r s (told.judged_at_once description t block known around)
judged_at_once r fit around h description (Ok t) s block known resting = at_once r fit around h description (course_of [] t) s block known resting
judged_at_once r fit around h description (Err code) s block known resting = fails r around h s code block known (may_fail r fit s known block resting)

selects : (r : Rules) → AreFit r → (around : Around) → Surrounds r around → (description : RowDescription) (entries : List TableRef) (statement : Statement) (s : r.State) (block : Block) (known : Knowledge) →
    r.Resting s known → Keeps r s (told.selects description entries statement block known around)
selects r fit around h description [] statement s block known resting =
    at_rest r around h s block known (told.judged_at_once description (typed [] statement) block known around) (may_fail r fit s known block resting)
    (judged_at_once r fit around h description (typed [] statement) s block known resting)
selects r fit around h description (entry ∷ more) statement s block known resting = prepares r fit around h description statement s block known resting

-- ---- SET, SHOW

either : (r : Rules) → (s : r.State) (b : Bool) (one other : Script) → Keeps r s one → Keeps r s other → Keeps r s (cond b one other)
either r s true one other first second = first
either r s false one other first second = second

sets_level : (r : Rules) → AreFit r → (around : Around) → Surrounds r around → (level : Option Level) (s : r.State) (block : Block) (known : Knowledge) → r.Resting s known →
    Keeps r s (told.sets_level level block known around)
sets_level r fit around h (Some level) s block known resting = succeeds r around h s set_reply block (with_level known level) (fit.levels s known level resting)
sets_level r fit around h None s block known resting = fails r around h s states.S0A000 block known (may_fail r fit s known block resting)

sets : (r : Rules) → AreFit r → (around : Around) → Surrounds r around → (name : List ℕ) (values : List (List ℕ)) (s : r.State) (block : Block) (known : Knowledge) →
    r.Resting s known → Keeps r s (told.sets name values block known around)
sets r fit around h name values s block known resting =
    either r s (bytes_eq name level_name) _ _ (sets_level r fit around h (chosen_level known.served values) s block known resting)
    (either r s (is_own name) _ _ (fails r around h s states.S0A000 block known (may_fail r fit s known block resting))
    (succeeds r around h s set_reply block known resting))

shows_value : (r : Rules) → AreFit r → (around : Around) → Surrounds r around → (description : RowDescription) (name : List ℕ) (value : Option (List ℕ)) (s : r.State) (block : Block) (known : Knowledge) →
    r.Resting s known → Keeps r s (told.shows_value description name value block known around)
shows_value r fit around h description name None s block known resting = fails r around h s states.S0A000 block known (may_fail r fit s known block resting)
shows_value r fit around h description name (Some value) s block known resting =
    at_rest r around h s block known (told.succeeds (show_reply description name value) block known around) (may_fail r fit s known block resting)
    (succeeds r around h s (show_reply description name value) block known resting)

shows_history : (r : Rules) → AreFit r → (around : Around) → Surrounds r around → (description : RowDescription) (s : r.State) (block : Block) (known : Knowledge) →
    r.Resting s known → Keeps r s (told.shows_history description block known around)
shows_history r fit around h description s block known resting =
    let asks = fit.shows s known resting in
    ask_keeps r s calls.Show _ asks.0
    (shown_keeps r s calls.Show _ _
    (λ n. at_rest r around h (r.next s calls.Show (answers.Shown n)) block known
    (told.succeeds (show_reply description history_name (decimal n)) block known around)
    (may_fail r fit (r.next s calls.Show (answers.Shown n)) known block (asks.1 (answers.Shown n)))
    (succeeds r around h (r.next s calls.Show (answers.Shown n)) (show_reply description history_name (decimal n)) block known (asks.1 (answers.Shown n))))
    (λ why. declined r around h (r.next s calls.Show (answers.Refused why)) block known why
    (may_fail r fit (r.next s calls.Show (answers.Refused why)) known block (asks.1 (answers.Refused why)))))

shows : (r : Rules) → AreFit r → (around : Around) → Surrounds r around → (description : RowDescription) (name : List ℕ) (s : r.State) (block : Block) (known : Knowledge) →
    r.Resting s known → Keeps r s (told.shows description name block known around)
shows r fit around h description name s block known resting =
    either r s (bytes_eq name history_name) _ _ (shows_history r fit around h description s block known resting)
    (shows_value r fit around h description name (value_of known.level name) s block known resting)

-- ---- all of them

performs : (r : Rules) → AreFit r → (around : Around) → Surrounds r around → (description : RowDescription) (statement : Statement) (s : r.State) (block : Block) (known : Knowledge) →
    r.Resting s known → Keeps r s (told.performs description statement block known around)
performs r fit around h description (tree.Select select) s block known resting = selects r fit around h description select.from (tree.Select select) s block known resting
performs r fit around h description (tree.Insert insert) s block known resting = prepares r fit around h description (tree.Insert insert) s block known resting
performs r fit around h description (tree.Update update) s block known resting = prepares r fit around h description (tree.Update update) s block known resting
performs r fit around h description (tree.Delete delete) s block known resting = prepares r fit around h description (tree.Delete delete) s block known resting
performs r fit around h description (tree.Create create) s block known resting =
    at_rest r around h s block known (told.defines (built create) block known around) (may_fail r fit s known block resting)
    (defines r fit around h s (built create) block known resting)
performs r fit around h description (tree.Begin start) s block known resting = starts r fit around h s start block known resting
performs r fit around h description tree.Commit s block known resting = commits r fit around h s block known resting
performs r fit around h description tree.Rollback s block known resting = rolls_back r fit around h s block known resting
performs r fit around h description (tree.Set name values) s block known resting = sets r fit around h name values s block known resting
performs r fit around h description tree.SetModes s block known resting = succeeds r around h s set_reply block known resting
performs r fit around h description (tree.Show name) s block known resting = shows r fit around h description name s block known resting

in_failed : (r : Rules) → AreFit r → (around : Around) → Surrounds r around → (statement : Statement) (s : r.State) (known : Knowledge) → r.Resting s known →
    Keeps r s (told.in_failed statement known around)
in_failed r fit around h tree.Commit s known resting = commits r fit around h s Failed known resting
in_failed r fit around h tree.Rollback s known resting = rolls_back r fit around h s Failed known resting
in_failed r fit around h _ s known resting = fails r around h s states.S25P02 Failed known resting

pub told_of : (r : Rules) → AreFit r → (around : Around) → Surrounds r around → (description : RowDescription) (statement : Statement) (s : r.State) (block : Block) (known : Knowledge) →
    r.Resting s known → Keeps r s (told.told_of description statement block known around)
told_of r fit around h description statement s (Implicit pending) known resting = performs r fit around h description statement s (Implicit pending) known resting
told_of r fit around h description statement s Regular known resting = performs r fit around h description statement s Regular known resting
told_of r fit around h description statement s Failed known resting = in_failed r fit around h statement s known resting
