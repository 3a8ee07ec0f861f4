-- How many free calls a statement's script makes: two more than what stands around it.
use Rattle.std.proofs.Common.{Bool, true, false, cond, ℕ, suc, List, [], ◌∷◌, ◌++◌, length, Option, Some, None, Ok, Err, arith}
use Rattle.std.specs.Fmt.{decimal}
use Rattle.std.specs.Str.{bytes_eq}
use Rattle.cell_base.specs.declared.level.Level.{Level}
use Rattle.cell_base.specs.declared.sql_state.SqlState.{SqlState}
use Rattle.cell_base.specs.declared.sql_state.SqlState.TheVariants as states
use Rattle.history_core.specs.declared.fault.BookFault.{BookFault}
use Rattle.pg_framing.specs.declared.replies.TransactionState.{TransactionState}
use Rattle.pg_framing.specs.declared.replies.TransactionState.TheVariants as ready
use Rattle.sql_tree.specs.declared.statement.Statement.{Statement}
use Rattle.sql_tree.specs.declared.statement.Statement.TheVariants as tree
use Rattle.sql_tree.specs.declared.statement.TableRef.{TableRef}
use Rattle.sql_tree.specs.declared.table.Table.{Table}
use Rattle.sql_tree.specs.declared.typed.Typed.{Typed}
use Rattle.typing_rules.specs.Outcome.{Outcome as Result}
use Rattle.typing_rules.specs.Building.{built}
use Rattle.typing_rules.specs.Typed.{typed}
use Rattle.statement_course.specs.declared.demand.Outcome.{Outcome}
use Rattle.statement_course.specs.declared.demand.Outcome.TheVariants as outcomes
use Rattle.statement_course.specs.Course.{Course, scan, touch, write, done}
use Rattle.statement_course.specs.Statements.{course_of}
use Rattle.outcome_replies.specs.Replies.{outcome_reply}
use Rattle.outcome_replies.specs.declared.description.RowDescription.{RowDescription}
use Rattle.block_machine.specs.Calls.{Call}
use Rattle.block_machine.specs.Calls as calls
use Rattle.block_machine.specs.Knowledge.{Knowledge, with_tables, with_level}
use Rattle.block_machine.specs.Settings.{is_own, history_name, level_name, chosen_level, value_of}
use Rattle.block_machine.specs.Replies.{error_reply, created_reply, set_reply, commit_reply, rollback_reply, needless_commit_reply, needless_rollback_reply, start_reply, needless_start_reply, show_reply}
use Rattle.block_machine.specs.Script.{Script, ask}
use Rattle.block_machine.specs.Statements as told
use Rattle.block_machine.specs.Statements.{Around, owed_in, refusal_state}
use Rattle.block_machine.specs.declared.block.Block.{Block}
use Rattle.block_machine.specs.declared.block.Block.TheVariants.{Implicit, Regular, Failed}
use Rattle.block_machine.specs.declared.block.Owed.{Owed}
use Rattle.block_machine.specs.declared.block.Owed.TheVariants as owes
use Rattle.program_laws.proofs.Scripts.{Few, weaker, lost_few, ask_any, ask_looked, ask_defined, ask_begun, ask_listed, ask_found, ask_written, ask_shown, tell_few, short_few}

-- so many are made by what stands around a statement
pub record Surrounds (n : ℕ) (around : Around) : Type 0 where
  pub succeeded : (b : Block) (k : Knowledge) → Few n (around.succeeded b k)
  pub failed : (state : TransactionState) (k : Knowledge) → Few n (around.failed state k)
  pub broken : (owed : Owed) → Few n (around.broken owed)

-- two more
abbrev Few2 : ℕ → Script → Type 0
Few2 n script = Few (suc (suc n)) script

pub succeeds_at : (n : ℕ) (around : Around) → Surrounds n around → (reply : List ℕ) (block : Block) (known : Knowledge) → Few n (told.succeeds reply block known around)
succeeds_at n around h reply block known =
    tell_few n reply (around.broken (owed_in block)) (around.succeeded block known) (h.broken (owed_in block)) (h.succeeded block known)

refused_with : (n : ℕ) (around : Around) → Surrounds n around → (code : SqlState) (state : TransactionState) (known : Knowledge) →
    Few n (told.refused_with code state known around)
refused_with n around h code state known =
    tell_few n (error_reply code) (around.broken owes.Close) (around.failed state known) (h.broken owes.Close) (h.failed state known)

pub fails_at : (n : ℕ) (around : Around) → Surrounds n around → (code : SqlState) (block : Block) (known : Knowledge) → Few (suc n) (told.fails code block known around)
fails_at n around h code (Implicit false) known = weaker n (suc n) _ (refused_with n around h code ready.Idle known) (omega arith)
fails_at n around h code (Implicit true) known =
    ask_any n calls.Rollback (λ _. told.refused_with code ready.Idle known around) (λ a. refused_with n around h code ready.Idle known)
fails_at n around h code Regular known =
    ask_any n calls.Rollback (λ _. told.refused_with code ready.Failed known around) (λ a. refused_with n around h code ready.Failed known)
fails_at n around h code Failed known = weaker n (suc n) _ (refused_with n around h code ready.Failed known) (omega arith)

succeeds : (n : ℕ) (around : Around) → Surrounds n around → (reply : List ℕ) (block : Block) (known : Knowledge) → Few2 n (told.succeeds reply block known around)
succeeds n around h reply block known = weaker n (suc (suc n)) _ (succeeds_at n around h reply block known) (omega arith)

fails : (n : ℕ) (around : Around) → Surrounds n around → (code : SqlState) (block : Block) (known : Knowledge) → Few2 n (told.fails code block known around)
fails n around h code block known = weaker (suc n) (suc (suc n)) _ (fails_at n around h code block known) (omega arith)

declined : (n : ℕ) (around : Around) → Surrounds n around → (block : Block) (known : Knowledge) (why : BookFault) → Few (suc n) (told.declined block known around why)
declined n around h block known why = fails_at n around h (refusal_state why) block known

unless_short_in : (n : ℕ) (around : Around) → Surrounds n around → (block : Block) (known : Knowledge) (script : Script) → Few2 n script →
    Few2 n (told.unless_short_in block known around script)
unless_short_in n around h block known script few =
    short_few (suc (suc n)) false (told.fails states.S53200 block known around) script (fails n around h states.S53200 block known) few

-- ---- BEGIN, COMMIT, ROLLBACK

starts : (n : ℕ) (around : Around) → Surrounds n around → (start : Bool) (block : Block) (known : Knowledge) → Few2 n (told.starts start block known around)
starts n around h start (Implicit false) known =
    ask_begun (suc n) (calls.Begin known.level) (told.succeeds (start_reply start) Regular known around) (told.declined (Implicit false) known around)
    (succeeds n around h (start_reply start) Regular known) (λ why. declined n around h (Implicit false) known why)
starts n around h start (Implicit true) known = succeeds n around h (start_reply start) Regular known
starts n around h start Regular known = succeeds n around h (needless_start_reply start) Regular known
starts n around h start Failed known = fails n around h states.S25P02 Failed known

-- an end of a transaction that succeeds
ends_it : (n : ℕ) (around : Around) → Surrounds n around → (c : Call) (reply : List ℕ) (known : Knowledge) →
    Few2 n (ask c (λ _. told.succeeds reply (Implicit false) known around))
ends_it n around h c reply known =
    weaker (suc n) (suc (suc n)) _
    (ask_any n c (λ _. told.succeeds reply (Implicit false) known around) (λ a. succeeds_at n around h reply (Implicit false) known)) (omega arith)

commits : (n : ℕ) (around : Around) → Surrounds n around → (block : Block) (known : Knowledge) → Few2 n (told.commits block known around)
commits n around h (Implicit false) known = succeeds n around h needless_commit_reply (Implicit false) known
commits n around h (Implicit true) known = ends_it n around h calls.Commit needless_commit_reply known
commits n around h Regular known = ends_it n around h calls.Commit commit_reply known
commits n around h Failed known = succeeds n around h rollback_reply (Implicit false) known

rolls_back : (n : ℕ) (around : Around) → Surrounds n around → (block : Block) (known : Knowledge) → Few2 n (told.rolls_back block known around)
rolls_back n around h (Implicit false) known = succeeds n around h needless_rollback_reply (Implicit false) known
rolls_back n around h (Implicit true) known = ends_it n around h calls.Rollback needless_rollback_reply known
rolls_back n around h Regular known = ends_it n around h calls.Rollback rollback_reply known
rolls_back n around h Failed known = succeeds n around h rollback_reply (Implicit false) known

-- ---- CREATE TABLE

defines : (n : ℕ) (around : Around) → Surrounds n around → (table : Result Table) (block : Block) (known : Knowledge) → Few2 n (told.defines table block known around)
defines n around h (Err code) block known = fails n around h code block known
defines n around h (Ok table) block known =
    ask_defined (suc n) (calls.Define table) (told.succeeds created_reply block known around) (told.fails states.S42P07 block known around)
    (told.declined block known around) (succeeds n around h created_reply block known) (fails n around h states.S42P07 block known)
    (λ why. declined n around h block known why)

-- ---- SELECT, INSERT, UPDATE, DELETE

concludes : (n : ℕ) (around : Around) → Surrounds n around → (description : RowDescription) (outcome : Outcome) (block : Block) (known : Knowledge) →
    Few2 n (told.concludes description outcome block known around)
concludes n around h description (outcomes.Failed code) block known = fails n around h code block known
concludes n around h description outcome block known = succeeds n around h (outcome_reply description outcome) block known

runs : (n : ℕ) (around : Around) → Surrounds n around → (description : RowDescription) (c : Course) (block : Block) (known : Knowledge) →
    Few2 n (told.runs description c block known around)
runs n around h description (scan table rest) block known =
    ask_listed (suc n) (calls.Scan table) _ (told.declined block known around)
    (λ keys. unless_short_in n around h block known (told.runs description (rest keys) block known around) (runs n around h description (rest keys) block known))
    (λ why. declined n around h block known why)
runs n around h description (touch cell rest) block known =
    ask_found (suc n) (calls.Touch cell) _ (told.declined block known around)
    (λ value. unless_short_in n around h block known (told.runs description (rest value) block known around) (runs n around h description (rest value) block known))
    (λ why. declined n around h block known why)
runs n around h description (write cell value rest) block known =
    ask_written (suc n) (calls.Write cell value) _ (told.declined block known around)
    (unless_short_in n around h block known (told.runs description rest block known around) (runs n around h description rest block known))
    (λ why. declined n around h block known why)
runs n around h description (done outcome) block known = concludes n around h description outcome block known

begins : (n : ℕ) (around : Around) → Surrounds n around → (description : RowDescription) (c : Course) (block : Block) (known : Knowledge) →
    Few2 n (told.begins description c block known around)
begins n around h description c (Implicit false) known =
    ask_begun (suc n) (calls.Begin known.level) (told.continues description c (Implicit true) known around) (told.declined (Implicit false) known around)
    (unless_short_in n around h (Implicit true) known (told.runs description c (Implicit true) known around) (runs n around h description c (Implicit true) known))
    (λ why. declined n around h (Implicit false) known why)
begins n around h description c (Implicit true) known = runs n around h description c (Implicit true) known
begins n around h description c Regular known = runs n around h description c Regular known
begins n around h description c Failed known = fails n around h states.S25P02 Failed known

judged : (n : ℕ) (around : Around) → Surrounds n around → (description : RowDescription) (t : Result Typed) (block : Block) (known : Knowledge) →
    Few2 n (told.judged description t block known around)
judged n around h description (Ok t) block known = begins n around h description (course_of known.tables t) block known
judged n around h description (Err code) block known = fails n around h code block known

typed_over : (n : ℕ) (around : Around) → Surrounds n around → (description : RowDescription) (statement : Statement) (block : Block) (known : Knowledge)
    (tables : List Table) → Few2 n (told.typed_over description statement block known tables around)
typed_over n around h description statement block known tables =
    unless_short_in n around h block known (told.judged description (typed (known.tables ++ tables) statement) block (with_tables known tables) around)
    (judged n around h description (typed (known.tables ++ tables) statement) block (with_tables known tables))

looks : (n : ℕ) (around : Around) → Surrounds n around → (description : RowDescription) (statement : Statement) (block : Block) (known : Knowledge) →
    Few2 n (told.looks description statement block known around)
looks n around h description statement block known =
    ask_looked (suc n) (calls.Look (length known.tables)) (λ tables. told.typed_over description statement block known tables around)
    (told.declined block known around) (λ tables. typed_over n around h description statement block known tables)
    (λ why. declined n around h block known why)

prepares : (n : ℕ) (around : Around) → Surrounds n around → (description : RowDescription) (statement : Statement) (block : Block) (known : Knowledge) →
    Few2 n (told.prepares description statement block known around)
prepares n around h description statement block known =
    unless_short_in n around h block known (told.looks description statement block known around) (looks n around h description statement block known)

at_once : (n : ℕ) (around : Around) → Surrounds n around → (description : RowDescription) (c : Course) (block : Block) (known : Knowledge) →
    Few2 n (told.at_once description c block known around)
at_once n around h description (done outcome) block known = concludes n around h description outcome block known
at_once n around h description (scan table rest) block known = lost_few (suc (suc n))
at_once n around h description (touch cell rest) block known = lost_few (suc (suc n))
at_once n around h description (write cell value rest) block known = lost_few (suc (suc n))

judged_at_once : (n : ℕ) (around : Around) → Surrounds n around → (description : RowDescription) (t : Result Typed) (block : Block) (known : Knowledge) →
    Few2 n (told.judged_at_once description t block known around)
judged_at_once n around h description (Ok t) block known = at_once n around h description (course_of [] t) block known
judged_at_once n around h description (Err code) block known = fails n around h code block known

selects : (n : ℕ) (around : Around) → Surrounds n around → (description : RowDescription) (entries : List TableRef) (statement : Statement) (block : Block)
    (known : Knowledge) → Few2 n (told.selects description entries statement block known around)
selects n around h description [] statement block known =
    unless_short_in n around h block known (told.judged_at_once description (typed [] statement) block known around)
    (judged_at_once n around h description (typed [] statement) block known)
selects n around h description (entry ∷ more) statement block known = prepares n around h description statement block known

-- ---- SET, SHOW

either : (n : ℕ) (b : Bool) (one other : Script) → Few n one → Few n other → Few n (cond b one other)
either n true one other first second = first
either n false one other first second = second

sets_level : (n : ℕ) (around : Around) → Surrounds n around → (level : Option Level) (block : Block) (known : Knowledge) →
    Few2 n (told.sets_level level block known around)
sets_level n around h (Some level) block known = succeeds n around h set_reply block (with_level known level)
sets_level n around h None block known = fails n around h states.S0A000 block known

sets : (n : ℕ) (around : Around) → Surrounds n around → (name : List ℕ) (values : List (List ℕ)) (block : Block) (known : Knowledge) →
    Few2 n (told.sets name values block known around)
sets n around h name values block known =
    either (suc (suc n)) (bytes_eq name level_name) _ _ (sets_level n around h (chosen_level known.served values) block known)
    (either (suc (suc n)) (is_own name) _ _ (fails n around h states.S0A000 block known) (succeeds n around h set_reply block known))

shows_value : (n : ℕ) (around : Around) → Surrounds n around → (description : RowDescription) (name : List ℕ) (value : Option (List ℕ)) (block : Block)
    (known : Knowledge) → Few2 n (told.shows_value description name value block known around)
shows_value n around h description name None block known = fails n around h states.S0A000 block known
shows_value n around h description name (Some value) block known =
    unless_short_in n around h block known (told.succeeds (show_reply description name value) block known around)
    (succeeds n around h (show_reply description name value) block known)

shows_history : (n : ℕ) (around : Around) → Surrounds n around → (description : RowDescription) (block : Block) (known : Knowledge) →
    Few2 n (told.shows_history description block known around)
shows_history n around h description block known =
    ask_shown (suc n) calls.Show _ (told.declined block known around)
    (λ m. unless_short_in n around h block known (told.succeeds (show_reply description history_name (decimal m)) block known around)
    (succeeds n around h (show_reply description history_name (decimal m)) block known))
    (λ why. declined n around h block known why)

shows : (n : ℕ) (around : Around) → Surrounds n around → (description : RowDescription) (name : List ℕ) (block : Block) (known : Knowledge) →
    Few2 n (told.shows description name block known around)
shows n around h description name block known =
    either (suc (suc n)) (bytes_eq name history_name) _ _ (shows_history n around h description block known)
    (shows_value n around h description name (value_of known.level name) block known)

-- ---- all of them

performs : (n : ℕ) (around : Around) → Surrounds n around → (description : RowDescription) (statement : Statement) (block : Block) (known : Knowledge) →
    Few2 n (told.performs description statement block known around)
performs n around h description (tree.Select select) block known = selects n around h description select.from (tree.Select select) block known
performs n around h description (tree.Insert insert) block known = prepares n around h description (tree.Insert insert) block known
performs n around h description (tree.Update update) block known = prepares n around h description (tree.Update update) block known
performs n around h description (tree.Delete delete) block known = prepares n around h description (tree.Delete delete) block known
performs n around h description (tree.Create create) block known =
    unless_short_in n around h block known (told.defines (built create) block known around) (defines n around h (built create) block known)
performs n around h description (tree.Begin start) block known = starts n around h start block known
performs n around h description tree.Commit block known = commits n around h block known
performs n around h description tree.Rollback block known = rolls_back n around h block known
performs n around h description (tree.Set name values) block known = sets n around h name values block known
performs n around h description tree.SetModes block known = succeeds n around h set_reply block known
performs n around h description (tree.Show name) block known = shows n around h description name block known

in_failed : (n : ℕ) (around : Around) → Surrounds n around → (statement : Statement) (known : Knowledge) → Few2 n (told.in_failed statement known around)
in_failed n around h tree.Commit known = commits n around h Failed known
in_failed n around h tree.Rollback known = rolls_back n around h Failed known
in_failed n around h _ known = fails n around h states.S25P02 Failed known

pub told_of : (n : ℕ) (around : Around) → Surrounds n around → (description : RowDescription) (statement : Statement) (block : Block) (known : Knowledge) →
    Few (suc (suc n)) (told.told_of description statement block known around)
told_of n around h description statement (Implicit pending) known = performs n around h description statement (Implicit pending) known
told_of n around h description statement Regular known = performs n around h description statement Regular known
told_of n around h description statement Failed known = in_failed n around h statement known
