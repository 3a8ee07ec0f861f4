-- What a statement's script tells after the answers whose effect has to be told, where what stands around it does so.
use Rattle.std.proofs.Common.{inl, inr, refl, Bool, true, false, cond, ℕ, List, [], ◌∷◌, ◌++◌, length, Option, Some, None, Ok, Err}
use Rattle.std.specs.Fmt.{decimal}
use Rattle.std.specs.Str.{bytes_eq}
use Rattle.cell_base.specs.declared.level.Level.{Level}
use Rattle.cell_base.specs.declared.sql_state.SqlState.{SqlState}
use Rattle.cell_base.specs.declared.sql_state.SqlState.TheVariants as states
use Rattle.history_core.specs.declared.fault.BookFault.{BookFault}
use Rattle.pg_framing.specs.declared.replies.TransactionState.{TransactionState}
use Rattle.pg_framing.specs.declared.replies.TransactionState.TheVariants as ready
use Rattle.sql_tree.specs.declared.statement.Statement.{Statement}
use Rattle.sql_tree.specs.declared.statement.Statement.TheVariants as tree
use Rattle.sql_tree.specs.declared.statement.TableRef.{TableRef}
use Rattle.sql_tree.specs.declared.table.Table.{Table}
use Rattle.sql_tree.specs.declared.typed.Typed.{Typed}
use Rattle.typing_rules.specs.Outcome.{Outcome as Result}
use Rattle.typing_rules.specs.Building.{built}
use Rattle.typing_rules.specs.Typed.{typed}
use Rattle.statement_course.specs.declared.demand.Outcome.{Outcome}
use Rattle.statement_course.specs.declared.demand.Outcome.TheVariants as outcomes
use Rattle.statement_course.specs.Course.{Course, scan, touch, write, done}
use Rattle.statement_course.specs.Statements.{course_of}
use Rattle.outcome_replies.specs.Replies.{outcome_reply}
use Rattle.outcome_replies.specs.declared.description.RowDescription.{RowDescription}
use Rattle.block_machine.specs.Calls as calls
use Rattle.block_machine.specs.Knowledge.{Knowledge, with_tables, with_level}
use Rattle.block_machine.specs.Settings.{is_own, history_name, level_name, chosen_level, value_of}
use Rattle.block_machine.specs.Replies.{error_reply, created_reply, set_reply, commit_reply, rollback_reply, needless_commit_reply, needless_rollback_reply, start_reply, needless_start_reply, show_reply}
use Rattle.block_machine.specs.Script.{Script}
use Rattle.block_machine.specs.Statements as told
use Rattle.block_machine.specs.Statements.{Around, owed_in, refusal_state}
use Rattle.block_machine.specs.declared.block.Block.{Block}
use Rattle.block_machine.specs.declared.block.Block.TheVariants.{Implicit, Regular, Failed}
use Rattle.block_machine.specs.declared.block.Owed.{Owed}
use Rattle.block_machine.specs.declared.block.Owed.TheVariants as owes
use Rattle.session_laws.proofs.MemoryScripts.{Fit, lost_fits, ask_fits, quiet_fits, tell_fits, short_fits, tell_replies, looked_fits, defined_fits, defined_replies, begun_fits, listed_fits, found_fits, written_fits, shown_fits}

-- what stands around a statement does so
pub record Surrounds (around : Around) : Type 0 where
  pub succeeded : (b : Block) (k : Knowledge) → Fit (around.succeeded b k)
  pub failed : (state : TransactionState) (k : Knowledge) → Fit (around.failed state k)
  pub broken : (owed : Owed) → Fit (around.broken owed)

pub succeeds : (around : Around) → Surrounds around → (reply : List ℕ) (block : Block) (known : Knowledge) →
    Fit (told.succeeds reply block known around)
succeeds around h reply block known =
    tell_fits reply (around.broken (owed_in block)) (around.succeeded block known) (h.broken (owed_in block)) (h.succeeded block known)

refused_with : (around : Around) → Surrounds around → (code : SqlState) (state : TransactionState) (known : Knowledge) →
    Fit (told.refused_with code state known around)
refused_with around h code state known =
    tell_fits (error_reply code) (around.broken owes.Close) (around.failed state known) (h.broken owes.Close) (h.failed state known)

pub fails : (around : Around) → Surrounds around → (code : SqlState) (block : Block) (known : Knowledge) →
    Fit (told.fails code block known around)
fails around h code (Implicit false) known = refused_with around h code ready.Idle known
fails around h code (Implicit true) known =
    ask_fits calls.Rollback (λ _. told.refused_with code ready.Idle known around) (λ a. refused_with around h code ready.Idle known)
    (λ a has. tell_replies calls.Rollback (error_reply code) (around.broken owes.Close) (around.failed ready.Idle known) (inr (inr (code, refl))) (h.broken owes.Close) (h.failed ready.Idle known))
fails around h code Regular known =
    ask_fits calls.Rollback (λ _. told.refused_with code ready.Failed known around) (λ a. refused_with around h code ready.Failed known)
    (λ a has. tell_replies calls.Rollback (error_reply code) (around.broken owes.Close) (around.failed ready.Failed known) (inr (inr (code, refl))) (h.broken owes.Close) (h.failed ready.Failed known))
fails around h code Failed known = refused_with around h code ready.Failed known

declined : (around : Around) → Surrounds around → (block : Block) (known : Knowledge) (why : BookFault) →
    Fit (told.declined block known around why)
declined around h block known why = fails around h (refusal_state why) block known

unless_short_in : (around : Around) → Surrounds around → (block : Block) (known : Knowledge) (script : Script) → Fit script →
    Fit (told.unless_short_in block known around script)
unless_short_in around h block known script fit =
    short_fits false (told.fails states.S53200 block known around) script (fails around h states.S53200 block known) fit

-- ---- BEGIN, COMMIT, ROLLBACK

starts : (around : Around) → Surrounds around → (start : Bool) (block : Block) (known : Knowledge) →
    Fit (told.starts start block known around)
starts around h start (Implicit false) known =
    quiet_fits (calls.Begin known.level) _ (λ a has. has)
    (begun_fits (told.succeeds (start_reply start) Regular known around) (told.declined (Implicit false) known around)
    (succeeds around h (start_reply start) Regular known)
    (λ why. declined around h (Implicit false) known why))
starts around h start (Implicit true) known = succeeds around h (start_reply start) Regular known
starts around h start Regular known = succeeds around h (needless_start_reply start) Regular known
starts around h start Failed known = fails around h states.S25P02 Failed known

commits : (around : Around) → Surrounds around → (block : Block) (known : Knowledge) → Fit (told.commits block known around)
commits around h (Implicit false) known = succeeds around h needless_commit_reply (Implicit false) known
commits around h (Implicit true) known =
    ask_fits calls.Commit _ (λ a. succeeds around h needless_commit_reply (Implicit false) known)
    (λ a has. tell_replies calls.Commit needless_commit_reply (around.broken owes.Close) (around.succeeded (Implicit false) known) (inr (inl refl)) (h.broken owes.Close) (h.succeeded (Implicit false) known))
commits around h Regular known = ask_fits calls.Commit _ (λ a. succeeds around h commit_reply (Implicit false) known)
    (λ a has. tell_replies calls.Commit commit_reply (around.broken owes.Close) (around.succeeded (Implicit false) known) (inl refl) (h.broken owes.Close) (h.succeeded (Implicit false) known))
commits around h Failed known = succeeds around h rollback_reply (Implicit false) known

rolls_back : (around : Around) → Surrounds around → (block : Block) (known : Knowledge) → Fit (told.rolls_back block known around)
rolls_back around h (Implicit false) known = succeeds around h needless_rollback_reply (Implicit false) known
rolls_back around h (Implicit true) known =
    ask_fits calls.Rollback _ (λ a. succeeds around h needless_rollback_reply (Implicit false) known)
    (λ a has. tell_replies calls.Rollback needless_rollback_reply (around.broken owes.Close) (around.succeeded (Implicit false) known) (inr (inl refl)) (h.broken owes.Close) (h.succeeded (Implicit false) known))
rolls_back around h Regular known = ask_fits calls.Rollback _ (λ a. succeeds around h rollback_reply (Implicit false) known)
    (λ a has. tell_replies calls.Rollback rollback_reply (around.broken owes.Close) (around.succeeded (Implicit false) known) (inl refl) (h.broken owes.Close) (h.succeeded (Implicit false) known))
rolls_back around h Failed known = succeeds around h rollback_reply (Implicit false) known

-- ---- CREATE TABLE

defines : (around : Around) → Surrounds around → (table : Result Table) (block : Block) (known : Knowledge) →
    Fit (told.defines table block known around)
defines around h (Err code) block known = fails around h code block known
defines around h (Ok table) block known =
    ask_fits (calls.Define table) _
    (defined_fits (told.succeeds created_reply block known around) (told.fails states.S42P07 block known around) (told.declined block known around)
    (succeeds around h created_reply block known) (fails around h states.S42P07 block known)
    (λ why. declined around h block known why))
    (defined_replies table (told.succeeds created_reply block known around) (told.fails states.S42P07 block known around) (told.declined block known around)
    (tell_replies (calls.Define table) created_reply (around.broken (owed_in block)) (around.succeeded block known) refl (h.broken (owed_in block)) (h.succeeded block known)))

-- ---- SELECT, INSERT, UPDATE, DELETE

concludes : (around : Around) → Surrounds around → (description : RowDescription) (outcome : Outcome) (block : Block) (known : Knowledge) →
    Fit (told.concludes description outcome block known around)
concludes around h description (outcomes.Failed code) block known = fails around h code block known
concludes around h description outcome block known = succeeds around h (outcome_reply description outcome) block known

runs : (around : Around) → Surrounds around → (description : RowDescription) (c : Course) (block : Block) (known : Knowledge) →
    Fit (told.runs description c block known around)
runs around h description (scan table rest) block known =
    quiet_fits (calls.Scan table) _ (λ a has. has)
    (listed_fits _ (told.declined block known around)
    (λ keys. unless_short_in around h block known (told.runs description (rest keys) block known around) (runs around h description (rest keys) block known))
    (λ why. declined around h block known why))
runs around h description (touch cell rest) block known =
    quiet_fits (calls.Touch cell) _ (λ a has. has)
    (found_fits _ (told.declined block known around)
    (λ value. unless_short_in around h block known (told.runs description (rest value) block known around) (runs around h description (rest value) block known))
    (λ why. declined around h block known why))
runs around h description (write cell value rest) block known =
    quiet_fits (calls.Write cell value) _ (λ a has. has)
    (written_fits _ (told.declined block known around)
    (unless_short_in around h block known (told.runs description rest block known around) (runs around h description rest block known))
    (λ why. declined around h block known why))
runs around h description (done outcome) block known = concludes around h description outcome block known

begins : (around : Around) → Surrounds around → (description : RowDescription) (c : Course) (block : Block) (known : Knowledge) →
    Fit (told.begins description c block known around)
begins around h description c (Implicit false) known =
    quiet_fits (calls.Begin known.level) _ (λ a has. has)
    (begun_fits (told.continues description c (Implicit true) known around) (told.declined (Implicit false) known around)
    (unless_short_in around h (Implicit true) known (told.runs description c (Implicit true) known around) (runs around h description c (Implicit true) known))
    (λ why. declined around h (Implicit false) known why))
begins around h description c (Implicit true) known = runs around h description c (Implicit true) known
begins around h description c Regular known = runs around h description c Regular known
begins around h description c Failed known = fails around h states.S25P02 Failed known

judged : (around : Around) → Surrounds around → (description : RowDescription) (t : Result Typed) (block : Block) (known : Knowledge) →
    Fit (told.judged description t block known around)
judged around h description (Ok t) block known = begins around h description (course_of known.tables t) block known
judged around h description (Err code) block known = fails around h code block known

typed_over : (around : Around) → Surrounds around → (description : RowDescription) (statement : Statement) (block : Block) (known : Knowledge) (tables : List Table) →
    Fit (told.typed_over description statement block known tables around)
typed_over around h description statement block known tables =
    unless_short_in around h block known (told.judged description (typed (known.tables ++ tables) statement) block (with_tables known tables) around)
    (judged around h description (typed (known.tables ++ tables) statement) block (with_tables known tables))

looks : (around : Around) → Surrounds around → (description : RowDescription) (statement : Statement) (block : Block) (known : Knowledge) →
    Fit (told.looks description statement block known around)
looks around h description statement block known =
    quiet_fits (calls.Look (length known.tables)) _ (λ a has. has)
    (looked_fits (λ tables. told.typed_over description statement block known tables around) (told.declined block known around)
    (λ tables. typed_over around h description statement block known tables)
    (λ why. declined around h block known why))

prepares : (around : Around) → Surrounds around → (description : RowDescription) (statement : Statement) (block : Block) (known : Knowledge) →
    Fit (told.prepares description statement block known around)
prepares around h description statement block known =
    unless_short_in around h block known (told.looks description statement block known around) (looks around h description statement block known)

at_once : (around : Around) → Surrounds around → (description : RowDescription) (c : Course) (block : Block) (known : Knowledge) →
    Fit (told.at_once description c block known around)
at_once around h description (done outcome) block known = concludes around h description outcome block known
at_once around h description (scan table rest) block known = lost_fits
at_once around h description (touch cell rest) block known = lost_fits
at_once around h description (write cell value rest) block known = lost_fits

judged_at_once : (around : Around) → Surrounds around → (description : RowDescription) (t : Result Typed) (block : Block) (known : Knowledge) →
    Fit (told.judged_at_once description t block known around)
judged_at_once around h description (Ok t) block known = at_once around h description (course_of [] t) block known
judged_at_once around h description (Err code) block known = fails around h code block known

selects : (around : Around) → Surrounds around → (description : RowDescription) (entries : List TableRef) (statement : Statement) (block : Block) (known : Knowledge) →
    Fit (told.selects description entries statement block known around)
selects around h description [] statement block known =
    unless_short_in around h block known (told.judged_at_once description (typed [] statement) block known around)
    (judged_at_once around h description (typed [] statement) block known)
selects around h description (entry ∷ more) statement block known = prepares around h description statement block known

-- ---- SET, SHOW

either : (b : Bool) (one other : Script) → Fit one → Fit other → Fit (cond b one other)
either true one other first second = first
either false one other first second = second

sets_level : (around : Around) → Surrounds around → (level : Option Level) (block : Block) (known : Knowledge) →
    Fit (told.sets_level level block known around)
sets_level around h (Some level) block known = succeeds around h set_reply block (with_level known level)
sets_level around h None block known = fails around h states.S0A000 block known

sets : (around : Around) → Surrounds around → (name : List ℕ) (values : List (List ℕ)) (block : Block) (known : Knowledge) →
    Fit (told.sets name values block known around)
sets around h name values block known =
    either (bytes_eq name level_name) _ _ (sets_level around h (chosen_level known.served values) block known)
    (either (is_own name) _ _ (fails around h states.S0A000 block known) (succeeds around h set_reply block known))

shows_value : (around : Around) → Surrounds around → (description : RowDescription) (name : List ℕ) (value : Option (List ℕ)) (block : Block) (known : Knowledge) →
    Fit (told.shows_value description name value block known around)
shows_value around h description name None block known = fails around h states.S0A000 block known
shows_value around h description name (Some value) block known =
    unless_short_in around h block known (told.succeeds (show_reply description name value) block known around)
    (succeeds around h (show_reply description name value) block known)

shows_history : (around : Around) → Surrounds around → (description : RowDescription) (block : Block) (known : Knowledge) →
    Fit (told.shows_history description block known around)
shows_history around h description block known =
    quiet_fits calls.Show _ (λ a has. has)
    (shown_fits _ (told.declined block known around)
    (λ n. unless_short_in around h block known (told.succeeds (show_reply description history_name (decimal n)) block known around)
    (succeeds around h (show_reply description history_name (decimal n)) block known))
    (λ why. declined around h block known why))

shows : (around : Around) → Surrounds around → (description : RowDescription) (name : List ℕ) (block : Block) (known : Knowledge) →
    Fit (told.shows description name block known around)
shows around h description name block known =
    either (bytes_eq name history_name) _ _ (shows_history around h description block known)
    (shows_value around h description name (value_of known.level name) block known)

-- ---- all of them

performs : (around : Around) → Surrounds around → (description : RowDescription) (statement : Statement) (block : Block) (known : Knowledge) →
    Fit (told.performs description statement block known around)
performs around h description (tree.Select select) block known = selects around h description select.from (tree.Select select) block known
performs around h description (tree.Insert insert) block known = prepares around h description (tree.Insert insert) block known
performs around h description (tree.Update update) block known = prepares around h description (tree.Update update) block known
performs around h description (tree.Delete delete) block known = prepares around h description (tree.Delete delete) block known
performs around h description (tree.Create create) block known =
    unless_short_in around h block known (told.defines (built create) block known around) (defines around h (built create) block known)
performs around h description (tree.Begin start) block known = starts around h start block known
performs around h description tree.Commit block known = commits around h block known
performs around h description tree.Rollback block known = rolls_back around h block known
performs around h description (tree.Set name values) block known = sets around h name values block known
performs around h description tree.SetModes block known = succeeds around h set_reply block known
performs around h description (tree.Show name) block known = shows around h description name block known

in_failed : (around : Around) → Surrounds around → (statement : Statement) (known : Knowledge) →
    Fit (told.in_failed statement known around)
in_failed around h tree.Commit known = commits around h Failed known
in_failed around h tree.Rollback known = rolls_back around h Failed known
in_failed around h _ known = fails around h states.S25P02 Failed known

pub told_of : (around : Around) → Surrounds around → (description : RowDescription) (statement : Statement) (block : Block) (known : Knowledge) →
    Fit (told.told_of description statement block known around)
told_of around h description statement (Implicit pending) known = performs around h description statement (Implicit pending) known
told_of around h description statement Regular known = performs around h description statement Regular known
told_of around h description statement Failed known = in_failed around h statement known
