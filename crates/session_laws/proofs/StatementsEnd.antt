-- What a statement's script ends in, where what stands around it ends so.
use Rattle.std.proofs.Common.{Bool, true, false, cond, ℕ, List, [], ◌∷◌, ◌++◌, length, Option, Some, None, Ok, Err}
use Rattle.std.specs.Fmt.{decimal}
use Rattle.std.specs.Str.{bytes_eq}
use Rattle.cell_base.specs.declared.level.Level.{Level}
use Rattle.cell_base.specs.declared.sql_state.SqlState.{SqlState}
use Rattle.cell_base.specs.declared.sql_state.SqlState.TheVariants as states
use Rattle.history_core.specs.declared.fault.BookFault.{BookFault}
use Rattle.pg_framing.specs.declared.replies.TransactionState.{TransactionState}
use Rattle.pg_framing.specs.declared.replies.TransactionState.TheVariants as ready
use Rattle.sql_tree.specs.declared.statement.Statement.{Statement}
use Rattle.sql_tree.specs.declared.statement.Statement.TheVariants as tree
use Rattle.sql_tree.specs.declared.statement.TableRef.{TableRef}
use Rattle.sql_tree.specs.declared.table.Table.{Table}
use Rattle.sql_tree.specs.declared.typed.Typed.{Typed}
use Rattle.typing_rules.specs.Outcome.{Outcome as Result}
use Rattle.typing_rules.specs.Building.{built}
use Rattle.typing_rules.specs.Typed.{typed}
use Rattle.statement_course.specs.declared.demand.Outcome.{Outcome}
use Rattle.statement_course.specs.declared.demand.Outcome.TheVariants as outcomes
use Rattle.statement_course.specs.Course.{Course, scan, touch, write, done}
use Rattle.statement_course.specs.Statements.{course_of}
use Rattle.outcome_replies.specs.Replies.{outcome_reply}
use Rattle.outcome_replies.specs.declared.description.RowDescription.{RowDescription}
use Rattle.block_machine.specs.Calls as calls
use Rattle.block_machine.specs.Knowledge.{Knowledge, with_tables, with_level}
use Rattle.block_machine.specs.Settings.{is_own, history_name, level_name, chosen_level, value_of}
use Rattle.block_machine.specs.Replies.{error_reply, created_reply, set_reply, commit_reply, rollback_reply, needless_commit_reply, needless_rollback_reply, start_reply, needless_start_reply, show_reply}
use Rattle.block_machine.specs.Script.{Script}
use Rattle.block_machine.specs.Statements as told
use Rattle.block_machine.specs.Statements.{Around, owed_in, refusal_state}
use Rattle.block_machine.specs.declared.block.Block.{Block}
use Rattle.block_machine.specs.declared.block.Block.TheVariants.{Implicit, Regular, Failed}
use Rattle.block_machine.specs.declared.block.Owed.{Owed}
use Rattle.block_machine.specs.declared.block.Owed.TheVariants as owes
use Rattle.block_machine.specs.declared.end.End.{End}
use Rattle.block_machine.specs.declared.end.End.TheVariants as ends
use Rattle.block_machine.specs.Script.{Entry}
use Rattle.session_laws.proofs.EndScripts.{Why, Is, IsFit, EndsIn, lost_ends, ask_ends, tell_ends, short_ends, after_short, looked_ends, defined_ends, begun_ends, listed_ends, found_ends, written_ends, shown_ends}

-- what stands around a statement ends so, and where its reply can't be sent it ends with that
pub record Surrounds (P : End → List Entry → Type 0) (around : Around) : Type 0 where
  pub succeeded : (b : Block) (k : Knowledge) → EndsIn P (around.succeeded b k)
  pub failed : (state : TransactionState) (k : Knowledge) → EndsIn P (around.failed state k)
  pub broken : (owed : Owed) → EndsIn (Is ends.WriteFault) (around.broken owed)

pub succeeds : (P : Why) → IsFit P → (around : Around) → Surrounds P around → (reply : List ℕ) (block : Block) (known : Knowledge) →
    EndsIn P (told.succeeds reply block known around)
succeeds P fit around h reply block known =
    tell_ends P fit reply (around.broken (owed_in block)) (around.succeeded block known) (h.broken (owed_in block)) (h.succeeded block known)

refused_with : (P : Why) → IsFit P → (around : Around) → Surrounds P around → (code : SqlState) (state : TransactionState) (known : Knowledge) →
    EndsIn P (told.refused_with code state known around)
refused_with P fit around h code state known =
    tell_ends P fit (error_reply code) (around.broken owes.Close) (around.failed state known) (h.broken owes.Close) (h.failed state known)

pub fails : (P : Why) → IsFit P → (around : Around) → Surrounds P around → (code : SqlState) (block : Block) (known : Knowledge) →
    EndsIn P (told.fails code block known around)
fails P fit around h code (Implicit false) known = refused_with P fit around h code ready.Idle known
fails P fit around h code (Implicit true) known =
    ask_ends P fit calls.Rollback (λ _. told.refused_with code ready.Idle known around) (λ a. refused_with P fit around h code ready.Idle known)
fails P fit around h code Regular known =
    ask_ends P fit calls.Rollback (λ _. told.refused_with code ready.Failed known around) (λ a. refused_with P fit around h code ready.Failed known)
fails P fit around h code Failed known = refused_with P fit around h code ready.Failed known

declined : (P : Why) → IsFit P → (around : Around) → Surrounds P around → (block : Block) (known : Knowledge) (why : BookFault) →
    EndsIn P (told.declined block known around why)
declined P fit around h block known why = fails P fit around h (refusal_state why) block known

unless_short_in : (P : Why) → IsFit P → (around : Around) → Surrounds P around → (block : Block) (known : Knowledge) (script : Script) → EndsIn P script →
    EndsIn P (told.unless_short_in block known around script)
unless_short_in P fit around h block known script ends_in =
    short_ends P false (told.fails states.S53200 block known around) script
    (after_short P fit false (told.fails states.S53200 block known around) (fails P fit around h states.S53200 block known)) ends_in

-- ---- BEGIN, COMMIT, ROLLBACK

starts : (P : Why) → IsFit P → (around : Around) → Surrounds P around → (start : Bool) (block : Block) (known : Knowledge) →
    EndsIn P (told.starts start block known around)
starts P fit around h start (Implicit false) known =
    ask_ends P fit (calls.Begin known.level) _
    (begun_ends P (told.succeeds (start_reply start) Regular known around) (told.declined (Implicit false) known around)
    (succeeds P fit around h (start_reply start) Regular known)
    (λ why. declined P fit around h (Implicit false) known why))
starts P fit around h start (Implicit true) known = succeeds P fit around h (start_reply start) Regular known
starts P fit around h start Regular known = succeeds P fit around h (needless_start_reply start) Regular known
starts P fit around h start Failed known = fails P fit around h states.S25P02 Failed known

commits : (P : Why) → IsFit P → (around : Around) → Surrounds P around → (block : Block) (known : Knowledge) → EndsIn P (told.commits block known around)
commits P fit around h (Implicit false) known = succeeds P fit around h needless_commit_reply (Implicit false) known
commits P fit around h (Implicit true) known =
    ask_ends P fit calls.Commit _ (λ a. succeeds P fit around h needless_commit_reply (Implicit false) known)
commits P fit around h Regular known = ask_ends P fit calls.Commit _ (λ a. succeeds P fit around h commit_reply (Implicit false) known)
commits P fit around h Failed known = succeeds P fit around h rollback_reply (Implicit false) known

rolls_back : (P : Why) → IsFit P → (around : Around) → Surrounds P around → (block : Block) (known : Knowledge) → EndsIn P (told.rolls_back block known around)
rolls_back P fit around h (Implicit false) known = succeeds P fit around h needless_rollback_reply (Implicit false) known
rolls_back P fit around h (Implicit true) known =
    ask_ends P fit calls.Rollback _ (λ a. succeeds P fit around h needless_rollback_reply (Implicit false) known)
rolls_back P fit around h Regular known = ask_ends P fit calls.Rollback _ (λ a. succeeds P fit around h rollback_reply (Implicit false) known)
rolls_back P fit around h Failed known = succeeds P fit around h rollback_reply (Implicit false) known

-- ---- CREATE TABLE

defines : (P : Why) → IsFit P → (around : Around) → Surrounds P around → (table : Result Table) (block : Block) (known : Knowledge) →
    EndsIn P (told.defines table block known around)
defines P fit around h (Err code) block known = fails P fit around h code block known
defines P fit around h (Ok table) block known =
    ask_ends P fit (calls.Define table) _
    (defined_ends P (told.succeeds created_reply block known around) (told.fails states.S42P07 block known around) (told.declined block known around)
    (succeeds P fit around h created_reply block known) (fails P fit around h states.S42P07 block known)
    (λ why. declined P fit around h block known why))

-- ---- SELECT, INSERT, UPDATE, DELETE

concludes : (P : Why) → IsFit P → (around : Around) → Surrounds P around → (description : RowDescription) (outcome : Outcome) (block : Block) (known : Knowledge) →
    EndsIn P (told.concludes description outcome block known around)
concludes P fit around h description (outcomes.Failed code) block known = fails P fit around h code block known
concludes P fit around h description outcome block known = succeeds P fit around h (outcome_reply description outcome) block known

runs : (P : Why) → IsFit P → (around : Around) → Surrounds P around → (description : RowDescription) (c : Course) (block : Block) (known : Knowledge) →
    EndsIn P (told.runs description c block known around)
runs P fit around h description (scan table rest) block known =
    ask_ends P fit (calls.Scan table) _
    (listed_ends P _ (told.declined block known around)
    (λ keys. unless_short_in P fit around h block known (told.runs description (rest keys) block known around) (runs P fit around h description (rest keys) block known))
    (λ why. declined P fit around h block known why))
runs P fit around h description (touch cell rest) block known =
    ask_ends P fit (calls.Touch cell) _
    (found_ends P _ (told.declined block known around)
    (λ value. unless_short_in P fit around h block known (told.runs description (rest value) block known around) (runs P fit around h description (rest value) block known))
    (λ why. declined P fit around h block known why))
runs P fit around h description (write cell value rest) block known =
    ask_ends P fit (calls.Write cell value) _
    (written_ends P _ (told.declined block known around)
    (unless_short_in P fit around h block known (told.runs description rest block known around) (runs P fit around h description rest block known))
    (λ why. declined P fit around h block known why))
runs P fit around h description (done outcome) block known = concludes P fit around h description outcome block known

begins : (P : Why) → IsFit P → (around : Around) → Surrounds P around → (description : RowDescription) (c : Course) (block : Block) (known : Knowledge) →
    EndsIn P (told.begins description c block known around)
begins P fit around h description c (Implicit false) known =
    ask_ends P fit (calls.Begin known.level) _
    (begun_ends P (told.continues description c (Implicit true) known around) (told.declined (Implicit false) known around)
    (unless_short_in P fit around h (Implicit true) known (told.runs description c (Implicit true) known around) (runs P fit around h description c (Implicit true) known))
    (λ why. declined P fit around h (Implicit false) known why))
begins P fit around h description c (Implicit true) known = runs P fit around h description c (Implicit true) known
begins P fit around h description c Regular known = runs P fit around h description c Regular known
begins P fit around h description c Failed known = fails P fit around h states.S25P02 Failed known

judged : (P : Why) → IsFit P → (around : Around) → Surrounds P around → (description : RowDescription) (t : Result Typed) (block : Block) (known : Knowledge) →
    EndsIn P (told.judged description t block known around)
judged P fit around h description (Ok t) block known = begins P fit around h description (course_of known.tables t) block known
judged P fit around h description (Err code) block known = fails P fit around h code block known

typed_over : (P : Why) → IsFit P → (around : Around) → Surrounds P around → (description : RowDescription) (statement : Statement) (block : Block) (known : Knowledge) (tables : List Table) →
    EndsIn P (told.typed_over description statement block known tables around)
typed_over P fit around h description statement block known tables =
    unless_short_in P fit around h block known (told.judged description (typed (known.tables ++ tables) statement) block (with_tables known tables) around)
    (judged P fit around h description (typed (known.tables ++ tables) statement) block (with_tables known tables))

looks : (P : Why) → IsFit P → (around : Around) → Surrounds P around → (description : RowDescription) (statement : Statement) (block : Block) (known : Knowledge) →
    EndsIn P (told.looks description statement block known around)
looks P fit around h description statement block known =
    ask_ends P fit (calls.Look (length known.tables)) _
    (looked_ends P (λ tables. told.typed_over description statement block known tables around) (told.declined block known around)
    (λ tables. typed_over P fit around h description statement block known tables)
    (λ why. declined P fit around h block known why))

prepares : (P : Why) → IsFit P → (around : Around) → Surrounds P around → (description : RowDescription) (statement : Statement) (block : Block) (known : Knowledge) →
    EndsIn P (told.prepares description statement block known around)
prepares P fit around h description statement block known =
    unless_short_in P fit around h block known (told.looks description statement block known around) (looks P fit around h description statement block known)

at_once : (P : Why) → IsFit P → (around : Around) → Surrounds P around → (description : RowDescription) (c : Course) (block : Block) (known : Knowledge) →
    EndsIn P (told.at_once description c block known around)
at_once P fit around h description (done outcome) block known = concludes P fit around h description outcome block known
at_once P fit around h description (scan table rest) block known = lost_ends P
at_once P fit around h description (touch cell rest) block known = lost_ends P
at_once P fit around h description (write cell value rest) block known = lost_ends P

judged_at_once : (P : Why) → IsFit P → (around : Around) → Surrounds P around → (description : RowDescription) (t : Result Typed) (block : Block) (known : Knowledge) →
    EndsIn P (told.judged_at_once description t block known around)
judged_at_once P fit around h description (Ok t) block known = at_once P fit around h description (course_of [] t) block known
judged_at_once P fit around h description (Err code) block known = fails P fit around h code block known

selects : (P : Why) → IsFit P → (around : Around) → Surrounds P around → (description : RowDescription) (entries : List TableRef) (statement : Statement) (block : Block) (known : Knowledge) →
    EndsIn P (told.selects description entries statement block known around)
selects P fit around h description [] statement block known =
    unless_short_in P fit around h block known (told.judged_at_once description (typed [] statement) block known around)
    (judged_at_once P fit around h description (typed [] statement) block known)
selects P fit around h description (entry ∷ more) statement block known = prepares P fit around h description statement block known

-- ---- SET, SHOW

either : (P : Why) (b : Bool) (one other : Script) → EndsIn P one → EndsIn P other → EndsIn P (cond b one other)
either P true one other first second = first
either P false one other first second = second

sets_level : (P : Why) → IsFit P → (around : Around) → Surrounds P around → (level : Option Level) (block : Block) (known : Knowledge) →
    EndsIn P (told.sets_level level block known around)
sets_level P fit around h (Some level) block known = succeeds P fit around h set_reply block (with_level known level)
sets_level P fit around h None block known = fails P fit around h states.S0A000 block known

sets : (P : Why) → IsFit P → (around : Around) → Surrounds P around → (name : List ℕ) (values : List (List ℕ)) (block : Block) (known : Knowledge) →
    EndsIn P (told.sets name values block known around)
sets P fit around h name values block known =
    either P (bytes_eq name level_name) _ _ (sets_level P fit around h (chosen_level known.served values) block known)
    (either P (is_own name) _ _ (fails P fit around h states.S0A000 block known) (succeeds P fit around h set_reply block known))

shows_value : (P : Why) → IsFit P → (around : Around) → Surrounds P around → (description : RowDescription) (name : List ℕ) (value : Option (List ℕ)) (block : Block) (known : Knowledge) →
    EndsIn P (told.shows_value description name value block known around)
shows_value P fit around h description name None block known = fails P fit around h states.S0A000 block known
shows_value P fit around h description name (Some value) block known =
    unless_short_in P fit around h block known (told.succeeds (show_reply description name value) block known around)
    (succeeds P fit around h (show_reply description name value) block known)

shows_history : (P : Why) → IsFit P → (around : Around) → Surrounds P around → (description : RowDescription) (block : Block) (known : Knowledge) →
    EndsIn P (told.shows_history description block known around)
shows_history P fit around h description block known =
    ask_ends P fit calls.Show _
    (shown_ends P _ (told.declined block known around)
    (λ n. unless_short_in P fit around h block known (told.succeeds (show_reply description history_name (decimal n)) block known around)
    (succeeds P fit around h (show_reply description history_name (decimal n)) block known))
    (λ why. declined P fit around h block known why))

shows : (P : Why) → IsFit P → (around : Around) → Surrounds P around → (description : RowDescription) (name : List ℕ) (block : Block) (known : Knowledge) →
    EndsIn P (told.shows description name block known around)
shows P fit around h description name block known =
    either P (bytes_eq name history_name) _ _ (shows_history P fit around h description block known)
    (shows_value P fit around h description name (value_of known.level name) block known)

-- ---- all of them

performs : (P : Why) → IsFit P → (around : Around) → Surrounds P around → (description : RowDescription) (statement : Statement) (block : Block) (known : Knowledge) →
    EndsIn P (told.performs description statement block known around)
performs P fit around h description (tree.Select select) block known = selects P fit around h description select.from (tree.Select select) block known
performs P fit around h description (tree.Insert insert) block known = prepares P fit around h description (tree.Insert insert) block known
performs P fit around h description (tree.Update update) block known = prepares P fit around h description (tree.Update update) block known
performs P fit around h description (tree.Delete delete) block known = prepares P fit around h description (tree.Delete delete) block known
performs P fit around h description (tree.Create create) block known =
    unless_short_in P fit around h block known (told.defines (built create) block known around) (defines P fit around h (built create) block known)
performs P fit around h description (tree.Begin start) block known = starts P fit around h start block known
performs P fit around h description tree.Commit block known = commits P fit around h block known
performs P fit around h description tree.Rollback block known = rolls_back P fit around h block known
performs P fit around h description (tree.Set name values) block known = sets P fit around h name values block known
performs P fit around h description tree.SetModes block known = succeeds P fit around h set_reply block known
performs P fit around h description (tree.Show name) block known = shows P fit around h description name block known

in_failed : (P : Why) → IsFit P → (around : Around) → Surrounds P around → (statement : Statement) (known : Knowledge) →
    EndsIn P (told.in_failed statement known around)
in_failed P fit around h tree.Commit known = commits P fit around h Failed known
in_failed P fit around h tree.Rollback known = rolls_back P fit around h Failed known
in_failed P fit around h _ known = fails P fit around h states.S25P02 Failed known

pub told_of : (P : Why) → IsFit P → (around : Around) → Surrounds P around → (description : RowDescription) (statement : Statement) (block : Block) (known : Knowledge) →
    EndsIn P (told.told_of description statement block known around)
told_of P fit around h description statement (Implicit pending) known = performs P fit around h description statement (Implicit pending) known
told_of P fit around h description statement Regular known = performs P fit around h description statement Regular known
told_of P fit around h description statement Failed known = in_failed P fit around h statement known
