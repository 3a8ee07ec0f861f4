-- A statement's script agrees with itself where what stands around it does.
use Rattle.std.proofs.Common.{Bool, true, false, cond, ℕ, List, [], ◌∷◌, ◌++◌, length, Option, Some, None, Ok, Err}
use Rattle.std.specs.Fmt.{decimal}
use Rattle.std.specs.Str.{bytes_eq}
use Rattle.cell_base.specs.declared.level.Level.{Level}
use Rattle.cell_base.specs.declared.sql_state.SqlState.{SqlState}
use Rattle.cell_base.specs.declared.sql_state.SqlState.TheVariants as states
use Rattle.history_core.specs.declared.fault.BookFault.{BookFault}
use Rattle.pg_framing.specs.declared.replies.TransactionState.{TransactionState}
use Rattle.pg_framing.specs.declared.replies.TransactionState.TheVariants as ready
use Rattle.sql_tree.specs.declared.statement.Statement.{Statement}
use Rattle.sql_tree.specs.declared.statement.Statement.TheVariants as tree
use Rattle.sql_tree.specs.declared.statement.TableRef.{TableRef}
use Rattle.sql_tree.specs.declared.table.Table.{Table}
use Rattle.sql_tree.specs.declared.typed.Typed.{Typed}
use Rattle.typing_rules.specs.Outcome.{Outcome as Result}
use Rattle.typing_rules.specs.Building.{built}
use Rattle.typing_rules.specs.Typed.{typed}
use Rattle.statement_course.specs.declared.demand.Outcome.{Outcome}
use Rattle.statement_course.specs.declared.demand.Outcome.TheVariants as outcomes
use Rattle.statement_course.specs.Course.{Course, scan, touch, write, done}
use Rattle.statement_course.specs.Statements.{course_of}
use Rattle.outcome_replies.specs.Replies.{outcome_reply}
use Rattle.outcome_replies.specs.declared.description.RowDescription.{RowDescription}
use Rattle.block_machine.specs.declared.end.End.{End}
use Rattle.block_machine.specs.Calls as calls
use Rattle.block_machine.specs.Knowledge.{Knowledge, with_tables, with_level}
use Rattle.block_machine.specs.Settings.{is_own, history_name, level_name, chosen_level, value_of}
use Rattle.block_machine.specs.Replies.{error_reply, created_reply, set_reply, commit_reply, rollback_reply, needless_commit_reply, needless_rollback_reply, start_reply, needless_start_reply, show_reply}
use Rattle.block_machine.specs.Script.{Script}
use Rattle.block_machine.specs.Statements as told
use Rattle.block_machine.specs.Statements.{Around, owed_in, refusal_state}
use Rattle.block_machine.specs.declared.block.Block.{Block}
use Rattle.block_machine.specs.declared.block.Block.TheVariants.{Implicit, Regular, Failed}
use Rattle.block_machine.specs.declared.block.Owed.{Owed}
use Rattle.block_machine.specs.declared.block.Owed.TheVariants as owes
use Rattle.program_laws.proofs.Rides.{Agree, Breaks, lost_agrees, tell_agrees, at_rest_agrees}
use Rattle.program_laws.proofs.Turning.{ask_agrees}
use Rattle.program_laws.proofs.Cases.{looked_agrees, defined_agrees, begun_agrees, listed_agrees, found_agrees, written_agrees, shown_agrees}

-- what stands around a statement agrees
pub record Alike (E : End → Type 0) (x y : Around) : Type 0 where
  pub succeeded : (b : Block) (k : Knowledge) → Agree E (x.succeeded b k) (y.succeeded b k)
  pub failed : (state : TransactionState) (k : Knowledge) → Agree E (x.failed state k) (y.failed state k)
  pub left : (owed : Owed) → Breaks (x.broken owed)
  pub right : (owed : Owed) → Breaks (y.broken owed)

pub succeeds : (E : End → Type 0) → (x y : Around) → Alike E x y → (reply : List ℕ) (block : Block) (known : Knowledge) →
    Agree E (told.succeeds reply block known x) (told.succeeds reply block known y)
succeeds E x y h reply block known =
    tell_agrees E reply (x.broken (owed_in block)) (y.broken (owed_in block)) (x.succeeded block known) (y.succeeded block known)
    (h.left (owed_in block)) (h.right (owed_in block)) (h.succeeded block known)

refused_with : (E : End → Type 0) → (x y : Around) → Alike E x y → (code : SqlState) (state : TransactionState) (known : Knowledge) →
    Agree E (told.refused_with code state known x) (told.refused_with code state known y)
refused_with E x y h code state known =
    tell_agrees E (error_reply code) (x.broken owes.Close) (y.broken owes.Close) (x.failed state known) (y.failed state known)
    (h.left owes.Close) (h.right owes.Close) (h.failed state known)

pub fails : (E : End → Type 0) → (x y : Around) → Alike E x y → (code : SqlState) (block : Block) (known : Knowledge) →
    Agree E (told.fails code block known x) (told.fails code block known y)
fails E x y h code (Implicit false) known = refused_with E x y h code ready.Idle known
fails E x y h code (Implicit true) known =
    ask_agrees E calls.Rollback (λ _. told.refused_with code ready.Idle known x) (λ _. told.refused_with code ready.Idle known y)
    (λ _. refused_with E x y h code ready.Idle known)
fails E x y h code Regular known =
    ask_agrees E calls.Rollback (λ _. told.refused_with code ready.Failed known x) (λ _. told.refused_with code ready.Failed known y)
    (λ _. refused_with E x y h code ready.Failed known)
fails E x y h code Failed known = refused_with E x y h code ready.Failed known

declined : (E : End → Type 0) → (x y : Around) → Alike E x y → (block : Block) (known : Knowledge) (why : BookFault) →
    Agree E (told.declined block known x why) (told.declined block known y why)
declined E x y h block known why = fails E x y h (refusal_state why) block known

at_rest : (E : End → Type 0) → (x y : Around) (block : Block) (known : Knowledge) (s t : Script) → Agree E s t →
    Agree E (told.unless_short_in block known x s) (told.unless_short_in block known y t)
at_rest E x y block known s t agree = at_rest_agrees E false (told.fails states.S53200 block known x) (told.fails states.S53200 block known y) s t agree

-- ---- BEGIN, COMMIT, ROLLBACK

starts : (E : End → Type 0) → (x y : Around) → Alike E x y → (start : Bool) (block : Block) (known : Knowledge) →
    Agree E (told.starts start block known x) (told.starts start block known y)
starts E x y h start (Implicit false) known =
    ask_agrees E (calls.Begin known.level) _ _
    (λ a. begun_agrees E a _ _ _ _ (succeeds E x y h (start_reply start) Regular known) (declined E x y h (Implicit false) known))
starts E x y h start (Implicit true) known = succeeds E x y h (start_reply start) Regular known
starts E x y h start Regular known = succeeds E x y h (needless_start_reply start) Regular known
starts E x y h start Failed known = fails E x y h states.S25P02 Failed known

commits : (E : End → Type 0) → (x y : Around) → Alike E x y → (block : Block) (known : Knowledge) → Agree E (told.commits block known x) (told.commits block known y)
commits E x y h (Implicit false) known = succeeds E x y h needless_commit_reply (Implicit false) known
commits E x y h (Implicit true) known = ask_agrees E calls.Commit _ _ (λ _. succeeds E x y h needless_commit_reply (Implicit false) known)
commits E x y h Regular known = ask_agrees E calls.Commit _ _ (λ _. succeeds E x y h commit_reply (Implicit false) known)
commits E x y h Failed known = succeeds E x y h rollback_reply (Implicit false) known

rolls_back : (E : End → Type 0) → (x y : Around) → Alike E x y → (block : Block) (known : Knowledge) → Agree E (told.rolls_back block known x) (told.rolls_back block known y)
rolls_back E x y h (Implicit false) known = succeeds E x y h needless_rollback_reply (Implicit false) known
rolls_back E x y h (Implicit true) known = ask_agrees E calls.Rollback _ _ (λ _. succeeds E x y h needless_rollback_reply (Implicit false) known)
rolls_back E x y h Regular known = ask_agrees E calls.Rollback _ _ (λ _. succeeds E x y h rollback_reply (Implicit false) known)
rolls_back E x y h Failed known = succeeds E x y h rollback_reply (Implicit false) known

-- ---- CREATE TABLE

define_asks : (E : End → Type 0) → (x y : Around) → Alike E x y → (table : Table) (block : Block) (known : Knowledge) →
    Agree E (told.defines (Ok table) block known x) (told.defines (Ok table) block known y)
define_asks E x y h table block known =
    ask_agrees E (calls.Define table) _ _
    (λ a. defined_agrees E a _ _ _ _ _ _ (succeeds E x y h created_reply block known) (fails E x y h states.S42P07 block known) (declined E x y h block known))

defines : (E : End → Type 0) → (x y : Around) → Alike E x y → (table : Result Table) (block : Block) (known : Knowledge) →
    Agree E (told.defines table block known x) (told.defines table block known y)
defines E x y h (Err code) block known = fails E x y h code block known
defines E x y h (Ok table) block known = define_asks E x y h table block known

-- ---- SELECT, INSERT, UPDATE, DELETE

concludes : (E : End → Type 0) → (x y : Around) → Alike E x y → (description : RowDescription) (outcome : Outcome) (block : Block) (known : Knowledge) →
    Agree E (told.concludes description outcome block known x) (told.concludes description outcome block known y)
concludes E x y h description (outcomes.Failed code) block known = fails E x y h code block known
concludes E x y h description outcome block known = succeeds E x y h (outcome_reply description outcome) block known

runs : (E : End → Type 0) → (x y : Around) → Alike E x y → (description : RowDescription) (c : Course) (block : Block) (known : Knowledge) → Agree E (told.runs description c block known x) (told.runs description c block known y)
runs E x y h description (scan table next) block known =
    ask_agrees E (calls.Scan table) _ _
    (λ a. listed_agrees E a _ _ _ _ (λ keys. at_rest E x y block known (told.runs description (next keys) block known x) (told.runs description (next keys) block known y) (runs E x y h description (next keys) block known))
    (declined E x y h block known))
runs E x y h description (touch cell next) block known =
    ask_agrees E (calls.Touch cell) _ _
    (λ a. found_agrees E a _ _ _ _ (λ value. at_rest E x y block known (told.runs description (next value) block known x) (told.runs description (next value) block known y) (runs E x y h description (next value) block known))
    (declined E x y h block known))
runs E x y h description (write cell value next) block known =
    ask_agrees E (calls.Write cell value) _ _
    (λ a. written_agrees E a _ _ _ _ (at_rest E x y block known (told.runs description next block known x) (told.runs description next block known y) (runs E x y h description next block known))
    (declined E x y h block known))
runs E x y h description (done outcome) block known = concludes E x y h description outcome block known

begins : (E : End → Type 0) → (x y : Around) → Alike E x y → (description : RowDescription) (c : Course) (block : Block) (known : Knowledge) →
    Agree E (told.begins description c block known x) (told.begins description c block known y)
begins E x y h description c (Implicit false) known =
    ask_agrees E (calls.Begin known.level) _ _
    (λ a. begun_agrees E a _ _ _ _
    (at_rest E x y (Implicit true) known (told.runs description c (Implicit true) known x) (told.runs description c (Implicit true) known y) (runs E x y h description c (Implicit true) known))
    (declined E x y h (Implicit false) known))
begins E x y h description c (Implicit true) known = runs E x y h description c (Implicit true) known
begins E x y h description c Regular known = runs E x y h description c Regular known
begins E x y h description c Failed known = fails E x y h states.S25P02 Failed known

judged : (E : End → Type 0) → (x y : Around) → Alike E x y → (description : RowDescription) (t : Result Typed) (block : Block) (known : Knowledge) →
    Agree E (told.judged description t block known x) (told.judged description t block known y)
judged E x y h description (Ok t) block known = begins E x y h description (course_of known.tables t) block known
judged E x y h description (Err code) block known = fails E x y h code block known

typed_over : (E : End → Type 0) → (x y : Around) → Alike E x y → (description : RowDescription) (statement : Statement) (block : Block) (known : Knowledge) (tables : List Table) →
    Agree E (told.typed_over description statement block known tables x) (told.typed_over description statement block known tables y)
typed_over E x y h description statement block known tables =
    at_rest E x y block known (told.judged description (typed (known.tables ++ tables) statement) block (with_tables known tables) x)
    (told.judged description (typed (known.tables ++ tables) statement) block (with_tables known tables) y)
    (judged E x y h description (typed (known.tables ++ tables) statement) block (with_tables known tables))

looks : (E : End → Type 0) → (x y : Around) → Alike E x y → (description : RowDescription) (statement : Statement) (block : Block) (known : Knowledge) →
    Agree E (told.looks description statement block known x) (told.looks description statement block known y)
looks E x y h description statement block known =
    ask_agrees E (calls.Look (length known.tables)) _ _
    (λ a. looked_agrees E a _ _ _ _ (λ tables. typed_over E x y h description statement block known tables) (declined E x y h block known))

prepares : (E : End → Type 0) → (x y : Around) → Alike E x y → (description : RowDescription) (statement : Statement) (block : Block) (known : Knowledge) →
    Agree E (told.prepares description statement block known x) (told.prepares description statement block known y)
prepares E x y h description statement block known =
    at_rest E x y block known (told.looks description statement block known x) (told.looks description statement block known y) (looks E x y h description statement block known)

at_once : (E : End → Type 0) → (x y : Around) → Alike E x y → (description : RowDescription) (c : Course) (block : Block) (known : Knowledge) →
    Agree E (told.at_once description c block known x) (told.at_once description c block known y)
at_once E x y h description (done outcome) block known = concludes E x y h description outcome block known
at_once E x y h description (scan table next) block known = (lost_agrees E)
at_once E x y h description (touch cell next) block known = (lost_agrees E)
at_once E x y h description (write cell value next) block known = (lost_agrees E)

judged_at_once : (E : End → Type 0) → (x y : Around) → Alike E x y → (description : RowDescription) (t : Result Typed) (block : Block) (known : Knowledge) →
    Agree E (told.judged_at_once description t block known x) (told.judged_at_once description t block known y)
judged_at_once E x y h description (Ok t) block known = at_once E x y h description (course_of [] t) block known
judged_at_once E x y h description (Err code) block known = fails E x y h code block known

selects : (E : End → Type 0) → (x y : Around) → Alike E x y → (description : RowDescription) (entries : List TableRef) (statement : Statement) (block : Block) (known : Knowledge) →
    Agree E (told.selects description entries statement block known x) (told.selects description entries statement block known y)
selects E x y h description [] statement block known =
    at_rest E x y block known (told.judged_at_once description (typed [] statement) block known x) (told.judged_at_once description (typed [] statement) block known y)
    (judged_at_once E x y h description (typed [] statement) block known)
selects E x y h description (entry ∷ more) statement block known = prepares E x y h description statement block known

-- ---- SET, SHOW

either : (E : End → Type 0) → (b : Bool) (s t u v : Script) → Agree E s t → Agree E u v → Agree E (cond b s u) (cond b t v)
either E true s t u v one two = one
either E false s t u v one two = two

sets_level : (E : End → Type 0) → (x y : Around) → Alike E x y → (level : Option Level) (block : Block) (known : Knowledge) →
    Agree E (told.sets_level level block known x) (told.sets_level level block known y)
sets_level E x y h (Some level) block known = succeeds E x y h set_reply block (with_level known level)
sets_level E x y h None block known = fails E x y h states.S0A000 block known

sets : (E : End → Type 0) → (x y : Around) → Alike E x y → (name : List ℕ) (values : List (List ℕ)) (block : Block) (known : Knowledge) →
    Agree E (told.sets name values block known x) (told.sets name values block known y)
sets E x y h name values block known =
    either E (bytes_eq name level_name) _ _ _ _ (sets_level E x y h (chosen_level known.served values) block known)
    (either E (is_own name) _ _ _ _ (fails E x y h states.S0A000 block known) (succeeds E x y h set_reply block known))

shows_value : (E : End → Type 0) → (x y : Around) → Alike E x y → (description : RowDescription) (name : List ℕ) (value : Option (List ℕ)) (block : Block) (known : Knowledge) →
    Agree E (told.shows_value description name value block known x) (told.shows_value description name value block known y)
shows_value E x y h description name None block known = fails E x y h states.S0A000 block known
shows_value E x y h description name (Some value) block known =
    at_rest E x y block known (told.succeeds (show_reply description name value) block known x) (told.succeeds (show_reply description name value) block known y)
    (succeeds E x y h (show_reply description name value) block known)

shows_history : (E : End → Type 0) → (x y : Around) → Alike E x y → (description : RowDescription) (block : Block) (known : Knowledge) → Agree E (told.shows_history description block known x) (told.shows_history description block known y)
shows_history E x y h description block known =
    ask_agrees E calls.Show _ _
    (λ a. shown_agrees E a _ _ _ _
    (λ n. at_rest E x y block known (told.succeeds (show_reply description history_name (decimal n)) block known x)
    (told.succeeds (show_reply description history_name (decimal n)) block known y) (succeeds E x y h (show_reply description history_name (decimal n)) block known))
    (declined E x y h block known))

shows : (E : End → Type 0) → (x y : Around) → Alike E x y → (description : RowDescription) (name : List ℕ) (block : Block) (known : Knowledge) → Agree E (told.shows description name block known x) (told.shows description name block known y)
shows E x y h description name block known =
    either E (bytes_eq name history_name) _ _ _ _ (shows_history E x y h description block known)
    (shows_value E x y h description name (value_of known.level name) block known)

-- ---- all of them

performs : (E : End → Type 0) → (x y : Around) → Alike E x y → (description : RowDescription) (statement : Statement) (block : Block) (known : Knowledge) →
    Agree E (told.performs description statement block known x) (told.performs description statement block known y)
performs E x y h description (tree.Select select) block known = selects E x y h description select.from (tree.Select select) block known
performs E x y h description (tree.Insert insert) block known = prepares E x y h description (tree.Insert insert) block known
performs E x y h description (tree.Update update) block known = prepares E x y h description (tree.Update update) block known
performs E x y h description (tree.Delete delete) block known = prepares E x y h description (tree.Delete delete) block known
performs E x y h description (tree.Create create) block known =
    at_rest E x y block known (told.defines (built create) block known x) (told.defines (built create) block known y) (defines E x y h (built create) block known)
performs E x y h description (tree.Begin start) block known = starts E x y h start block known
performs E x y h description tree.Commit block known = commits E x y h block known
performs E x y h description tree.Rollback block known = rolls_back E x y h block known
performs E x y h description (tree.Set name values) block known = sets E x y h name values block known
performs E x y h description tree.SetModes block known = succeeds E x y h set_reply block known
performs E x y h description (tree.Show name) block known = shows E x y h description name block known

in_failed : (E : End → Type 0) → (x y : Around) → Alike E x y → (statement : Statement) (known : Knowledge) →
    Agree E (told.in_failed statement known x) (told.in_failed statement known y)
in_failed E x y h tree.Commit known = commits E x y h Failed known
in_failed E x y h tree.Rollback known = rolls_back E x y h Failed known
in_failed E x y h _ known = fails E x y h states.S25P02 Failed known

pub told_of : (E : End → Type 0) → (x y : Around) → Alike E x y → (description : RowDescription) (statement : Statement) (block : Block) (known : Knowledge) →
    Agree E (told.told_of description statement block known x) (told.told_of description statement block known y)
told_of E x y h description statement (Implicit pending) known = performs E x y h description statement (Implicit pending) known
told_of E x y h description statement Regular known = performs E x y h description statement Regular known
told_of E x y h description statement Failed known = in_failed E x y h statement known
