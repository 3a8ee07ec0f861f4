-- What a statement asks, meets and is told: its reply, or a code that it is given.
use Rattle.std.proofs.Common.{◌≡◌, Bool, true, false, ℕ, List, [], ◌∷◌, ◌++◌, length, Option, Some, None, Ok, Err, refl, sym, ◌∙◌, ap, subst, arith}
use Rattle.std.specs.Fmt.{decimal}
use Rattle.std.specs.Str.{bytes_eq}
use Rattle.std.proofs.lemmas.Bool.{cond_both}
use Rattle.cell_base.specs.declared.level.Level.{Level}
use Rattle.cell_base.specs.declared.sql_state.SqlState.{SqlState}
use Rattle.cell_base.specs.declared.sql_state.SqlState.TheVariants as states
use Rattle.history_core.specs.declared.fault.BookFault.{BookFault}
use Rattle.sql_tree.specs.declared.statement.CreateTable.{CreateTable}
use Rattle.sql_tree.specs.declared.statement.Select.{Select}
use Rattle.sql_tree.specs.declared.statement.Statement.{Statement}
use Rattle.sql_tree.specs.declared.statement.Statement.TheVariants as tree
use Rattle.sql_tree.specs.declared.statement.TableRef.{TableRef}
use Rattle.sql_tree.specs.declared.table.Table.{Table}
use Rattle.sql_tree.specs.declared.typed.Typed.{Typed}
use Rattle.typing_rules.specs.Outcome.{Outcome as Result}
use Rattle.typing_rules.specs.Building.{built}
use Rattle.typing_rules.specs.Typed.{typed}
use Rattle.statement_course.specs.declared.demand.Outcome.{Outcome}
use Rattle.statement_course.specs.declared.demand.Outcome.TheVariants as outcomes
use Rattle.statement_course.specs.Course.{Course, scan, touch, write, done}
use Rattle.statement_course.specs.Statements.{course_of}
use Rattle.outcome_replies.specs.Replies.{outcome_reply}
use Rattle.outcome_replies.specs.declared.description.RowDescription.TheVariants as described
use Rattle.block_machine.specs.Calls.{Call}
use Rattle.block_machine.specs.Calls as calls
use Rattle.block_machine.specs.Knowledge.{Knowledge, with_tables, with_level}
use Rattle.block_machine.specs.Settings.{is_own, history_name, level_name, chosen_level, value_of}
use Rattle.block_machine.specs.Replies.{created_reply, set_reply, commit_reply, rollback_reply, needless_commit_reply, needless_rollback_reply, start_reply, needless_start_reply, show_reply}
use Rattle.block_machine.specs.Script.{Entry, short, Script}
use Rattle.block_machine.specs.Statements as told
use Rattle.block_machine.specs.Statements.{Around, refusal_state}
use Rattle.block_machine.specs.declared.block.Block.{Block}
use Rattle.block_machine.specs.declared.block.Block.TheVariants.{Implicit, Regular, Failed}
use Rattle.block_machine.specs.declared.call.Answer.{Answer}
use Rattle.block_machine.specs.declared.call.Answer.TheVariants as answers
use Rattle.session_laws.specs.Acts.{Act, asks, meets}
use Rattle.session_laws.specs.Replies.{Gives, IsSound, EndsBlock, StandsAlone, IsOverTables, IsSuccess, HasTransaction, Runs, looked, listed, found, written, IsReply, rows, rows_alone, created, begun, begun_by_message, begun_again, committed, committed_nothing, committed_by_message, committed_failed, rolled_back, rolled_back_nothing, rolled_back_by_message, rolled_back_failed, set_level, set_other, set_modes, shown, shown_history, AsksNext, TakesMemory, IsInTransaction, MayLack, GivesCode, in_failed_block, untyped, untyped_alone, comes_to, comes_to_alone, unbuilt, name_taken, no_level, not_set, not_shown, declined, lacks}
use Rattle.session_laws.specs.Replies as replies
use Rattle.session_laws.proofs.Telling.{Told, On, lost_told, ask_told, short_told, looked_told, defined_told, begun_told, listed_told, found_told, written_told, shown_told}

-- what follows a statement does so, whether it succeeds or is told a code
pub record Stands (known : Knowledge) (block : Block) (s : Statement) (around : Around) (R : List Act → Type 0) : Type 0 where
  pub well : (acts : List Act) (reply : List ℕ) (after : Block) (knows : Knowledge) → IsReply known block s acts reply after knows →
      Told (On R acts) (told.succeeds reply after knows around)
  pub coded : (acts : List Act) (code : SqlState) (after : Block) (knows : Knowledge) → GivesCode known block s acts code after knows →
      Told (On R acts) (told.fails code after knows around)

-- its next call was refused
refuses : (around : Around) (R : List Act → Type 0) (known : Knowledge) (block : Block) (s : Statement) → Stands known block s around R → (after : Block) (knows : Knowledge)
    (acts : List Act) (c : Call) (entry : Entry) → AsksNext known block s acts c after knows → (why : BookFault) → Gives entry (answers.Refused why) →
    Told (On R (acts ++ asks c entry ∷ [])) (told.declined after knows around why)
refuses around R known block s h after knows acts c entry next why gives =
    h.coded (acts ++ asks c entry ∷ []) (refusal_state why) after knows (declined block after knows s acts c entry why next gives)

-- the session itself may be out of memory, or goes on
spares : (around : Around) (R : List Act → Type 0) (known : Knowledge) (block : Block) (s : Statement) → Stands known block s around R → (after : Block) (knows : Knowledge)
    (acts : List Act) → MayLack known block s acts after knows → (rest : Script) → Told (On R acts) rest →
    Told (On R acts) (told.unless_short_in after knows around rest)
spares around R known block s h after knows acts may rest good =
    short_told R acts (told.fails states.S53200 after knows around) rest
    (λ n. h.coded (acts ++ meets (short false n) ∷ []) states.S53200 after knows (lacks block after knows s acts n may)) good

-- ---- BEGIN, COMMIT, ROLLBACK

starts : (around : Around) (R : List Act → Type 0) (known : Knowledge) (start : Bool) (block : Block) → IsSound block → Stands known block (tree.Begin start) around R →
    Told R (told.starts start block known around)
starts around R known start (Implicit false) sound h =
    ask_told R [] (calls.Begin known.level) _ (λ entry a gives.
    begun_told (On R (asks (calls.Begin known.level) entry ∷ [])) entry (told.succeeds (start_reply start) Regular known around)
    (told.declined (Implicit false) known around)
    (λ n it. h.well (asks (calls.Begin known.level) entry ∷ []) (start_reply start) Regular known (begun start entry n it))
    (refuses around R known (Implicit false) (tree.Begin start) h (Implicit false) known [] (calls.Begin known.level) entry (replies.begin_block start)) a gives)
starts around R known start (Implicit true) sound h = h.well [] (start_reply start) Regular known (begun_by_message start)
starts around R known start Regular sound h = h.well [] (needless_start_reply start) Regular known (begun_again start)
starts around R known start Failed sound h = absurd sound

commits : (around : Around) (R : List Act → Type 0) (known : Knowledge) (block : Block) → Stands known block tree.Commit around R →
    Told R (told.commits block known around)
commits around R known (Implicit false) h = h.well [] needless_commit_reply (Implicit false) known committed_nothing
commits around R known (Implicit true) h =
    ask_told R [] calls.Commit (λ _. told.succeeds needless_commit_reply (Implicit false) known around)
    (λ entry a gives. h.well (asks calls.Commit entry ∷ []) needless_commit_reply (Implicit false) known (committed_by_message entry (a, gives)))
commits around R known Regular h =
    ask_told R [] calls.Commit (λ _. told.succeeds commit_reply (Implicit false) known around)
    (λ entry a gives. h.well (asks calls.Commit entry ∷ []) commit_reply (Implicit false) known (committed entry (a, gives)))
commits around R known Failed h = h.well [] rollback_reply (Implicit false) known committed_failed

rolls_back : (around : Around) (R : List Act → Type 0) (known : Knowledge) (block : Block) → Stands known block tree.Rollback around R →
    Told R (told.rolls_back block known around)
rolls_back around R known (Implicit false) h = h.well [] needless_rollback_reply (Implicit false) known rolled_back_nothing
rolls_back around R known (Implicit true) h =
    ask_told R [] calls.Rollback (λ _. told.succeeds needless_rollback_reply (Implicit false) known around)
    (λ entry a gives. h.well (asks calls.Rollback entry ∷ []) needless_rollback_reply (Implicit false) known (rolled_back_by_message entry (a, gives)))
rolls_back around R known Regular h =
    ask_told R [] calls.Rollback (λ _. told.succeeds rollback_reply (Implicit false) known around)
    (λ entry a gives. h.well (asks calls.Rollback entry ∷ []) rollback_reply (Implicit false) known (rolled_back entry (a, gives)))
rolls_back around R known Failed h = h.well [] rollback_reply (Implicit false) known rolled_back_failed

-- ---- CREATE TABLE

defines : (around : Around) (R : List Act → Type 0) (known : Knowledge) (block : Block) (create : CreateTable) → IsSound block → Stands known block (tree.Create create) around R →
    (table : Result Table) → built create ≡ table → Told R (told.defines table block known around)
defines around R known block create sound h (Err code) is = h.coded [] code block known (unbuilt block create code sound is)
defines around R known block create sound h (Ok table) is =
    ask_told R [] (calls.Define table) _ (λ entry a gives.
    defined_told (On R (asks (calls.Define table) entry ∷ [])) entry (told.succeeds created_reply block known around) (told.fails states.S42P07 block known around)
    (told.declined block known around)
    (λ n it. h.well (asks (calls.Define table) entry ∷ []) created_reply block known (created block create table entry n sound is it))
    (λ n it. h.coded (asks (calls.Define table) entry ∷ []) states.S42P07 block known (name_taken block create table entry n sound is it))
    (refuses around R known block (tree.Create create) h block known [] (calls.Define table) entry (replies.define block create table sound is)) a gives)

-- ---- SELECT, INSERT, UPDATE, DELETE

concludes : (around : Around) (R : List Act → Type 0) (known : Knowledge) (block : Block) (s : Statement) → Stands known block s around R → (acts : List Act) (after : Block)
    (knows : Knowledge) (outcome : Outcome) → Runs known block s acts after knows (done outcome) → Told (On R acts) (told.concludes described.Told outcome after knows around)
concludes around R known block s h acts after knows (outcomes.Failed code) is = h.coded acts code after knows (comes_to block after knows s acts code is)
concludes around R known block s h acts after knows (outcomes.Rows fields values) is =
    h.well acts (outcome_reply described.Told (outcomes.Rows fields values)) after knows (rows block after knows s acts (outcomes.Rows fields values) is tt)
concludes around R known block s h acts after knows (outcomes.Inserted n) is =
    h.well acts (outcome_reply described.Told (outcomes.Inserted n)) after knows (rows block after knows s acts (outcomes.Inserted n) is tt)
concludes around R known block s h acts after knows (outcomes.Updated n) is =
    h.well acts (outcome_reply described.Told (outcomes.Updated n)) after knows (rows block after knows s acts (outcomes.Updated n) is tt)
concludes around R known block s h acts after knows (outcomes.Deleted n) is =
    h.well acts (outcome_reply described.Told (outcomes.Deleted n)) after knows (rows block after knows s acts (outcomes.Deleted n) is tt)

-- the session may be out of memory after the answer to a call
continues : (around : Around) (R : List Act → Type 0) (known : Knowledge) (block : Block) (s : Statement) → Stands known block s around R → (acts : List Act) (c : Call)
    (entry : Entry) (after : Block) (knows : Knowledge) (left : Course) → IsInTransaction c → Runs known block s (acts ++ asks c entry ∷ []) after knows left →
    Told (On R (acts ++ asks c entry ∷ [])) (told.runs described.Told left after knows around) →
    Told (On R (acts ++ asks c entry ∷ [])) (told.continues described.Told left after knows around)
continues around R known block s h acts c entry after knows left inside is good =
    spares around R known block s h after knows (acts ++ asks c entry ∷ []) (replies.after_call block after knows s acts c entry left inside is)
    (told.runs described.Told left after knows around) good

runs : (around : Around) (R : List Act → Type 0) (known : Knowledge) (block : Block) (s : Statement) → Stands known block s around R → (acts : List Act) (after : Block)
    (knows : Knowledge) (c : Course) → Runs known block s acts after knows c → Told (On R acts) (told.runs described.Told c after knows around)
runs around R known block s h acts after knows (scan table rest) is =
    ask_told R acts (calls.Scan table) _ (λ entry a gives.
    listed_told (On R (acts ++ asks (calls.Scan table) entry ∷ [])) entry (λ keys. told.continues described.Told (rest keys) after knows around)
    (told.declined after knows around)
    (λ keys it.
    continues around R known block s h acts (calls.Scan table) entry after knows (rest keys) tt (listed acts after knows table rest entry keys is it)
    (runs around R known block s h (acts ++ asks (calls.Scan table) entry ∷ []) after knows (rest keys) (listed acts after knows table rest entry keys is it)))
    (refuses around R known block s h after knows acts (calls.Scan table) entry (replies.cells block after knows s acts (scan table rest) is refl)) a gives)
runs around R known block s h acts after knows (touch cell rest) is =
    ask_told R acts (calls.Touch cell) _ (λ entry a gives.
    found_told (On R (acts ++ asks (calls.Touch cell) entry ∷ [])) entry (λ value. told.continues described.Told (rest value) after knows around)
    (told.declined after knows around)
    (λ value it.
    continues around R known block s h acts (calls.Touch cell) entry after knows (rest value) tt (found acts after knows cell rest entry value is it)
    (runs around R known block s h (acts ++ asks (calls.Touch cell) entry ∷ []) after knows (rest value) (found acts after knows cell rest entry value is it)))
    (refuses around R known block s h after knows acts (calls.Touch cell) entry (replies.cells block after knows s acts (touch cell rest) is refl)) a gives)
runs around R known block s h acts after knows (write cell value rest) is =
    ask_told R acts (calls.Write cell value) _ (λ entry a gives.
    written_told (On R (acts ++ asks (calls.Write cell value) entry ∷ [])) entry (told.continues described.Told rest after knows around)
    (told.declined after knows around)
    (λ it.
    continues around R known block s h acts (calls.Write cell value) entry after knows rest tt (written acts after knows cell value rest entry is it)
    (runs around R known block s h (acts ++ asks (calls.Write cell value) entry ∷ []) after knows rest (written acts after knows cell value rest entry is it)))
    (refuses around R known block s h after knows acts (calls.Write cell value) entry (replies.cells block after knows s acts (write cell value rest) is refl)) a gives)
runs around R known block s h acts after knows (done outcome) is = concludes around R known block s h acts after knows outcome is

-- a statement whose look was answered, and which has its types
begins : (around : Around) (R : List Act → Type 0) (known : Knowledge) (block : Block) (s : Statement) → IsSound block → Stands known block s around R → IsOverTables s →
    (look : Entry) (tables : List Table) → Gives look (answers.Looked tables) → (t : Typed) → typed (known.tables ++ tables) s ≡ Ok t →
    Told (On R (asks (calls.Look (length known.tables)) look ∷ [])) (told.begins described.Told (course_of (known.tables ++ tables) t) block (with_tables known tables) around)
begins around R known (Implicit false) s sound h over look tables shows t types =
    ask_told R (asks (calls.Look (length known.tables)) look ∷ []) (calls.Begin known.level) _ (λ entry a gives.
    begun_told (On R (asks (calls.Look (length known.tables)) look ∷ asks (calls.Begin known.level) entry ∷ [])) entry
    (told.continues described.Told (course_of (known.tables ++ tables) t) (Implicit true) (with_tables known tables) around)
    (told.declined (Implicit false) (with_tables known tables) around)
    (λ n it.
    let is : Runs known (Implicit false) s (asks (calls.Look (length known.tables)) look ∷ asks (calls.Begin known.level) entry ∷ []) (Implicit true) (with_tables known tables)
    (course_of (known.tables ++ tables) t) =
    looked look tables t (asks (calls.Begin known.level) entry ∷ []) (Implicit true) over shows types (entry, n, it, refl, refl) in
    continues around R known (Implicit false) s h (asks (calls.Look (length known.tables)) look ∷ []) (calls.Begin known.level) entry (Implicit true)
    (with_tables known tables) (course_of (known.tables ++ tables) t) tt is
    (runs around R known (Implicit false) s h (asks (calls.Look (length known.tables)) look ∷ asks (calls.Begin known.level) entry ∷ []) (Implicit true)
    (with_tables known tables) (course_of (known.tables ++ tables) t) is))
    (refuses around R known (Implicit false) s h (Implicit false) (with_tables known tables) (asks (calls.Look (length known.tables)) look ∷ [])
    (calls.Begin known.level) entry (replies.begin s look tables t over shows types)) a gives)
begins around R known (Implicit true) s sound h over look tables shows t types =
    runs around R known (Implicit true) s h (asks (calls.Look (length known.tables)) look ∷ []) (Implicit true) (with_tables known tables)
    (course_of (known.tables ++ tables) t) (looked look tables t [] (Implicit true) over shows types (refl, refl))
begins around R known Regular s sound h over look tables shows t types =
    runs around R known Regular s h (asks (calls.Look (length known.tables)) look ∷ []) Regular (with_tables known tables)
    (course_of (known.tables ++ tables) t) (looked look tables t [] Regular over shows types (refl, refl))
begins around R known Failed s sound h over look tables shows t types = absurd sound

judged : (around : Around) (R : List Act → Type 0) (known : Knowledge) (block : Block) (s : Statement) → IsSound block → Stands known block s around R → IsOverTables s →
    (look : Entry) (tables : List Table) → Gives look (answers.Looked tables) → (r : Result Typed) → typed (known.tables ++ tables) s ≡ r →
    Told (On R (asks (calls.Look (length known.tables)) look ∷ [])) (told.judged described.Told r block (with_tables known tables) around)
judged around R known block s sound h over look tables shows (Ok t) is = begins around R known block s sound h over look tables shows t is
judged around R known block s sound h over look tables shows (Err code) is =
    h.coded (asks (calls.Look (length known.tables)) look ∷ []) code block (with_tables known tables) (untyped block s look tables code sound over shows is)

prepares : (around : Around) (R : List Act → Type 0) (known : Knowledge) (block : Block) (s : Statement) → IsSound block → Stands known block s around R → IsOverTables s →
    TakesMemory known s → Told R (told.prepares described.Told s block known around)
prepares around R known block s sound h over takes =
    spares around R known block s h block known [] (replies.at_first block s sound takes) (told.looks described.Told s block known around)
    (ask_told R [] (calls.Look (length known.tables)) _ (λ entry a gives.
    looked_told (On R (asks (calls.Look (length known.tables)) entry ∷ [])) entry (λ tables. told.typed_over described.Told s block known tables around)
    (told.declined block known around)
    (λ tables it.
    spares around R known block s h block known (asks (calls.Look (length known.tables)) entry ∷ [])
    (replies.after_look block s entry tables sound over it)
    (told.judged described.Told (typed (known.tables ++ tables) s) block (with_tables known tables) around)
    (judged around R known block s sound h over entry tables it (typed (known.tables ++ tables) s) refl))
    (refuses around R known block s h block known [] (calls.Look (length known.tables)) entry (replies.look block s sound over)) a gives))

-- ---- a SELECT

concludes_alone : (around : Around) (R : List Act → Type 0) (known : Knowledge) (block : Block) (s : Statement) → IsSound block → Stands known block s around R → StandsAlone s →
    (t : Typed) → typed [] s ≡ Ok t → (outcome : Outcome) → course_of [] t ≡ done outcome → Told R (told.concludes described.Told outcome block known around)
concludes_alone around R known block s sound h alone t types (outcomes.Failed code) is =
    h.coded [] code block known (comes_to_alone block s t code sound alone types is)
concludes_alone around R known block s sound h alone t types (outcomes.Rows fields values) is =
    h.well [] (outcome_reply described.Told (outcomes.Rows fields values)) block known (rows_alone block s t (outcomes.Rows fields values) sound alone types is tt)
concludes_alone around R known block s sound h alone t types (outcomes.Inserted n) is =
    h.well [] (outcome_reply described.Told (outcomes.Inserted n)) block known (rows_alone block s t (outcomes.Inserted n) sound alone types is tt)
concludes_alone around R known block s sound h alone t types (outcomes.Updated n) is =
    h.well [] (outcome_reply described.Told (outcomes.Updated n)) block known (rows_alone block s t (outcomes.Updated n) sound alone types is tt)
concludes_alone around R known block s sound h alone t types (outcomes.Deleted n) is =
    h.well [] (outcome_reply described.Told (outcomes.Deleted n)) block known (rows_alone block s t (outcomes.Deleted n) sound alone types is tt)

at_once : (around : Around) (R : List Act → Type 0) (known : Knowledge) (block : Block) (s : Statement) → IsSound block → Stands known block s around R → StandsAlone s →
    (t : Typed) → typed [] s ≡ Ok t → (c : Course) → course_of [] t ≡ c → Told R (told.at_once described.Told c block known around)
at_once around R known block s sound h alone t types (done outcome) is = concludes_alone around R known block s sound h alone t types outcome is
at_once around R known block s sound h alone t types (scan table rest) is = lost_told R
at_once around R known block s sound h alone t types (touch cell rest) is = lost_told R
at_once around R known block s sound h alone t types (write cell value rest) is = lost_told R

judged_at_once : (around : Around) (R : List Act → Type 0) (known : Knowledge) (block : Block) (s : Statement) → IsSound block → Stands known block s around R → StandsAlone s →
    (r : Result Typed) → typed [] s ≡ r → Told R (told.judged_at_once described.Told r block known around)
judged_at_once around R known block s sound h alone (Ok t) is = at_once around R known block s sound h alone t is (course_of [] t) refl
judged_at_once around R known block s sound h alone (Err code) is = h.coded [] code block known (untyped_alone block s code sound alone is)

-- a list with an element isn't empty
some_is : (entry : TableRef) (more from : List TableRef) → from ≡ entry ∷ more → ¬ (from ≡ [])
some_is entry more from is none = let same : length (entry ∷ more) ≡ 0 = ap length (sym is ∙ none) in omega (arith, same)

selects : (around : Around) (R : List Act → Type 0) (known : Knowledge) (block : Block) (select : Select) → IsSound block → Stands known block (tree.Select select) around R →
    (from : List TableRef) → select.from ≡ from → Told R (told.selects described.Told from (tree.Select select) block known around)
selects around R known block select sound h [] is =
    spares around R known block (tree.Select select) h block known [] (replies.at_first block (tree.Select select) sound tt)
    (told.judged_at_once described.Told (typed [] (tree.Select select)) block known around)
    (judged_at_once around R known block (tree.Select select) sound h is (typed [] (tree.Select select)) refl)
selects around R known block select sound h (entry ∷ more) is =
    prepares around R known block (tree.Select select) sound h (some_is entry more select.from is) tt

-- ---- SET, SHOW

sets_level : (around : Around) (R : List Act → Type 0) (known : Knowledge) (block : Block) (name : List ℕ) (values : List (List ℕ)) → IsSound block →
    Stands known block (tree.Set name values) around R → bytes_eq name level_name ≡ true → (level : Option Level) → chosen_level known.served values ≡ level →
    Told R (told.sets_level level block known around)
sets_level around R known block name values sound h same (Some level) is =
    h.well [] set_reply block (with_level known level) (set_level block name values level sound same is)
sets_level around R known block name values sound h same None is = h.coded [] states.S0A000 block known (no_level block name values sound same is)

sets : (around : Around) (R : List Act → Type 0) (known : Knowledge) (block : Block) (name : List ℕ) (values : List (List ℕ)) → IsSound block →
    Stands known block (tree.Set name values) around R → Told R (told.sets name values block known around)
sets around R known block name values sound h =
    cond_both (bytes_eq name level_name) (told.sets_level (chosen_level known.served values) block known around) _ (Told R)
    (λ same. sets_level around R known block name values sound h same (chosen_level known.served values) refl)
    (λ other. cond_both (is_own name) (told.fails states.S0A000 block known around) (told.succeeds set_reply block known around) (Told R)
    (λ own. h.coded [] states.S0A000 block known (not_set block name values sound other own))
    (λ foreign. h.well [] set_reply block known (set_other block name values sound other foreign)))

shows_value : (around : Around) (R : List Act → Type 0) (known : Knowledge) (block : Block) (name : List ℕ) → IsSound block → Stands known block (tree.Show name) around R →
    bytes_eq name history_name ≡ false → (value : Option (List ℕ)) → value_of known.level name ≡ value →
    Told R (told.shows_value described.Told name value block known around)
shows_value around R known block name sound h other None is = h.coded [] states.S0A000 block known (not_shown block name sound other is)
shows_value around R known block name sound h other (Some value) is =
    spares around R known block (tree.Show name) h block known [] (replies.at_first block (tree.Show name) sound (other, (value, is)))
    (told.succeeds (show_reply described.Told name value) block known around)
    (h.well [] (show_reply described.Told name value) block known (shown block name value sound other is))

shows_history : (around : Around) (R : List Act → Type 0) (known : Knowledge) (block : Block) (name : List ℕ) → IsSound block → Stands known block (tree.Show name) around R →
    bytes_eq name history_name ≡ true → Told R (told.shows_history described.Told block known around)
shows_history around R known block name sound h same =
    ask_told R [] calls.Show _ (λ entry a gives.
    shown_told (On R (asks calls.Show entry ∷ [])) entry
    (λ n. told.unless_short_in block known around (told.succeeds (show_reply described.Told history_name (decimal n)) block known around))
    (told.declined block known around)
    (λ n it.
    spares around R known block (tree.Show name) h block known (asks calls.Show entry ∷ []) (replies.after_history block name entry n sound same it)
    (told.succeeds (show_reply described.Told history_name (decimal n)) block known around)
    (h.well (asks calls.Show entry ∷ []) (show_reply described.Told history_name (decimal n)) block known (shown_history block name entry n sound same it)))
    (refuses around R known block (tree.Show name) h block known [] calls.Show entry (replies.history block name sound same)) a gives)

shows : (around : Around) (R : List Act → Type 0) (known : Knowledge) (block : Block) (name : List ℕ) → IsSound block → Stands known block (tree.Show name) around R →
    Told R (told.shows described.Told name block known around)
shows around R known block name sound h =
    cond_both (bytes_eq name history_name) (told.shows_history described.Told block known around)
    (told.shows_value described.Told name (value_of known.level name) block known around) (Told R)
    (λ same. shows_history around R known block name sound h same)
    (λ other. shows_value around R known block name sound h other (value_of known.level name) refl)

-- ---- all of them

performs : (around : Around) (R : List Act → Type 0) (known : Knowledge) (block : Block) (s : Statement) → IsSound block → Stands known block s around R →
    Told R (told.performs described.Told s block known around)
performs around R known block (tree.Select select) sound h = selects around R known block select sound h select.from refl
performs around R known block (tree.Insert insert) sound h = prepares around R known block (tree.Insert insert) sound h tt tt
performs around R known block (tree.Update update) sound h = prepares around R known block (tree.Update update) sound h tt tt
performs around R known block (tree.Delete delete) sound h = prepares around R known block (tree.Delete delete) sound h tt tt
performs around R known block (tree.Create create) sound h =
    spares around R known block (tree.Create create) h block known [] (replies.at_first block (tree.Create create) sound tt)
    (told.defines (built create) block known around)
    (defines around R known block create sound h (built create) refl)
performs around R known block (tree.Begin start) sound h = starts around R known start block sound h
performs around R known block tree.Commit sound h = commits around R known block h
performs around R known block tree.Rollback sound h = rolls_back around R known block h
performs around R known block (tree.Set name values) sound h = sets around R known block name values sound h
performs around R known block tree.SetModes sound h = h.well [] set_reply block known (set_modes block sound)
performs around R known block (tree.Show name) sound h = shows around R known block name sound h

in_failed : (around : Around) (R : List Act → Type 0) (known : Knowledge) (s : Statement) → Stands known Failed s around R → Told R (told.in_failed s known around)
in_failed around R known tree.Commit h = commits around R known Failed h
in_failed around R known tree.Rollback h = rolls_back around R known Failed h
in_failed around R known s h = h.coded [] states.S25P02 Failed known (in_failed_block s (λ ends. ends))

pub answers_so : (around : Around) (R : List Act → Type 0) (known : Knowledge) (block : Block) (s : Statement) → Stands known block s around R →
    Told R (told.told_of described.Told s block known around)
answers_so around R known (Implicit pending) s h = performs around R known (Implicit pending) s tt h
answers_so around R known Regular s h = performs around R known Regular s tt h
answers_so around R known Failed s h = in_failed around R known s h
