-- What a statement asks of its book, by the block in which it stands and by what the session knows, and what it is then told: its reply, or a code
-- that it is given. Its tables are those of the looks in the record, and its outcome that of the answers there.
use Rattle.std.specs.Prelude.{◌≡◌, ℕ, length, List, [], ◌∷◌, ◌++◌, Bool, true, false, Option, Some, None, Ok, Err}
use Rattle.std.specs.Fmt.{decimal}
use Rattle.std.specs.Str.{bytes_eq}
use Rattle.cell_base.specs.declared.cell.Cell.{Cell}
use Rattle.cell_base.specs.declared.key.Key.{Key}
use Rattle.cell_base.specs.declared.level.Level.{Level}
use Rattle.cell_base.specs.declared.sql_state.SqlState.{SqlState}
use Rattle.cell_base.specs.declared.sql_state.SqlState.TheVariants as states
use Rattle.cell_base.specs.declared.value.Value.{Value}
use Rattle.history_core.specs.declared.fault.BookFault.{BookFault}
use Rattle.history_core.specs.declared.fault.DefineAnswer.TheVariants as defines
use Rattle.sql_tree.specs.declared.statement.CreateTable.{CreateTable}
use Rattle.sql_tree.specs.declared.statement.Statement.{Statement}
use Rattle.sql_tree.specs.declared.statement.Statement.TheVariants as tree
use Rattle.sql_tree.specs.declared.statement.TableRef.{TableRef}
use Rattle.sql_tree.specs.declared.table.Table.{Table}
use Rattle.sql_tree.specs.declared.typed.Typed.{Typed}
use Rattle.typing_rules.specs.Building.{built}
use Rattle.typing_rules.specs.Typed.{typed}
use Rattle.statement_course.specs.declared.demand.Outcome.{Outcome}
use Rattle.statement_course.specs.declared.demand.Outcome.TheVariants as outcomes
use Rattle.statement_course.specs.Course.{Course, scan, touch, write, done, first_demand}
use Rattle.statement_course.specs.Statements.{course_of}
use Rattle.outcome_replies.specs.Replies.{outcome_reply}
use Rattle.outcome_replies.specs.declared.description.RowDescription.TheVariants as described
use Rattle.block_machine.specs.Calls.{Call, asks_cells, call_for}
use Rattle.block_machine.specs.Calls as calls
use Rattle.block_machine.specs.Knowledge.{Knowledge, with_tables, with_level}
use Rattle.block_machine.specs.Settings.{is_own, history_name, level_name, chosen_level, value_of}
use Rattle.block_machine.specs.Replies.{created_reply, set_reply, commit_reply, rollback_reply, needless_commit_reply, needless_rollback_reply, start_reply, needless_start_reply, show_reply}
use Rattle.block_machine.specs.Script.{Entry, did, refused, short}
use Rattle.block_machine.specs.Statements.{refusal_state}
use Rattle.block_machine.specs.declared.block.Block.{Block}
use Rattle.block_machine.specs.declared.block.Block.TheVariants.{Implicit, Regular, Failed}
use Rattle.block_machine.specs.declared.call.Answer.{Answer}
use Rattle.block_machine.specs.declared.call.Answer.TheVariants as answers
use Rattle.session_laws.specs.Acts.{Act, asks, meets}

-- ---- calls and their answers

-- the entry of the record gives this answer
abbrev pub Gives : Entry → Answer → Type 0
Gives (did found event) answer = found ≡ answer
Gives (refused why) answer = answers.Refused why ≡ answer
Gives _ answer = ⊥

-- the entry answers a call, whatever it says
abbrev pub IsAnswered : Entry → Type 0
IsAnswered entry = (answer : Answer) × Gives entry answer

-- ---- blocks and statements

-- a block that hasn't failed
abbrev pub IsSound : Block → Type 0
IsSound Failed = ⊥
IsSound _ = Unit {0}

-- COMMIT and ROLLBACK, which end a block
abbrev pub EndsBlock : Statement → Type 0
EndsBlock tree.Commit = Unit {0}
EndsBlock tree.Rollback = Unit {0}
EndsBlock _ = ⊥

-- a SELECT without FROM
abbrev pub StandsAlone : Statement → Type 0
StandsAlone (tree.Select select) = select.from ≡ []
StandsAlone _ = ⊥

-- a statement over tables
abbrev pub IsOverTables : Statement → Type 0
IsOverTables (tree.Select select) = ¬ (select.from ≡ [])
IsOverTables (tree.Insert insert) = Unit {0}
IsOverTables (tree.Update update) = Unit {0}
IsOverTables (tree.Delete delete) = Unit {0}
IsOverTables _ = ⊥

-- rows, or a count
abbrev pub IsSuccess : Outcome → Type 0
IsSuccess (outcomes.Failed code) = ⊥
IsSuccess _ = Unit {0}

-- ---- a statement over tables, as far as it has come

-- A block that hasn't failed has a transaction, or begins one at this level: what is asked for it, and the block after it.
abbrev pub HasTransaction : Level → Block → List Act → Block → Type 0
HasTransaction level (Implicit false) acts after =
    (entry : Entry) × (number : ℕ) × Gives entry (answers.Begun number) × (acts ≡ asks (calls.Begin level) entry ∷ []) × (after ≡ Implicit true)
HasTransaction level (Implicit true) acts after = (acts ≡ []) × (after ≡ Implicit true)
HasTransaction level Regular acts after = (acts ≡ []) × (after ≡ Regular)
HasTransaction level Failed acts after = ⊥

-- What the statement has asked and been answered, the block in which it then stands, what the session then knows, and what is left of its course. It
-- looks at the tables first, and has its types over all that the session was ever shown; its course goes on with the answers.
pub data Runs (known : Knowledge) (block : Block) (s : Statement) : List Act → Block → Knowledge → Course → Type 0 where
  looked : (look : Entry) (tables : List Table) (t : Typed) (begins : List Act) (after : Block) → IsOverTables s → Gives look (answers.Looked tables)
      → typed (known.tables ++ tables) s ≡ Ok t → HasTransaction known.level block begins after
      → Runs known block s (asks (calls.Look (length known.tables)) look ∷ begins) after (with_tables known tables) (course_of (known.tables ++ tables) t)
  listed : (acts : List Act) (after : Block) (knows : Knowledge) (table : ℕ) (rest : List Key → Course) (entry : Entry) (keys : List Key)
      → Runs known block s acts after knows (scan table rest) → Gives entry (answers.Listed keys)
      → Runs known block s (acts ++ asks (calls.Scan table) entry ∷ []) after knows (rest keys)
  found : (acts : List Act) (after : Block) (knows : Knowledge) (cell : Cell) (rest : Value → Course) (entry : Entry) (value : Value)
      → Runs known block s acts after knows (touch cell rest) → Gives entry (answers.Found value)
      → Runs known block s (acts ++ asks (calls.Touch cell) entry ∷ []) after knows (rest value)
  written : (acts : List Act) (after : Block) (knows : Knowledge) (cell : Cell) (value : Value) (rest : Course) (entry : Entry)
      → Runs known block s acts after knows (write cell value rest) → Gives entry answers.Written
      → Runs known block s (acts ++ asks (calls.Write cell value) entry ∷ []) after knows rest

-- ---- the reply

-- The reply of a statement that succeeds, after what it asked; the block in which it leaves the session, and what this then knows.
pub data IsReply (known : Knowledge) : Block → Statement → List Act → List ℕ → Block → Knowledge → Type 0 where
  rows : (block after : Block) (knows : Knowledge) (s : Statement) (acts : List Act) (outcome : Outcome) → Runs known block s acts after knows (done outcome)
      → IsSuccess outcome → IsReply known block s acts (outcome_reply described.Told outcome) after knows
  rows_alone : (block : Block) (s : Statement) (t : Typed) (outcome : Outcome) → IsSound block → StandsAlone s → typed [] s ≡ Ok t
      → course_of [] t ≡ done outcome → IsSuccess outcome → IsReply known block s [] (outcome_reply described.Told outcome) block known
  created : (block : Block) (create : CreateTable) (table : Table) (entry : Entry) (number : ℕ) → IsSound block → built create ≡ Ok table
      → Gives entry (answers.Defined (defines.Defined number))
      → IsReply known block (tree.Create create) (asks (calls.Define table) entry ∷ []) created_reply block known
  begun : (start : Bool) (entry : Entry) (number : ℕ) → Gives entry (answers.Begun number)
      → IsReply known (Implicit false) (tree.Begin start) (asks (calls.Begin known.level) entry ∷ []) (start_reply start) Regular known
  begun_by_message : (start : Bool) → IsReply known (Implicit true) (tree.Begin start) [] (start_reply start) Regular known
  begun_again : (start : Bool) → IsReply known Regular (tree.Begin start) [] (needless_start_reply start) Regular known
  committed : (entry : Entry) → IsAnswered entry → IsReply known Regular tree.Commit (asks calls.Commit entry ∷ []) commit_reply (Implicit false) known
  committed_nothing : IsReply known (Implicit false) tree.Commit [] needless_commit_reply (Implicit false) known
  committed_by_message : (entry : Entry) → IsAnswered entry
      → IsReply known (Implicit true) tree.Commit (asks calls.Commit entry ∷ []) needless_commit_reply (Implicit false) known
  committed_failed : IsReply known Failed tree.Commit [] rollback_reply (Implicit false) known
  rolled_back : (entry : Entry) → IsAnswered entry → IsReply known Regular tree.Rollback (asks calls.Rollback entry ∷ []) rollback_reply (Implicit false) known
  rolled_back_nothing : IsReply known (Implicit false) tree.Rollback [] needless_rollback_reply (Implicit false) known
  rolled_back_by_message : (entry : Entry) → IsAnswered entry
      → IsReply known (Implicit true) tree.Rollback (asks calls.Rollback entry ∷ []) needless_rollback_reply (Implicit false) known
  rolled_back_failed : IsReply known Failed tree.Rollback [] rollback_reply (Implicit false) known
  set_level : (block : Block) (name : List ℕ) (values : List (List ℕ)) (level : Level) → IsSound block → bytes_eq name level_name ≡ true
      → chosen_level known.served values ≡ Some level → IsReply known block (tree.Set name values) [] set_reply block (with_level known level)
  set_other : (block : Block) (name : List ℕ) (values : List (List ℕ)) → IsSound block → bytes_eq name level_name ≡ false → is_own name ≡ false
      → IsReply known block (tree.Set name values) [] set_reply block known
  set_modes : (block : Block) → IsSound block → IsReply known block tree.SetModes [] set_reply block known
  shown : (block : Block) (name value : List ℕ) → IsSound block → bytes_eq name history_name ≡ false → value_of known.level name ≡ Some value
      → IsReply known block (tree.Show name) [] (show_reply described.Told name value) block known
  shown_history : (block : Block) (name : List ℕ) (entry : Entry) (number : ℕ) → IsSound block → bytes_eq name history_name ≡ true
      → Gives entry (answers.Shown number)
      → IsReply known block (tree.Show name) (asks calls.Show entry ∷ []) (show_reply described.Told history_name (decimal number)) block known

-- ---- the code

-- the call that a statement asks next, after what it asked; the block in which it then stands, and what the session then knows
pub data AsksNext (known : Knowledge) : Block → Statement → List Act → Call → Block → Knowledge → Type 0 where
  look : (block : Block) (s : Statement) → IsSound block → IsOverTables s → AsksNext known block s [] (calls.Look (length known.tables)) block known
  begin : (s : Statement) (entry : Entry) (tables : List Table) (t : Typed) → IsOverTables s → Gives entry (answers.Looked tables)
      → typed (known.tables ++ tables) s ≡ Ok t
      → AsksNext known (Implicit false) s (asks (calls.Look (length known.tables)) entry ∷ []) (calls.Begin known.level) (Implicit false) (with_tables known tables)
  cells : (block after : Block) (knows : Knowledge) (s : Statement) (acts : List Act) (left : Course) → Runs known block s acts after knows left
      → asks_cells (first_demand left) ≡ true → AsksNext known block s acts (call_for (first_demand left)) after knows
  begin_block : (start : Bool) → AsksNext known (Implicit false) (tree.Begin start) [] (calls.Begin known.level) (Implicit false) known
  define : (block : Block) (create : CreateTable) (table : Table) → IsSound block → built create ≡ Ok table
      → AsksNext known block (tree.Create create) [] (calls.Define table) block known
  history : (block : Block) (name : List ℕ) → IsSound block → bytes_eq name history_name ≡ true → AsksNext known block (tree.Show name) [] calls.Show block known

-- the session itself may be out of memory for the statement before this does anything
abbrev pub TakesMemory : Knowledge → Statement → Type 0
TakesMemory known (tree.Select select) = Unit {0}
TakesMemory known (tree.Insert insert) = Unit {0}
TakesMemory known (tree.Update update) = Unit {0}
TakesMemory known (tree.Delete delete) = Unit {0}
TakesMemory known (tree.Create create) = Unit {0}
TakesMemory known (tree.Show name) = (bytes_eq name history_name ≡ false) × ((value : List ℕ) × (value_of known.level name ≡ Some value))
TakesMemory known _ = ⊥

-- a begin, a scan, a read or a write
abbrev pub IsInTransaction : Call → Type 0
IsInTransaction (calls.Begin level) = Unit {0}
IsInTransaction (calls.Scan table) = Unit {0}
IsInTransaction (calls.Touch cell) = Unit {0}
IsInTransaction (calls.Write cell value) = Unit {0}
IsInTransaction _ = ⊥

-- Where the session itself may be out of memory for a statement: after what it asked, in which block, and what the session then knows. After the look
-- of a statement it forgets what this showed.
pub data MayLack (known : Knowledge) : Block → Statement → List Act → Block → Knowledge → Type 0 where
  at_first : (block : Block) (s : Statement) → IsSound block → TakesMemory known s → MayLack known block s [] block known
  after_look : (block : Block) (s : Statement) (entry : Entry) (tables : List Table) → IsSound block → IsOverTables s → Gives entry (answers.Looked tables)
      → MayLack known block s (asks (calls.Look (length known.tables)) entry ∷ []) block known
  after_call : (block after : Block) (knows : Knowledge) (s : Statement) (acts : List Act) (c : Call) (entry : Entry) (left : Course) → IsInTransaction c
      → Runs known block s (acts ++ asks c entry ∷ []) after knows left → MayLack known block s (acts ++ asks c entry ∷ []) after knows
  after_history : (block : Block) (name : List ℕ) (entry : Entry) (number : ℕ) → IsSound block → bytes_eq name history_name ≡ true
      → Gives entry (answers.Shown number) → MayLack known block (tree.Show name) (asks calls.Show entry ∷ []) block known

-- A code that a statement is given after what it asked; the block in which it fails, before a rollback, and what the session then knows.
pub data GivesCode (known : Knowledge) : Block → Statement → List Act → SqlState → Block → Knowledge → Type 0 where
  -- it stands in a failed block, and doesn't end it
  in_failed_block : (s : Statement) → ¬ (EndsBlock s) → GivesCode known Failed s [] states.S25P02 Failed known
  -- it has no types over the tables
  untyped : (block : Block) (s : Statement) (entry : Entry) (tables : List Table) (code : SqlState) → IsSound block → IsOverTables s
      → Gives entry (answers.Looked tables) → typed (known.tables ++ tables) s ≡ Err code
      → GivesCode known block s (asks (calls.Look (length known.tables)) entry ∷ []) code block (with_tables known tables)
  untyped_alone : (block : Block) (s : Statement) (code : SqlState) → IsSound block → StandsAlone s → typed [] s ≡ Err code
      → GivesCode known block s [] code block known
  -- it comes to this code by the answers
  comes_to : (block after : Block) (knows : Knowledge) (s : Statement) (acts : List Act) (code : SqlState)
      → Runs known block s acts after knows (done (outcomes.Failed code)) → GivesCode known block s acts code after knows
  comes_to_alone : (block : Block) (s : Statement) (t : Typed) (code : SqlState) → IsSound block → StandsAlone s → typed [] s ≡ Ok t
      → course_of [] t ≡ done (outcomes.Failed code) → GivesCode known block s [] code block known
  -- its table isn't built, or has the name of one that is there
  unbuilt : (block : Block) (create : CreateTable) (code : SqlState) → IsSound block → built create ≡ Err code
      → GivesCode known block (tree.Create create) [] code block known
  name_taken : (block : Block) (create : CreateTable) (table : Table) (entry : Entry) (number : ℕ) → IsSound block → built create ≡ Ok table
      → Gives entry (answers.Defined (defines.Taken number))
      → GivesCode known block (tree.Create create) (asks (calls.Define table) entry ∷ []) states.S42P07 block known
  -- no level has this name; a setting of the server's own can't be set; there is no such setting
  no_level : (block : Block) (name : List ℕ) (values : List (List ℕ)) → IsSound block → bytes_eq name level_name ≡ true
      → chosen_level known.served values ≡ None → GivesCode known block (tree.Set name values) [] states.S0A000 block known
  not_set : (block : Block) (name : List ℕ) (values : List (List ℕ)) → IsSound block → bytes_eq name level_name ≡ false → is_own name ≡ true
      → GivesCode known block (tree.Set name values) [] states.S0A000 block known
  not_shown : (block : Block) (name : List ℕ) → IsSound block → bytes_eq name history_name ≡ false → value_of known.level name ≡ None
      → GivesCode known block (tree.Show name) [] states.S0A000 block known
  -- its next call was refused: 54000 where the history is full for it, 53200 where the book is out of memory
  declined : (block after : Block) (knows : Knowledge) (s : Statement) (acts : List Act) (c : Call) (entry : Entry) (why : BookFault)
      → AsksNext known block s acts c after knows → Gives entry (answers.Refused why)
      → GivesCode known block s (acts ++ asks c entry ∷ []) (refusal_state why) after knows
  -- the session itself is out of memory
  lacks : (block after : Block) (knows : Knowledge) (s : Statement) (acts : List Act) (told : ℕ) → MayLack known block s acts after knows
      → GivesCode known block s (acts ++ meets (short false told) ∷ []) states.S53200 after knows
