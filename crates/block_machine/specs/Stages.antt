-- What each stage of a message goes on with, what it wants and owes, and what a step from one to the next comes to.
use Rattle.std.specs.Prelude.{◌≡◌, ℕ, ◌+◌, ◌<◌, ◌≤◌, ◌⊎◌, List, [], ◌∷◌, length, All, Bool, true, false, Ok}
use Rattle.history_core.specs.declared.event.Event.{Event}
use Rattle.history_core.specs.declared.fault.BookFault.TheVariants as faults
use Rattle.pg_framing.specs.declared.replies.TransactionState.{TransactionState}
use Rattle.pg_framing.specs.declared.replies.TransactionState.TheVariants as ready
use Rattle.sql_tree.specs.declared.statement.Statement.{Statement}
use Rattle.sql_tree.specs.declared.statement.Statement.TheVariants as tree
use Rattle.sql_tree.specs.declared.table.Table.{Table}
use Rattle.typing_rules.specs.Building.{built}
use Rattle.sound_table.specs.Sound.{IsSound}
use Rattle.described_columns.specs.Described.{HasPlainNames}
use Rattle.outcome_replies.specs.Replies.{CanBeTold}
use Rattle.outcome_replies.specs.Ends.{EndsIn}
use Rattle.statement_course.specs.Course.{first_demand}
use Rattle.statement_course.specs.Laws.{ReadsFirst}
use Rattle.statement_course.specs.declared.demand.PlanAnswer.{PlanAnswer}
use Rattle.statement_course.specs.declared.demand.PlanAnswer.TheVariants as plan_answers
use Rattle.cell_compile.specs.Plans.{rest_of, left_of}
use Rattle.block_machine.specs.Calls.{Call, MessageWant, call_for}
use Rattle.block_machine.specs.Calls as calls
use Rattle.block_machine.specs.Knowledge.{Knowledge, with_tables, with_level}
use Rattle.block_machine.specs.Replies.{ready_reply, error_reply, fixed_reply, bytes_of}
use Rattle.block_machine.specs.Script.{Entry, did, refused, short, unsent, stop, Said, Script, lost, with_call, ask}
use Rattle.block_machine.specs.Statements.{Around, owed_in, succeeds, refused_with, fails, starts, defines, runs, begins, looks, refreshes, shows_history}
use Rattle.block_machine.specs.Messages.{Outside, owed_between, readied, finishes, before, block_at}
use Rattle.block_machine.specs.declared.block.Block.{Block}
use Rattle.block_machine.specs.declared.block.Block.TheVariants.{Implicit, Regular, Failed}
use Rattle.block_machine.specs.declared.block.Owed.{Owed}
use Rattle.block_machine.specs.declared.block.Owed.TheVariants as owes
use Rattle.block_machine.specs.declared.block.Pending.{Pending}
use Rattle.block_machine.specs.declared.block.Pending.TheVariants as pending
use Rattle.block_machine.specs.declared.call.Answer.{Answer}
use Rattle.block_machine.specs.declared.call.Answer.TheVariants as answers
use Rattle.block_machine.specs.declared.ending.ReadyForQuery.TheVariants as told
use Rattle.block_machine.specs.declared.message.Message.{Message}
use Rattle.block_machine.specs.declared.message.Message.TheVariants as messages
use Rattle.block_machine.specs.declared.reply.StatementReply.TheVariants as replies
use Rattle.block_machine.specs.declared.stage.ErrorState.{ErrorState}
use Rattle.block_machine.specs.declared.stage.ErrorState.TheVariants as errors
use Rattle.block_machine.specs.declared.stage.MessageStage.{MessageStage}
use Rattle.block_machine.specs.declared.stage.MessageStage.TheVariants as stages
use Rattle.block_machine.specs.declared.stage.StartWords.{StartWords}
use Rattle.block_machine.specs.declared.stage.StartWords.TheVariants as start_words

-- a block whose transaction is pending
abbrev pub block_of : Pending → Block
block_of pending.Implicit = Implicit true
block_of pending.Regular = Regular

-- the state of a session after a statement that failed
abbrev pub state_after_error : ErrorState → TransactionState
state_after_error errors.Idle = ready.Idle
state_after_error errors.Failed = ready.Failed

-- the flag of a statement that begins a block: true for START TRANSACTION
abbrev pub is_start_transaction : StartWords → Bool
is_start_transaction start_words.Begin = false
is_start_transaction start_words.StartTransaction = true

-- What a stage goes on with, given the reply that was built, what the session knows, what follows the statement, and what follows the end
-- of the message. After a statement a runner rests in a block, or skips what follows in its message; after the end of the message it is over.
abbrev pub resumes : MessageStage → List ℕ → Knowledge → Around → Outside → Script
resumes (stages.Resting block) built known around outside = around.succeeded block known
resumes (stages.Skipping state) built known around outside = around.failed (state_after_error state) known
resumes (stages.Over state) built known around outside = outside.next state known
resumes (stages.Defining table block) built known around outside = defines (Ok table) block known around
resumes (stages.Looking statement description block) built known around outside = looks description statement block known around
resumes (stages.Refreshing block) built known around outside = refreshes block known around
resumes (stages.Beginning plan description) built known around outside = begins description (rest_of plan) (Implicit false) known around
resumes (stages.Running run p) built known around outside = runs run.description (rest_of run.plan) (block_of p) known around
resumes (stages.Starting words) built known around outside = starts (is_start_transaction words) (Implicit false) known around
resumes (stages.Showing description block) built known around outside = shows_history description block known around
resumes (stages.Committing reply) built known around outside = ask calls.Commit (λ _. succeeds (fixed_reply reply) (Implicit false) known around)
resumes (stages.RollingBack reply) built known around outside = ask calls.Rollback (λ _. succeeds (fixed_reply reply) (Implicit false) known around)
resumes (stages.Telling reply block) built known around outside = succeeds (bytes_of built reply) block known around
resumes (stages.Undoing code p) built known around outside = fails code (block_of p) known around
resumes (stages.Failing code state) built known around outside = refused_with code (state_after_error state) known around
resumes (stages.Finishing ready_for) built known around outside = finishes ready_for (Implicit true) known outside
resumes (stages.Readying state) built known around outside = readied state known outside

-- the same in a query message that has these statements left
abbrev pub goes_on : MessageStage → List ℕ → Knowledge → List Statement → Outside → Script
goes_on stage built known more outside = resumes stage built known (before more outside) outside

-- the block in which the next statement stands, where nothing is under way
abbrev pub block_in : MessageStage → Block
block_in (stages.Resting block) = block
block_in (stages.Skipping state) = block_at (state_after_error state)
block_in (stages.Over state) = block_at state
block_in _ = Failed

-- what a stage wants, given what the session knows
abbrev pub wants : MessageStage → Knowledge → MessageWant
wants (stages.Resting block) known = calls.Nothing
wants (stages.Skipping state) known = calls.Nothing
wants (stages.Over state) known = calls.Nothing
wants (stages.Defining table block) known = calls.Book (calls.Define table)
wants (stages.Looking statement description block) known = calls.Book (calls.Look (length known.tables))
wants (stages.Refreshing block) known = calls.Book (calls.Look (length known.tables))
wants (stages.Beginning plan description) known = calls.Book (calls.Begin known.level)
wants (stages.Running run p) known = calls.Book (call_for (first_demand (rest_of run.plan)))
wants (stages.Starting words) known = calls.Book (calls.Begin known.level)
wants (stages.Showing description block) known = calls.Book calls.Show
wants (stages.Committing reply) known = calls.Book calls.Commit
wants (stages.RollingBack reply) known = calls.Book calls.Rollback
wants (stages.Telling reply block) known = calls.Send
wants (stages.Undoing code p) known = calls.Book calls.Rollback
wants (stages.Failing code state) known = calls.Send
wants (stages.Finishing ready_for) known = calls.Book calls.Commit
wants (stages.Readying state) known = calls.Send

-- what the session owes its book
abbrev pub owed_at : MessageStage → Owed
owed_at (stages.Resting block) = owed_in block
owed_at (stages.Skipping state) = owes.Close
owed_at (stages.Over state) = owed_between state
owed_at (stages.Defining table block) = owed_in block
owed_at (stages.Looking statement description block) = owed_in block
owed_at (stages.Refreshing block) = owed_in block
owed_at (stages.Beginning plan description) = owes.Close
owed_at (stages.Running run p) = owes.Rollback
owed_at (stages.Starting words) = owes.Close
owed_at (stages.Showing description block) = owed_in block
owed_at (stages.Committing reply) = owes.Rollback
owed_at (stages.RollingBack reply) = owes.Rollback
owed_at (stages.Telling reply block) = owed_in block
owed_at (stages.Undoing code p) = owes.Rollback
owed_at (stages.Failing code state) = owes.Close
owed_at (stages.Finishing ready_for) = owes.Rollback
owed_at (stages.Readying state) = owed_between state

-- what is owed after the answer to a call: a refusal changes nothing
abbrev pub owed_after : Call → Answer → Owed → Owed
owed_after calls.Open (answers.Opened s) owed = owes.Close
owed_after calls.Close answers.Closed owed = owes.Nothing
owed_after (calls.Begin level) (answers.Begun n) owed = owes.Rollback
owed_after calls.Commit answers.Committed owed = owes.Close
owed_after calls.Rollback answers.RolledBack owed = owes.Close
owed_after _ _ owed = owed

-- ---- replies

-- a reply is held
abbrev pub IsHolding : MessageStage → Type 0
IsHolding (stages.Telling reply block) = Unit {0}
IsHolding (stages.Failing code state) = Unit {0}
IsHolding (stages.Readying state) = Unit {0}
IsHolding _ = ⊥

-- the bytes of the reply that is held, given those that were built; none where no reply is held
abbrev pub reply_of : List ℕ → MessageStage → List ℕ
reply_of built (stages.Telling reply block) = bytes_of built reply
reply_of built (stages.Failing code state) = error_reply code
reply_of built (stages.Readying state) = ready_reply state
reply_of built _ = []

-- what follows a reply that was sent
abbrev pub after_sent : MessageStage → Knowledge → Around → Outside → Script
after_sent (stages.Telling reply block) known around outside = around.succeeded block known
after_sent (stages.Failing code state) known around outside = around.failed (state_after_error state) known
after_sent (stages.Readying state) known around outside = outside.next state known
after_sent _ known around outside = lost

-- what follows where it could not be sent, by what is owed
abbrev pub breaks : MessageStage → Around → Outside → Owed → Script
breaks (stages.Readying state) around outside owed = outside.broken owed
breaks _ around outside owed = around.broken owed

-- what follows a reply that was sent, in a query message that has these statements left
abbrev pub after_reply : MessageStage → Knowledge → List Statement → Outside → Script
after_reply stage known more outside = after_sent stage known (before more outside) outside

-- the reply that is held isn't one that was built
abbrev pub NoBuilt : MessageStage → Type 0
NoBuilt (stages.Telling replies.Built block) = ⊥
NoBuilt _ = Unit {0}

-- a held reply has bytes
abbrev pub HasReply : MessageStage → List ℕ → Type 0
HasReply stage built = IsHolding stage → 0 < length (reply_of built stage)

-- ---- entries

-- how many bytes more are told at least before the session may be out of memory: between two messages none
abbrev pub least : MessageStage → ℕ
least (stages.Over state) = 0
least _ = 1

-- A failed write as the first entry stands no earlier than where the bytes sent end; out of memory stands at least `least` bytes after
-- that.
abbrev pub IsFrom : ℕ → ℕ → List Entry → Type 0
IsFrom least sent [] = Unit {0}
IsFrom least sent (did a e ∷ es) = Unit {0}
IsFrom least sent (refused why ∷ es) = Unit {0}
IsFrom least sent (short final n ∷ es) = least + sent ≤ n
IsFrom least sent (unsent n ∷ es) = sent ≤ n
IsFrom least sent (stop cause ∷ es) = Unit {0}

-- the entries, and before them that the session was out of memory, where it was
abbrev pub with_short : Bool → List ℕ → List Entry → List Entry
with_short false sent es = es
with_short true sent es = short false (length sent) ∷ es

-- the entry of an answer, with the event that it made
abbrev pub entry_for : Answer → Event → Entry
entry_for (answers.Refused why) e = refused why
entry_for a e = did a e

-- The answer is one of the call's name, or a refusal where the call may be refused. Tables that are shown are sound, and with those known
-- they are fewer than 4,294,967,296; so are the keys of a table.
abbrev pub Fits : Call → Answer → Type 0
Fits calls.Open (answers.Opened s) = Unit {0}
Fits calls.Open (answers.Refused why) = Unit {0}
Fits calls.Close answers.Closed = Unit {0}
Fits (calls.Look known) (answers.Looked tables) = (known + length tables < 4294967296) × All IsSound tables
Fits (calls.Look known) (answers.Refused why) = Unit {0}
Fits (calls.Define table) (answers.Defined a) = Unit {0}
Fits (calls.Define table) (answers.Refused why) = Unit {0}
Fits (calls.Begin level) (answers.Begun n) = Unit {0}
Fits (calls.Begin level) (answers.Refused why) = Unit {0}
Fits (calls.Scan table) (answers.Listed keys) = length keys < 4294967296
Fits (calls.Scan table) (answers.Refused why) = Unit {0}
Fits (calls.Touch cell) (answers.Found value) = Unit {0}
Fits (calls.Touch cell) (answers.Refused why) = Unit {0}
Fits (calls.Write cell value) answers.Written = Unit {0}
Fits (calls.Write cell value) (answers.Refused why) = Unit {0}
Fits calls.Commit answers.Committed = Unit {0}
Fits calls.Rollback answers.RolledBack = Unit {0}
Fits calls.Show (answers.Shown n) = Unit {0}
Fits calls.Show (answers.Refused why) = Unit {0}
Fits _ _ = ⊥

abbrev pub FitsWant : MessageWant → Answer → Type 0
FitsWant (calls.Book c) a = Fits c a
FitsWant _ a = ⊥

-- the book was out of memory
abbrev pub lacks_memory : Answer → Bool
lacks_memory (answers.Refused faults.Memory) = true
lacks_memory (answers.Refused (faults.Full limit)) = false
lacks_memory _ = false

-- ---- steps

-- the script of a statement is what a stage goes on with
abbrev pub IsScriptAt : (Around → Script) → MessageStage → List ℕ → Knowledge → Type 0
IsScriptAt script stage built known =
    (around : Around) (outside : Outside) (said : Said) (es : List Entry) →
    script around said es ≡ resumes stage built known around outside said es

-- whatever the session knows
abbrev pub IsScriptOf : (Knowledge → Around → Script) → MessageStage → List ℕ → Type 0
IsScriptOf script stage built = (known : Knowledge) → IsScriptAt (script known) stage built known

-- the script of a statement leads to a stage and what the session then knows, out of memory on the way where it was
abbrev pub LeadsTo : (Around → Script) → MessageStage → Bool → List ℕ → Knowledge → Type 0
LeadsTo script next out_of_memory built known =
    (around : Around) (outside : Outside) (said : Said) (es : List Entry) → IsFrom 1 (length said.bytes) es →
    script around said (with_short out_of_memory said.bytes es) ≡ resumes next built known around outside said es

-- a message, or what follows a reply, leads to a stage, what the session then knows, and the statements that are then left
abbrev pub TurnsTo : (Outside → Script) → MessageStage → Bool → List ℕ → Knowledge → List Statement → Type 0
TurnsTo script next out_of_memory built known more =
    (outside : Outside) (said : Said) (es : List Entry) → IsFrom (least next) (length said.bytes) es →
    script outside said (with_short out_of_memory said.bytes es) ≡ goes_on next built known more outside said es

-- An answer to a stage's call leads on, out of memory after it where the session was.
abbrev pub Advances : MessageStage → Knowledge → Answer → MessageStage → Bool → List ℕ → Knowledge → Type 0
Advances stage known answer next out_of_memory built after =
    (c : Call) (unbuilt : List ℕ) (around : Around) (outside : Outside) (said : Said) (es : List Entry) (e : Event) →
    wants stage known ≡ calls.Book c → IsFrom 1 (length said.bytes) es →
    resumes stage unbuilt known around outside said (entry_for answer e ∷ with_short out_of_memory said.bytes es)
    ≡ resumes next built after around outside (with_call said c) es

-- What the session knows after an answer is what it knew before, and, after a look, perhaps the tables that it showed.
abbrev pub IsKnownAfter : Knowledge → Answer → Knowledge → Type 0
IsKnownAfter known (answers.Looked tables) after = (after ≡ known) ⊎ (after ≡ with_tables known tables)
IsKnownAfter known _ after = after ≡ known

-- What the session knows after a message began or a reply was sent is the same, but for the level, which a SET may have changed: how, the
-- scripts say.
abbrev pub IsSameButLevel : Knowledge → Knowledge → Type 0
IsSameButLevel known after = after ≡ with_level known after.level

-- an answer to a statement's demand
abbrev pub answer_with : PlanAnswer → Answer
answer_with (plan_answers.Keys keys) = answers.Listed keys
answer_with (plan_answers.Value value) = answers.Found value
answer_with plan_answers.Written = answers.Written

-- the answers that need memory are left out, and those of a statement that runs or begins to
abbrev pub IsPlain : MessageStage → Answer → Type 0
IsPlain (stages.Looking statement description block) (answers.Looked tables) = ⊥
IsPlain (stages.Refreshing block) (answers.Looked tables) = ⊥
IsPlain (stages.Showing description block) (answers.Shown n) = ⊥
IsPlain (stages.Beginning plan description) _ = ⊥
IsPlain (stages.Running run p) _ = ⊥
IsPlain _ _ = Unit {0}

-- ---- what holds of a stage

abbrev pub IsRunning : MessageStage → Type 0
IsRunning (stages.Running run p) = Unit {0}
IsRunning _ = ⊥

-- no statement begins to run or runs
abbrev pub IsNoStatement : MessageStage → Type 0
IsNoStatement (stages.Beginning plan description) = ⊥
IsNoStatement (stages.Running run p) = ⊥
IsNoStatement _ = Unit {0}

-- neither a table nor a statement nor its plan is kept
abbrev pub IsQuiet : MessageStage → Type 0
IsQuiet (stages.Defining table block) = ⊥
IsQuiet (stages.Looking statement description block) = ⊥
IsQuiet (stages.Beginning plan description) = ⊥
IsQuiet (stages.Running run p) = ⊥
IsQuiet _ = Unit {0}

-- whether a statement of a query message is under way, or the end of one, which is told
abbrev pub is_busy : MessageStage → Bool
is_busy (stages.Resting block) = false
is_busy (stages.Skipping state) = false
is_busy (stages.Over state) = false
is_busy (stages.Refreshing block) = false
is_busy (stages.Finishing told.Omitted) = false
is_busy _ = true

-- a statement of a query message is under way, or the end of one, which is told
abbrev pub IsBusy : MessageStage → Type 0
IsBusy (stages.Resting block) = ⊥
IsBusy (stages.Skipping state) = ⊥
IsBusy (stages.Over state) = ⊥
IsBusy (stages.Refreshing block) = ⊥
IsBusy (stages.Finishing told.Omitted) = ⊥
IsBusy _ = Unit {0}

-- whether what follows in the message is skipped
abbrev pub is_skipping : MessageStage → Bool
is_skipping (stages.Skipping state) = true
is_skipping _ = false

-- nothing is under way
abbrev pub IsAtRest : MessageStage → Type 0
IsAtRest (stages.Resting block) = Unit {0}
IsAtRest (stages.Skipping state) = Unit {0}
IsAtRest (stages.Over state) = Unit {0}
IsAtRest _ = ⊥

-- nothing is under way, in a message that isn't at its end
abbrev pub IsBetween : MessageStage → Type 0
IsBetween (stages.Resting block) = Unit {0}
IsBetween (stages.Skipping state) = Unit {0}
IsBetween _ = ⊥

-- nothing is under way, and a statement may begin
abbrev pub IsReady : MessageStage → Type 0
IsReady (stages.Resting block) = Unit {0}
IsReady (stages.Over state) = Unit {0}
IsReady _ = ⊥

-- whether a query message is under way, or at its end
abbrev pub is_driven : MessageStage → Bool
is_driven (stages.Over state) = true
is_driven stage = is_busy stage

-- a query message is under way, or at its end
abbrev pub IsDriven : MessageStage → Type 0
IsDriven stage = is_driven stage ≡ true

-- A statement that begins or runs asks only for cells of the tables that are known, and reads before it writes.
abbrev pub KnowsTables : MessageStage → List Table → Type 0
KnowsTables (stages.Beginning plan description) known = ReadsFirst (length known) (rest_of plan)
KnowsTables (stages.Running run p) known = ReadsFirst (length known) (rest_of run.plan)
KnowsTables _ known = Unit {0}

-- A statement as the grammar gives it for a text without a zero byte: the table that a CREATE TABLE creates is sound, and the columns of
-- a SELECT have plain names.
abbrev pub IsSoundStatement : Statement → Type 0
IsSoundStatement (tree.Create create) = (table : Table) → built create ≡ Ok table → IsSound table
IsSoundStatement statement = HasPlainNames statement

abbrev pub IsSoundMessage : Message → Type 0
IsSoundMessage (messages.Statements statements) = All IsSoundStatement statements
IsSoundMessage (messages.Unread code) = Unit {0}

-- how many statements a message has
abbrev pub length_of : Message → ℕ
length_of (messages.Statements statements) = length statements
length_of (messages.Unread code) = 0

-- The table that is about to be defined is sound, a statement that looks has plain names, and what one that begins or runs comes to can
-- be told.
abbrev pub IsSoundStage : MessageStage → Type 0
IsSoundStage (stages.Defining table block) = IsSound table
IsSoundStage (stages.Looking statement description block) = HasPlainNames statement
IsSoundStage (stages.Beginning plan description) = EndsIn CanBeTold (rest_of plan)
IsSoundStage (stages.Running run p) = EndsIn CanBeTold (rest_of run.plan)
IsSoundStage _ = Unit {0}

-- ---- how much work is left

-- how much work a stage leaves until the message is done, but for the demands of a running statement and for the statements after it
abbrev pub work_at : MessageStage → ℕ
work_at (stages.Resting block) = 2
work_at (stages.Skipping state) = 1
work_at (stages.Over state) = 0
work_at (stages.Defining table block) = 4
work_at (stages.Looking statement description block) = 7
work_at (stages.Refreshing block) = 4
work_at (stages.Beginning plan description) = 6
work_at (stages.Running run p) = 5
work_at (stages.Starting words) = 4
work_at (stages.Showing description block) = 4
work_at (stages.Committing reply) = 4
work_at (stages.RollingBack reply) = 4
work_at (stages.Telling reply block) = 3
work_at (stages.Undoing code p) = 3
work_at (stages.Failing code state) = 2
work_at (stages.Finishing ready_for) = 2
work_at (stages.Readying state) = 1

-- how many demands of a running statement are left at most
abbrev pub left_at : MessageStage → ℕ
left_at (stages.Running run p) = 1 + left_of run.plan
left_at _ = 0

-- 1 where a statement runs
abbrev pub running_at : MessageStage → ℕ
running_at (stages.Running run p) = 1
running_at _ = 0
