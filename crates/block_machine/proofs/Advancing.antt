-- A statement's steps after answers.
use Rattle.std.proofs.Common.{◌≡◌, ℕ, Bool, true, List, ◌++◌, length, sym, ◌∙◌, ap, subst, false, Result, IfOk}
use Rattle.cell_base.specs.declared.level.Level.{Level}
use Rattle.cell_base.specs.declared.memory.Memory.{Memory}
use Rattle.history_core.specs.declared.fault.BookFault.{BookFault}
use Rattle.sql_tree.specs.declared.statement.Statement.{Statement}
use Rattle.sql_tree.specs.declared.table.Table.{Table}
use Rattle.typing_rules.specs.Typed.{typed}
use Rattle.statement_course.specs.declared.demand.Outcome.{Outcome}
use Rattle.statement_course.specs.declared.demand.PlanAnswer.{PlanAnswer}
use Rattle.statement_course.specs.Course.{Course, first_demand, following, FitsDemand}
use Rattle.statement_course.specs.Course as course
use Rattle.cell_compile.specs.declared.plan.Plan.{Plan}
use Rattle.cell_compile.specs.Plans.{rest_of}
use Rattle.outcome_replies.specs.declared.description.RowDescription.{RowDescription}
use Rattle.block_machine.specs.Calls.{Call, asks_cells, call_for}
use Rattle.block_machine.specs.Calls as calls
use Rattle.block_machine.specs.declared.block.Block.{Block}
use Rattle.block_machine.specs.declared.block.Block.TheVariants.{Implicit}
use Rattle.block_machine.specs.declared.block.Owed.{Owed}
use Rattle.block_machine.specs.declared.block.Owed.TheVariants as owes
use Rattle.block_machine.specs.declared.block.Pending.{Pending}
use Rattle.block_machine.specs.declared.call.Answer.{Answer}
use Rattle.block_machine.specs.declared.call.Answer.TheVariants as answers
use Rattle.block_machine.specs.declared.stage.Run.{Run}
use Rattle.block_machine.specs.declared.stage.MessageStage.{MessageStage}
use Rattle.block_machine.specs.declared.stage.MessageStage.TheVariants as stages
use Rattle.block_machine.specs.Knowledge.{Knowledge, with_tables}
use Rattle.block_machine.specs.Script.{Said, Entry, with_call}
use Rattle.block_machine.specs.Statements.{Around, refusal_state, fails, unless_short_in, concludes, runs, judged}
use Rattle.block_machine.specs.Messages.{Outside}
use Rattle.block_machine.specs.Stages.{IsScriptAt, IsScriptOf, LeadsTo, Advances, answer_with, block_of, resumes, owed_after, owed_at, wants, with_short}
use Rattle.block_machine.proofs.Answered.{runs_answered, runs_refused}

book_is : (d c : Call) → calls.Book d ≡ calls.Book c → d ≡ c
book_is d c h = cc h

-- the call that was answered is the one that is said
said_call : (d c : Call) (next : MessageStage) (built : List ℕ) (known : Knowledge) (around : Around) (outside : Outside) (said : Said) (es : List Entry) → calls.Book d ≡ calls.Book c →
    resumes next built known around outside (with_call said d) es ≡ resumes next built known around outside (with_call said c) es
said_call d c next built known around outside said es h = ap (λ (x : Call). resumes next built known around outside (with_call said x) es) (book_is d c h)

-- the answer to a demand
pub run_advances : (run : Run) (p : Pending) (answer : Answer) (b : PlanAnswer) (next : MessageStage) (w : Bool) (built : List ℕ) (known : Knowledge) → answer ≡ answer_with b → FitsDemand (rest_of run.plan) b →
    LeadsTo (λ around. unless_short_in (block_of p) known around (runs run.description (following (rest_of run.plan) b) (block_of p) known around)) next w built known →
    Advances (stages.Running run p) known answer next w built known
run_advances run p answer b next w built known is fits goes =
    subst (λ (a : Answer). Advances (stages.Running run p) known a next w built known) (sym is)
    (λ c unbuilt around outside said es e wants_c from.
    runs_answered run.description (rest_of run.plan) b (block_of p) known around said e (with_short w said.bytes es) fits
    ∙ goes around outside (with_call said (call_for (first_demand (rest_of run.plan)))) es from
    ∙ said_call (call_for (first_demand (rest_of run.plan))) c next built known around outside said es wants_c)

-- its refusal
pub run_refused : (run : Run) (p : Pending) (answer : Answer) (why : BookFault) (next : MessageStage) (built : List ℕ) (known : Knowledge) → answer ≡ answers.Refused why → asks_cells (first_demand (rest_of run.plan)) ≡ true →
    IsScriptAt (fails (refusal_state why) (block_of p) known) next built known → Advances (stages.Running run p) known answer next false built known
run_refused run p answer why next built known is asks goes =
    subst (λ (a : Answer). Advances (stages.Running run p) known a next false built known) (sym is)
    (λ c unbuilt around outside said es e wants_c from.
    runs_refused run.description (rest_of run.plan) why (block_of p) known around said e es asks
    ∙ goes around outside (with_call said (call_for (first_demand (rest_of run.plan)))) es
    ∙ said_call (call_for (first_demand (rest_of run.plan))) c next built known around outside said es wants_c)

-- the begin of a transaction
pub begin_advances : (plan : Plan) (description : RowDescription) (n : ℕ) (next : MessageStage) (w : Bool) (built : List ℕ) (known : Knowledge) →
    LeadsTo (λ around. unless_short_in (Implicit true) known around (runs description (rest_of plan) (Implicit true) known around)) next w built known →
    Advances (stages.Beginning plan description) known (answers.Begun n) next w built known
begin_advances plan description n next w built known goes c unbuilt around outside said es e wants_c from =
    goes around outside (with_call said (calls.Begin known.level)) es from ∙ said_call (calls.Begin known.level) c next built known around outside said es wants_c

-- what is owed after it
pub begin_owed : (stage : MessageStage) (plan : Plan) (description : RowDescription) (known : Knowledge) (answer : Answer) (c : Call) (owed : Owed) → stage ≡ stages.Beginning plan description →
    ((level : Level) → owed ≡ owed_after (calls.Begin level) answer owes.Close) → wants stage known ≡ calls.Book c → owed ≡ owed_after c answer (owed_at stage)
begin_owed stage plan description known answer c owed is begun wanted =
    subst (λ (s : MessageStage). wants s known ≡ calls.Book c → owed ≡ owed_after c answer (owed_at s)) (sym is)
    (λ asked. subst (λ (x : Call). owed ≡ owed_after x answer owes.Close) (book_is (calls.Begin known.level) c asked) (begun known.level))
    wanted

-- a look
pub look_advances : (statement : Statement) (description : RowDescription) (block : Block) (known : Knowledge) (tables : List Table) (next : MessageStage) (w : Bool) (built : List ℕ) (after : Knowledge) →
    LeadsTo (λ around. unless_short_in block known around (judged description (typed (known.tables ++ tables) statement) block (with_tables known tables) around)) next w built after →
    Advances (stages.Looking statement description block) known (answers.Looked tables) next w built after
look_advances statement description block known tables next w built after goes c unbuilt around outside said es e wants_c from =
    goes around outside (with_call said (calls.Look (length known.tables))) es from ∙ said_call (calls.Look (length known.tables)) c next built after around outside said es wants_c

-- a statement that is done
pub settles : (description : RowDescription) (c : Course) (outcome : Outcome) (a b : Block) (r : Result MessageStage Memory) (built : List ℕ) → c ≡ course.done outcome → a ≡ b →
    IfOk r (λ stage. IsScriptOf (concludes description outcome a) stage built) → IfOk r (λ stage. IsScriptOf (runs description c b) stage built)
settles description c outcome a b r built is same goes =
    subst (λ (x : Course). IfOk r (λ stage. IsScriptOf (runs description x b) stage built)) (sym is)
    (subst (λ (y : Block). IfOk r (λ stage. IsScriptOf (concludes description outcome y) stage built)) same goes)

-- a look of its own
pub refresh_advances : (block : Block) (known : Knowledge) (tables : List Table) (next : MessageStage) (w : Bool) (built : List ℕ) (after : Knowledge) →
    LeadsTo (λ around. unless_short_in block known around (around.succeeded block (with_tables known tables))) next w built after →
    Advances (stages.Refreshing block) known (answers.Looked tables) next w built after
refresh_advances block known tables next w built after goes c unbuilt around outside said es e wants_c from =
    goes around outside (with_call said (calls.Look (length known.tables))) es from ∙ said_call (calls.Look (length known.tables)) c next built after around outside said es wants_c
