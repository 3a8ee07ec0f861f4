-- The steps of a statement that runs, with what its calls say.
use Rattle.std.proofs.Common.{◌≡◌, ℕ, Bool, true, false, List, ◌++◌, length, take, refl, sym, ◌∙◌, ap, subst, Result, IfOk}
use Rattle.std.specs.Prelude.{if◌then◌else◌, not}
use Rattle.std.proofs.Math.Seq.{take-append_seam}
use Rattle.cell_base.specs.declared.memory.Memory.{Memory}
use Rattle.cell_base.specs.declared.sql_state.SqlState.{SqlState}
use Rattle.cell_base.specs.declared.sql_state.SqlState.TheVariants as states
use Rattle.history_core.specs.declared.fault.BookFault.{BookFault}
use Rattle.sql_tree.specs.declared.statement.Statement.{Statement}
use Rattle.sql_tree.specs.declared.table.Table.{Table}
use Rattle.typing_rules.specs.Typed.{typed}
use Rattle.statement_course.specs.declared.demand.PlanAnswer.{PlanAnswer}
use Rattle.statement_course.specs.Course.{first_demand, following, FitsDemand}
use Rattle.cell_compile.specs.declared.plan.Plan.{Plan}
use Rattle.cell_compile.specs.Plans.{rest_of}
use Rattle.outcome_replies.specs.declared.description.RowDescription.{RowDescription}
use Rattle.block_machine.specs.Calls.{call_for}
use Rattle.block_machine.specs.declared.block.Block.{Block}
use Rattle.block_machine.specs.declared.block.Block.TheVariants.{Implicit}
use Rattle.block_machine.specs.declared.block.Owed.TheVariants as owes
use Rattle.block_machine.specs.declared.block.Pending.{Pending}
use Rattle.block_machine.specs.declared.block.Pending.TheVariants as pending
use Rattle.block_machine.specs.declared.call.Answer.{Answer}
use Rattle.block_machine.specs.declared.call.Answer.TheVariants as answers
use Rattle.block_machine.specs.declared.stage.Run.{Run}
use Rattle.block_machine.specs.declared.stage.MessageStage.{MessageStage}
use Rattle.block_machine.specs.declared.stage.MessageStage.TheVariants as stages
use Rattle.block_machine.specs.declared.step.MessageStep.{MessageStep}
use Rattle.block_machine.specs.Knowledge.{Knowledge, with_tables}
use Rattle.block_machine.specs.Script.{Script}
use Rattle.block_machine.specs.Statements.{Around, owed_in, refusal_state, fails, unless_short_in, runs, judged}
use Rattle.block_machine.specs.Stages.{IsScriptAt, IsScriptOf, LeadsTo, Advances, Fits, NoBuilt, HasReply, answer_with, block_of}
use Rattle.block_machine.proofs.Answered.{fits_demand}
use Rattle.block_machine.proofs.Holding.{holding_some}
use Rattle.block_machine.proofs.OutOfMemory.{ok_at}
use Rattle.block_machine.proofs.Advancing.{run_advances, run_refused, begin_advances, look_advances, refresh_advances}
use Rattle.block_machine.proofs.Passes.{passes}

-- a pending transaction is rolled back
pub owed_pending : (p : Pending) → owed_in (block_of p) ≡ owes.Rollback
owed_pending pending.Implicit = refl
owed_pending pending.Regular = refl

-- memory was there
pub at_rest_advances : (earlier : MessageStage) (known : Knowledge) (answer : Answer) (step : MessageStep) (next : MessageStage) (built : List ℕ) (after : Knowledge) → step ≡ record { stage = next; out_of_memory = false } →
    Advances earlier known answer next false built after → Advances earlier known answer step.stage step.out_of_memory built after
at_rest_advances earlier known answer step next built after is goes =
    subst (λ (s : MessageStep). Advances earlier known answer s.stage s.out_of_memory built after) (sym is) goes

pub at_rest_some : (step : MessageStep) (next : MessageStage) (built : List ℕ) → step ≡ record { stage = next; out_of_memory = false } → NoBuilt next → HasReply step.stage built
at_rest_some step next built is constant = subst (λ (s : MessageStep). HasReply s.stage built) (sym is) (holding_some built next constant)

-- ---- the answer to a demand

pub demand_fits : (run : Run) (answer : Answer) (b : PlanAnswer) → answer ≡ answer_with b → Fits (call_for (first_demand (rest_of run.plan))) answer → FitsDemand (rest_of run.plan) b
demand_fits run answer b is fits =
    fits_demand (rest_of run.plan) b run.asks (subst (λ (a : Answer). Fits (call_for (first_demand (rest_of run.plan))) a) is fits)

pub pursue_goes : (run : Run) (p : Pending) (answer : Answer) (b : PlanAnswer) (block : Block) (r : Result MessageStage Memory) (next : MessageStage) (w : Bool) (built : List ℕ) (known : Knowledge) →
    answer ≡ answer_with b → Fits (call_for (first_demand (rest_of run.plan))) answer → block ≡ block_of p →
    IfOk r (λ stage. IsScriptOf (runs run.description (following (rest_of run.plan) b) (block_of p)) stage built) →
    ((script : Around → Script) (bytes : List ℕ) (other : Knowledge) → IfOk r (λ it. IsScriptAt script it bytes other) →
    LeadsTo (λ around. unless_short_in block other around (script around)) next w bytes other) →
    Advances (stages.Running run p) known answer next w built known
pursue_goes run p answer b block r next w built known is fits same goes leads =
    run_advances run p answer b next w built known is (demand_fits run answer b is fits)
    (subst (λ (x : Block). LeadsTo (λ around. unless_short_in x known around (runs run.description (following (rest_of run.plan) b) (block_of p) known around)) next w built known) same
    (leads (runs run.description (following (rest_of run.plan) b) (block_of p) known) built known (ok_at r (runs run.description (following (rest_of run.plan) b) (block_of p)) built known goes)))

pub pursue_refused : (run : Run) (p : Pending) (answer : Answer) (why : BookFault) (code : SqlState) (block : Block) (next : MessageStage) (built : List ℕ) (known : Knowledge) →
    answer ≡ answers.Refused why → code ≡ refusal_state why → block ≡ block_of p →
    ((bytes : List ℕ) → IsScriptOf (fails code block) next bytes) → Advances (stages.Running run p) known answer next false built known
pursue_refused run p answer why code block next built known is coded same goes =
    run_refused run p answer why next built known is run.asks
    (subst (λ (x : SqlState). IsScriptAt (fails x (block_of p) known) next built known) coded
    (subst (λ (x : Block). IsScriptAt (fails code x known) next built known) same (goes built known)))

-- ---- the begin of its transaction

pub start_goes : (plan : Plan) (description : RowDescription) (answer : Answer) (n : ℕ) (r : Result MessageStage Memory) (next : MessageStage) (w : Bool) (built : List ℕ) (known : Knowledge) → answer ≡ answers.Begun n →
    IfOk r (λ stage. IsScriptOf (runs description (rest_of plan) (Implicit true)) stage built) →
    ((script : Around → Script) (bytes : List ℕ) (other : Knowledge) → IfOk r (λ it. IsScriptAt script it bytes other) →
    LeadsTo (λ around. unless_short_in (Implicit true) other around (script around)) next w bytes other) →
    Advances (stages.Beginning plan description) known answer next w built known
start_goes plan description answer n r next w built known is goes leads =
    subst (λ (a : Answer). Advances (stages.Beginning plan description) known a next w built known) (sym is)
    (begin_advances plan description n next w built known
    (leads (runs description (rest_of plan) (Implicit true) known) built known (ok_at r (runs description (rest_of plan) (Implicit true)) built known goes)))

-- ---- a look

pub look_short : (statement : Statement) (description : RowDescription) (block : Block) (known : Knowledge) (tables : List Table) (after : Knowledge) (next : MessageStage) (w : Bool) (built : List ℕ) → after ≡ known →
    ((script : Around → Script) (bytes : List ℕ) (other : Knowledge) → LeadsTo (λ around. unless_short_in block other around (script around)) next w bytes other) →
    Advances (stages.Looking statement description block) known (answers.Looked tables) next w built after
look_short statement description block known tables after next w built is leads =
    subst (λ (x : Knowledge). Advances (stages.Looking statement description block) known (answers.Looked tables) next w built x) (sym is)
    (look_advances statement description block known tables next w built known
    (leads (judged description (typed (known.tables ++ tables) statement) block (with_tables known tables)) built known))

-- a look of its own, out of memory
pub refresh_short : (block : Block) (known : Knowledge) (tables : List Table) (after : Knowledge) (next : MessageStage) (w : Bool) (built : List ℕ) → after ≡ known →
    ((script : Around → Script) (bytes : List ℕ) (other : Knowledge) → LeadsTo (λ around. unless_short_in block other around (script around)) next w bytes other) →
    Advances (stages.Refreshing block) known (answers.Looked tables) next w built after
refresh_short block known tables after next w built is leads =
    subst (λ (x : Knowledge). Advances (stages.Refreshing block) known (answers.Looked tables) next w built x) (sym is)
    (refresh_advances block known tables next w built known (leads (λ around. around.succeeded block (with_tables known tables)) built known))

-- and with memory for the tables
pub refresh_goes : (block : Block) (known after : Knowledge) (tables : List Table) (step : MessageStep) (built : List ℕ) → after ≡ with_tables known tables →
    step ≡ record { stage = stages.Resting block; out_of_memory = false } →
    Advances (stages.Refreshing block) known (answers.Looked tables) step.stage step.out_of_memory built after
refresh_goes block known after tables step built same is =
    at_rest_advances (stages.Refreshing block) known (answers.Looked tables) step (stages.Resting block) built after is
    (refresh_advances block known tables (stages.Resting block) false built after
    (λ around outside said es from.
    passes (fails states.S53200 block known around) (around.succeeded block (with_tables known tables)) said es from
    ∙ ap (λ (k : Knowledge). around.succeeded block k said es) (sym same)))

-- other tables, and the same level
pub known_tables : (known : Knowledge) (tables : List Table) → tables ≡ known.tables → record { tables = tables; level = known.level; served = known.served } ≡ known
known_tables known tables is = ap (λ (xs : List Table). record { tables = xs; level = known.level; served = known.served }) is

-- more tables, and the same level
pub joined_tables : (known : Knowledge) (after tables : List Table) → after ≡ known.tables ++ tables →
    record { tables = after; level = known.level; served = known.served } ≡ with_tables known tables
joined_tables known after tables is = ap (λ (xs : List Table). record { tables = xs; level = known.level; served = known.served }) is

-- the tables known where memory for more was refused
pub appended_not : (ok err : Bool) (after both known : List Table) → after ≡ (if ok then both else known) → ok ≡ not err → err ≡ true → after ≡ known
appended_not ok err after both known is turned fault = is ∙ ap (λ (b : Bool). if b then both else known) (turned ∙ ap not fault)

-- where it wasn't
pub appended : (ok err : Bool) (after known items tables : List Table) → after ≡ (if ok then known ++ items else known) → ok ≡ not err → err ≡ false → items ≡ tables → after ≡ known ++ tables
appended ok err after known items tables is turned fine same =
    is ∙ ap (λ (b : Bool). if b then known ++ items else known) (turned ∙ ap not fine) ∙ ap (λ (xs : List Table). known ++ xs) same

-- and forgotten again
pub forgotten : (n : ℕ) (cut after known tables : List Table) → cut ≡ take n after → after ≡ known ++ tables → n ≡ length known → cut ≡ known
forgotten n cut after known tables is joined same =
    is ∙ ap (λ (xs : List Table). take n xs) joined ∙ ap (λ (m : ℕ). take m (known ++ tables)) same ∙ take-append_seam known tables
