-- What a runner of query messages goes on with.
use Rattle.std.specs.Prelude.{ℕ, ◌+◌, ◌*◌, All, List, length, Bool}
use Rattle.std.specs.Vec.Iter.{into_iter_items}
use Rattle.sql_tree.specs.declared.statement.Statement.{Statement}
use Rattle.sql_tree.specs.declared.table.Table.{Table}
use Rattle.block_machine.specs.declared.block.Owed.{Owed}
use Rattle.block_machine.specs.declared.message_runner.MessageRunner.{MessageRunner}
use Rattle.block_machine.specs.Calls.{MessageWant}
use Rattle.block_machine.specs.Knowledge.{Knowledge}
use Rattle.block_machine.specs.Script.{Script}
use Rattle.block_machine.specs.Messages.{Outside}
use Rattle.block_machine.specs.StatementRunners as statements
use Rattle.block_machine.specs.declared.stage.MessageStage.{MessageStage}
use Rattle.block_machine.specs.Stages.{goes_on, after_reply, owed_at, work_at, left_at, running_at, is_busy, IsHolding, IsRunning, KnowsTables, IsSoundStage, IsSoundStatement}

-- the statements that its message still has
abbrev pub statements_of : MessageRunner → List Statement
statements_of r = into_iter_items r.rest

-- the stage of its runner of single statements
abbrev pub stage_of : MessageRunner → MessageStage
stage_of r = r.runner.stage

-- what its session knows
abbrev pub knowledge_of : MessageRunner → Knowledge
knowledge_of r = statements.knowledge_of r.runner

-- what it goes on with
abbrev pub follows : MessageRunner → Outside → Script
follows r outside = goes_on (stage_of r) r.runner.built.items (knowledge_of r) (statements_of r) outside

-- what it wants
abbrev pub wanted : MessageRunner → MessageWant
wanted r = statements.wanted r.runner

-- the bytes of the reply that it holds; none where it holds none
abbrev pub held : MessageRunner → List ℕ
held r = statements.held r.runner

-- how much work is left until the message is done, but for the demands of a running statement
abbrev pub work_of : MessageRunner → ℕ
work_of r = work_at (stage_of r) + 8 * length (statements_of r)

-- ---- words for what stands above

-- the tables known
abbrev pub tables_of : MessageRunner → List Table
tables_of r = statements.tables_of r.runner

-- what follows the reply that is held
abbrev pub follows_reply : MessageRunner → Outside → Script
follows_reply r outside = after_reply (stage_of r) (knowledge_of r) (statements_of r) outside

-- what the session owes its book
abbrev pub owes : MessageRunner → Owed
owes r = owed_at (stage_of r)

-- whether a message is under way
abbrev pub is_under_way : MessageRunner → Bool
is_under_way r = is_busy (stage_of r)

-- a reply is held
abbrev pub Holds : MessageRunner → Type 0
Holds r = IsHolding (stage_of r)

-- a statement runs
abbrev pub Runs : MessageRunner → Type 0
Runs r = IsRunning (stage_of r)

-- a statement that begins or runs asks only for cells of the tables that are known
abbrev pub Knows : MessageRunner → Type 0
Knows r = KnowsTables (stage_of r) (tables_of r)

-- the table that is about to be defined is sound, and so are the statements that wait; what the one under way comes to can be told
pub record IsSoundRunner (r : MessageRunner) : Type 0 where
  pub stage : IsSoundStage r.runner.stage
  pub rest : All IsSoundStatement (statements_of r)

-- how many demands of a running statement are left at most
abbrev pub left_of : MessageRunner → ℕ
left_of r = left_at (stage_of r)

-- 1 where a statement runs
abbrev pub running_of : MessageRunner → ℕ
running_of r = running_at (stage_of r)
