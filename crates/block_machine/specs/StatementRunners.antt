-- What a runner of single statements goes on with.
use Rattle.std.specs.Prelude.{ℕ, List}
use Rattle.sql_tree.specs.declared.table.Table.{Table}
use Rattle.block_machine.specs.declared.runner.Runner.{Runner}
use Rattle.block_machine.specs.Calls.{MessageWant}
use Rattle.block_machine.specs.Knowledge.{Knowledge, knowledge_in}
use Rattle.block_machine.specs.Script.{Script}
use Rattle.block_machine.specs.Statements.{Around}
use Rattle.block_machine.specs.Messages.{Outside}
use Rattle.block_machine.specs.Stages.{resumes, after_sent, wants, reply_of}

-- what its session knows
abbrev pub knowledge_of : Runner → Knowledge
knowledge_of r = knowledge_in r.known

-- the tables known
abbrev pub tables_of : Runner → List Table
tables_of r = r.known.tables.items

-- what it goes on with, given what follows the statement and what follows the end of the message
abbrev pub follows : Runner → Around → Outside → Script
follows r around outside = resumes r.stage r.built.items (knowledge_of r) around outside

-- what follows the reply that is held
abbrev pub follows_reply : Runner → Around → Outside → Script
follows_reply r around outside = after_sent r.stage (knowledge_of r) around outside

-- what it wants
abbrev pub wanted : Runner → MessageWant
wanted r = wants r.stage (knowledge_of r)

-- the bytes of the reply that it holds; none where it holds none
abbrev pub held : Runner → List ℕ
held r = reply_of r.built.items r.stage
