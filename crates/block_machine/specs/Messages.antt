-- A query message: its statements one after another, and its end; and what the bytes of one ask for.
use Rattle.std.specs.Prelude.{ℕ, List, [], ◌∷◌, true, false}
use Rattle.std.specs.Str.{IsUtf8}
use Rattle.cell_base.specs.declared.sql_state.SqlState.TheVariants as states
use Rattle.pg_framing.specs.declared.replies.TransactionState.{TransactionState}
use Rattle.pg_framing.specs.declared.replies.TransactionState.TheVariants as ready
use Rattle.outcome_replies.specs.declared.description.RowDescription.TheVariants as described
use Rattle.sql_statements.specs.declared.fault.ParseFault.{ParseFault}
use Rattle.sql_statements.specs.Faults.{AreStatementsOf, IsFaultOfText, state_of}
use Rattle.sql_tree.specs.declared.statement.Statement.{Statement}
use Rattle.block_machine.specs.Calls as calls
use Rattle.block_machine.specs.Knowledge.{Knowledge}
use Rattle.block_machine.specs.Replies.{ready_reply, empty_reply}
use Rattle.block_machine.specs.Script.{Script, ask, tell}
use Rattle.block_machine.specs.Statements.{Around, succeeds, fails, told_of}
use Rattle.block_machine.specs.declared.block.Block.{Block}
use Rattle.block_machine.specs.declared.block.Block.TheVariants.{Implicit, Regular, Failed}
use Rattle.block_machine.specs.declared.block.Owed.{Owed}
use Rattle.block_machine.specs.declared.block.Owed.TheVariants as owes
use Rattle.block_machine.specs.declared.ending.ReadyForQuery.{ReadyForQuery}
use Rattle.block_machine.specs.declared.ending.ReadyForQuery.TheVariants as told
use Rattle.block_machine.specs.declared.message.Message.{Message}
use Rattle.block_machine.specs.declared.message.Message.TheVariants as messages

-- What follows a message: at its end, by the state in which it leaves the session and what the session then knows, and where a reply
-- could not be sent, by what the session owes.
pub record Outside : Type 0 where
  pub next : TransactionState → Knowledge → Script
  pub broken : Owed → Script

-- the transaction of a block is pending between two messages too
abbrev pub owed_between : TransactionState → Owed
owed_between ready.Idle = owes.Close
owed_between ready.Block = owes.Rollback
owed_between ready.Failed = owes.Close

-- ReadyForQuery, and what follows the message
abbrev pub readied : TransactionState → Knowledge → Outside → Script
readied state known outside = tell (ready_reply state) (outside.broken (owed_between state)) (outside.next state known)

-- the same where ReadyForQuery is told or left out
abbrev pub finished : ReadyForQuery → TransactionState → Knowledge → Outside → Script
finished told.Told state known outside = readied state known outside
finished told.Omitted state known outside = outside.next state known

-- The end of a message commits the message's own transaction, where one is pending. Then ReadyForQuery is told, where it is asked for.
abbrev pub finishes : ReadyForQuery → Block → Knowledge → Outside → Script
finishes ready_for (Implicit false) known outside = finished ready_for ready.Idle known outside
finishes ready_for (Implicit true) known outside = ask calls.Commit (λ _. finished ready_for ready.Idle known outside)
finishes ready_for Regular known outside = finished ready_for ready.Block known outside
finishes ready_for Failed known outside = finished ready_for ready.Failed known outside

-- the end of a query message
abbrev pub ends : Block → Knowledge → Outside → Script
ends block known outside = finishes told.Told block known outside

-- Statements one after another. After the ErrorResponse of one that fails the others are skipped, and ReadyForQuery is told.
abbrev pub statements : List Statement → Block → Knowledge → Outside → Script
statements [] block known outside = ends block known outside
statements (s ∷ more) block known outside =
    told_of described.Told s block known (record {
      succeeded = λ b k. statements more b k outside;
      failed = λ state k. readied state k outside;
      broken = outside.broken;
    })

-- what follows a statement before others of its message
abbrev pub before : List Statement → Outside → Around
before more outside = record {
  succeeded = λ b k. statements more b k outside;
  failed = λ state k. readied state k outside;
  broken = outside.broken;
}

-- the block that a message finds
abbrev pub block_at : TransactionState → Block
block_at ready.Idle = Implicit false
block_at ready.Block = Regular
block_at ready.Failed = Failed

-- A message that is read. One without a statement is told EmptyQueryResponse.
abbrev pub opens : List Statement → Block → Knowledge → Outside → Script
opens [] block known outside = succeeds empty_reply block known (before [] outside)
opens (s ∷ more) block known outside = statements (s ∷ more) block known outside

-- A message that can't be read is told ErrorResponse before its first statement, also in a failed block.
abbrev pub message : Message → TransactionState → Knowledge → Outside → Script
message (messages.Unread code) state known outside = fails code (block_at state) known (before [] outside)
message (messages.Statements asked) state known outside = opens asked (block_at state) known outside

-- what the bytes of a message ask for
pub data IsMessage (text : List ℕ) : Message → Type 0 where
  -- they are no text
  no_text : ¬ (IsUtf8 text) → IsMessage text (messages.Unread states.S22021)
  -- the text isn't read
  faulty : (fault : ParseFault) → IsUtf8 text → IsFaultOfText text fault → IsMessage text (messages.Unread (state_of fault))
  -- it is statements
  reads : (xs : List Statement) → IsUtf8 text → AreStatementsOf text xs → IsMessage text (messages.Statements xs)
