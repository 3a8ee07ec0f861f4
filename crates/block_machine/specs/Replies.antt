-- The replies to the statements of a message, but for those of statements that read or write rows (outcome_replies).
use Rattle.std.specs.Prelude.{ℕ, List, [], ◌∷◌, ◌++◌, codes, Bool, true, false}
use Rattle.cell_base.specs.declared.sql_state.SqlState.{SqlState}
use Rattle.cell_base.specs.declared.sql_state.SqlState.TheVariants as states
use Rattle.cell_base.specs.declared.sql_type.SqlType.TheVariants as types
use Rattle.cell_base.specs.declared.value.Value.TheVariants as values
use Rattle.pg_framing.specs.declared.replies.Severity.TheVariants as severities
use Rattle.pg_framing.specs.declared.replies.TransactionState.{TransactionState}
use Rattle.pg_framing.specs.Replies.{ready, command_complete, empty_query, error_response, notice_response, data_row}
use Rattle.outcome_replies.specs.Replies.{columns_reply}
use Rattle.outcome_replies.specs.declared.description.RowDescription.{RowDescription}
use Rattle.block_machine.specs.declared.reply.Fixed.{Fixed}
use Rattle.block_machine.specs.declared.reply.Fixed.TheVariants as fixed
use Rattle.block_machine.specs.declared.reply.StatementReply.{StatementReply}
use Rattle.block_machine.specs.declared.reply.StatementReply.TheVariants as replies

-- ReadyForQuery: the next message may come; the session is in this state
unfoldable pub ready_reply : TransactionState → List ℕ
ready_reply state = ready state

-- ErrorResponse with this code, of severity ERROR: the session goes on
unfoldable pub error_reply : SqlState → List ℕ
error_reply state = error_response severities.Error state

-- EmptyQueryResponse: the message has no statement
unfoldable pub empty_reply : List ℕ
empty_reply = empty_query

-- CommandComplete with this tag, which has no count
unfoldable pub done_reply : List ℕ → List ℕ
done_reply tag = command_complete tag

-- NoticeResponse with this code, and then CommandComplete with this tag
unfoldable pub warned_reply : SqlState → List ℕ → List ℕ
warned_reply state tag = notice_response state ++ command_complete tag

-- CommandComplete of CREATE TABLE
abbrev pub created_reply : List ℕ
created_reply = done_reply (codes "CREATE TABLE")

-- CommandComplete of SET
abbrev pub set_reply : List ℕ
set_reply = done_reply (codes "SET")

-- CommandComplete of a COMMIT of a block
abbrev pub commit_reply : List ℕ
commit_reply = done_reply (codes "COMMIT")

-- CommandComplete of a ROLLBACK of a block, and of a COMMIT of a failed one
abbrev pub rollback_reply : List ℕ
rollback_reply = done_reply (codes "ROLLBACK")

-- a COMMIT or a ROLLBACK outside a block: NoticeResponse with 25P01, and CommandComplete
abbrev pub needless_commit_reply : List ℕ
needless_commit_reply = warned_reply states.S25P01 (codes "COMMIT")

abbrev pub needless_rollback_reply : List ℕ
needless_rollback_reply = warned_reply states.S25P01 (codes "ROLLBACK")

-- CommandComplete of BEGIN, or of START TRANSACTION where the flag is true
abbrev pub start_reply : Bool → List ℕ
start_reply false = done_reply (codes "BEGIN")
start_reply true = done_reply (codes "START TRANSACTION")

-- the same inside a block: NoticeResponse with 25001, and CommandComplete
abbrev pub needless_start_reply : Bool → List ℕ
needless_start_reply false = warned_reply states.S25001 (codes "BEGIN")
needless_start_reply true = warned_reply states.S25001 (codes "START TRANSACTION")

-- SHOW: RowDescription of one column of type text, with the name that was asked for, where it is told; DataRow with the value;
-- CommandComplete
unfoldable pub show_reply : RowDescription → List ℕ → List ℕ → List ℕ
show_reply description name value =
    columns_reply description (record { name = name; kind = types.Text } ∷ [])
    ++ (data_row (values.Text value ∷ []) ++ command_complete (codes "SHOW"))

-- the messages of a reply that is known beforehand
abbrev pub fixed_reply : Fixed → List ℕ
fixed_reply fixed.Empty = empty_reply
fixed_reply fixed.Created = created_reply
fixed_reply fixed.Set = set_reply
fixed_reply fixed.Begun = start_reply false
fixed_reply fixed.Started = start_reply true
fixed_reply fixed.BegunAgain = needless_start_reply false
fixed_reply fixed.StartedAgain = needless_start_reply true
fixed_reply fixed.Committed = commit_reply
fixed_reply fixed.CommittedNothing = needless_commit_reply
fixed_reply fixed.RolledBack = rollback_reply
fixed_reply fixed.RolledBackNothing = needless_rollback_reply

-- the bytes of a reply, given those that were built
abbrev pub bytes_of : List ℕ → StatementReply → List ℕ
bytes_of built replies.Built = built
bytes_of built (replies.Fixed reply) = fixed_reply reply
