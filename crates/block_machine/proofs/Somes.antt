-- Each reply has bytes.
use Rattle.std.proofs.Common.{ℕ, ◌<◌, List, [], ◌∷◌, ◌++◌, length, arith, length-append}
use Rattle.cell_base.specs.declared.sql_state.SqlState.{SqlState}
use Rattle.cell_base.specs.declared.sql_type.SqlType.TheVariants as types
use Rattle.cell_base.specs.declared.value.Value.TheVariants as values
use Rattle.statement_course.specs.declared.demand.Outcome.{Outcome}
use Rattle.statement_course.specs.declared.demand.Outcome.TheVariants.{Rows, Inserted, Updated, Deleted, Failed}
use Rattle.std.specs.Prelude.{flat_map, codes}
use Rattle.std.specs.Fmt.{decimal}
use Rattle.outcome_replies.specs.Replies.{columns_reply, outcome_reply}
use Rattle.pg_framing.specs.declared.replies.Severity.{Severity}
use Rattle.pg_framing.specs.declared.replies.TransactionState.{TransactionState}
use Rattle.pg_framing.specs.Replies.{framed, ready, command_complete, data_row, empty_query, error_response, notice_response}
use Rattle.outcome_replies.specs.declared.description.RowDescription.{RowDescription}
use Rattle.block_machine.specs.declared.reply.Fixed.{Fixed}
use Rattle.block_machine.specs.declared.reply.Fixed.TheVariants as fixed
use Rattle.block_machine.specs.Replies.{ready_reply, error_reply, empty_reply, done_reply, warned_reply, show_reply, fixed_reply}

framed-some : (kind : ℕ) (body : List ℕ) → 0 < length (framed kind body)
unfolding framed
framed-some kind body = omega arith

first-some : (bytes more : List ℕ) → 0 < length bytes → 0 < length (bytes ++ more)
first-some bytes more some = omega (arith, length-append bytes more)

second-some : (more bytes : List ℕ) → 0 < length bytes → 0 < length (more ++ bytes)
second-some more bytes some = omega (arith, length-append more bytes)

complete-some : (tag : List ℕ) → 0 < length (command_complete tag)
unfolding command_complete
complete-some tag = framed-some _ _

report-some : (severity : Severity) (state : SqlState) → 0 < length (error_response severity state)
unfolding error_response
report-some severity state = framed-some _ _

notice-some : (state : SqlState) → 0 < length (notice_response state)
unfolding notice_response
notice-some state = framed-some _ _

pub ready_some : (state : TransactionState) → 0 < length (ready_reply state)
unfolding ready_reply ready
ready_some state = framed-some _ _

pub error_some : (state : SqlState) → 0 < length (error_reply state)
unfolding error_reply
error_some state = report-some _ state

empty-some : 0 < length empty_reply
unfolding empty_reply empty_query
empty-some = framed-some _ _

done-some : (tag : List ℕ) → 0 < length (done_reply tag)
unfolding done_reply
done-some tag = complete-some tag

warned-some : (state : SqlState) (tag : List ℕ) → 0 < length (warned_reply state tag)
unfolding warned_reply
warned-some state tag = first-some _ _ (notice-some state)

pub show_some : (description : RowDescription) (name value : List ℕ) → 0 < length (show_reply description name value)
unfolding show_reply
show_some description name value =
    second-some (columns_reply description (record { name = name; kind = types.Text } ∷ [])) (data_row (values.Text value ∷ []) ++ command_complete (codes "SHOW"))
    (second-some (data_row (values.Text value ∷ [])) (command_complete (codes "SHOW")) (complete-some (codes "SHOW")))

pub outcome_some : (description : RowDescription) (outcome : Outcome) → 0 < length (outcome_reply description outcome)
unfolding outcome_reply
outcome_some description (Rows fields rows) =
    second-some (columns_reply description fields) (flat_map data_row rows ++ command_complete (codes "SELECT " ++ decimal (length rows)))
    (second-some (flat_map data_row rows) (command_complete (codes "SELECT " ++ decimal (length rows)))
    (complete-some (codes "SELECT " ++ decimal (length rows))))
outcome_some description (Inserted n) = complete-some _
outcome_some description (Updated n) = complete-some _
outcome_some description (Deleted n) = complete-some _
outcome_some description (Failed code) = report-some _ code

pub fixed_some : (reply : Fixed) → 0 < length (fixed_reply reply)
fixed_some fixed.Empty = empty-some
fixed_some fixed.Created = done-some _
fixed_some fixed.Set = done-some _
fixed_some fixed.Begun = done-some _
fixed_some fixed.Started = done-some _
fixed_some fixed.BegunAgain = warned-some _ _
fixed_some fixed.StartedAgain = warned-some _ _
fixed_some fixed.Committed = done-some _
fixed_some fixed.CommittedNothing = warned-some _ _
fixed_some fixed.RolledBack = done-some _
fixed_some fixed.RolledBackNothing = warned-some _ _
