-- Each reply of the session's own has bytes.
use Rattle.std.proofs.Common.{ℕ, ◌<◌, List, ◌++◌, length, arith, length-append}
use Rattle.cell_base.specs.declared.sql_state.SqlState.{SqlState}
use Rattle.pg_framing.specs.declared.replies.Severity.{Severity}
use Rattle.pg_framing.specs.declared.replies.TransactionState.{TransactionState}
use Rattle.pg_framing.specs.Replies.{framed, auth_ok, ready, error_response}
use Rattle.block_machine.specs.Replies.{ready_reply, error_reply}
use Rattle.block_machine.specs.declared.message_runner.MessageRunner.{MessageRunner}
use Rattle.session_core.specs.declared.stage.SessionStage.{SessionStage}
use Rattle.session_core.specs.declared.stage.SessionStage.TheVariants as stages
use Rattle.session_core.specs.declared.stage.SessionReply.TheVariants as replies
use Rattle.session_core.specs.Replies.{startup_reply, fatal_reply, fatal_state}
use Rattle.session_core.specs.Stands.{NoBuilt, HasReply}

framed-some : (kind : ℕ) (body : List ℕ) → 0 < length (framed kind body)
unfolding framed
framed-some kind body = omega arith

first-some : (bytes more : List ℕ) → 0 < length bytes → 0 < length (bytes ++ more)
first-some bytes more some = omega (arith, length-append bytes more)

report-some : (severity : Severity) (state : SqlState) → 0 < length (error_response severity state)
unfolding error_response
report-some severity state = framed-some _ _

accepted-some : 0 < length auth_ok
unfolding auth_ok
accepted-some = framed-some _ _

pub startup-some : (session : ℕ) → 0 < length (startup_reply session)
unfolding startup_reply
startup-some session = first-some auth_ok _ accepted-some

ready-some : (state : TransactionState) → 0 < length (ready_reply state)
unfolding ready_reply ready
ready-some state = framed-some _ _

error-some : (state : SqlState) → 0 < length (error_reply state)
unfolding error_reply
error-some state = report-some _ state

fatal-some : (state : SqlState) → 0 < length (fatal_reply state)
unfolding fatal_reply
fatal-some state = report-some _ state

-- each reply but one that was built has bytes
pub plain_some : (stage : SessionStage) (r : MessageRunner) (startup : List ℕ) → NoBuilt stage → HasReply stage r startup
plain_some stages.Running r startup h k = absurd h
plain_some (stages.Telling replies.NoEncryption) r startup h k = omega arith
plain_some (stages.Telling replies.Startup) r startup h k = absurd h
plain_some (stages.Telling (replies.Ready state)) r startup h k = ready-some state
plain_some (stages.Telling (replies.Unsupported state)) r startup h k = error-some _
plain_some (stages.Parting fatal) r startup h k = fatal-some (fatal_state fatal)
plain_some _ r startup h k = absurd k
