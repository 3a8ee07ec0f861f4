-- The replies of a session, but for those of the statements of its messages (block_machine).
use Rattle.std.specs.Prelude.{ℕ, List, [], ◌∷◌, ◌++◌, codes}
use Rattle.cell_base.specs.declared.sql_state.SqlState.{SqlState}
use Rattle.cell_base.specs.declared.sql_state.SqlState.TheVariants as states
use Rattle.pg_framing.specs.declared.replies.Severity.TheVariants as severities
use Rattle.pg_framing.specs.declared.replies.TransactionState.TheVariants as ready_states
use Rattle.pg_framing.specs.Replies.{auth_ok, parameter, key_data, ready, error_response}
use Rattle.block_machine.specs.Replies.{ready_reply, error_reply}
use Rattle.block_machine.specs.Settings.{parameters}
use Rattle.session_core.specs.declared.phase.Phase.{Phase}
use Rattle.session_core.specs.declared.phase.Phase.TheVariants as phases
use Rattle.session_core.specs.declared.stage.Fatal.{Fatal}
use Rattle.session_core.specs.declared.stage.Fatal.TheVariants as fatals
use Rattle.session_core.specs.declared.stage.SessionReply.{SessionReply}
use Rattle.session_core.specs.declared.stage.SessionReply.TheVariants as replies

-- the one byte that refuses encryption, the letter N
abbrev pub no_encryption : List ℕ
no_encryption = codes "N"

-- ParameterStatus of each of these settings, by its name and its value
abbrev pub statuses : List (List ℕ × List ℕ) → List ℕ
statuses [] = []
statuses (p ∷ more) = parameter p.0 p.1 ++ statuses more

-- AuthenticationOk, ParameterStatus of each setting of the start, BackendKeyData, ReadyForQuery
unfoldable pub startup_reply : ℕ → List ℕ
startup_reply session = auth_ok ++ (statuses parameters ++ (key_data session 0 ++ ready ready_states.Idle))

unfoldable pub fatal_reply : SqlState → List ℕ
fatal_reply state = error_response severities.Fatal state

-- the code of an end that a FATAL reply tells
abbrev pub fatal_state : Fatal → SqlState
fatal_state (fatals.Protocol fault) = states.S08P01
fatal_state fatals.NoUser = states.S28000
fatal_state fatals.OtherVersion = states.S0A000
fatal_state fatals.Full = states.S54000
fatal_state fatals.Spent = states.S54000

-- the bytes of a reply, given the startup reply that was built
abbrev pub bytes_of : List ℕ → SessionReply → List ℕ
bytes_of startup replies.NoEncryption = no_encryption
bytes_of startup replies.Startup = startup
bytes_of startup (replies.Ready state) = ready_reply state
bytes_of startup (replies.Unsupported state) = error_reply states.S0A000

-- the phase after a reply
abbrev pub phase_after_reply : SessionReply → Phase
phase_after_reply replies.NoEncryption = phases.Startup
phase_after_reply replies.Startup = phases.Normal ready_states.Idle
phase_after_reply (replies.Ready state) = phases.Normal state
phase_after_reply (replies.Unsupported state) = phases.Discarding state
