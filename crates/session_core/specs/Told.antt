-- What a session is told, and which calls it asks of its book, given what its client says and what became of it so far. The statements of
-- a query have their own page (block_machine).
use Rattle.std.specs.Prelude.{ℕ, ◌==◌, List, [], ◌∷◌, length, if◌then◌else◌, true, false, Option, Some, None}
use Rattle.cell_base.specs.declared.level.Level.{Level}
use Rattle.cell_base.specs.declared.sql_state.SqlState.{SqlState}
use Rattle.cell_base.specs.declared.sql_state.SqlState.TheVariants as states
use Rattle.history_core.specs.declared.fault.BookFault.{BookFault}
use Rattle.history_core.specs.declared.fault.BookFault.TheVariants as faults
use Rattle.pg_framing.specs.declared.replies.TransactionState.{TransactionState}
use Rattle.pg_framing.specs.declared.replies.TransactionState.TheVariants as block_states
use Rattle.block_machine.specs.Calls as calls
use Rattle.block_machine.specs.Knowledge.{Knowledge, at_start}
use Rattle.block_machine.specs.Script.{Entry, did, refused, short, unsent, stop, Said, Next, more, ended, astray, Script, lost, ask, on_opened, tell, unless_short}
use Rattle.block_machine.specs.Statements.{fails}
use Rattle.block_machine.specs.Messages.{Outside, owed_between, readied, block_at, message}
use Rattle.block_machine.specs.declared.block.Owed.{Owed}
use Rattle.block_machine.specs.declared.block.Owed.TheVariants as owes
use Rattle.block_machine.specs.declared.call.Answer.{Answer}
use Rattle.block_machine.specs.declared.call.Answer.TheVariants as answers
use Rattle.block_machine.specs.declared.end.End.{End}
use Rattle.block_machine.specs.declared.end.End.TheVariants as ends
use Rattle.block_machine.specs.declared.end.Stop.{Stop}
use Rattle.block_machine.specs.declared.end.Stop.TheVariants as stops
use Rattle.block_machine.specs.declared.message.Message.TheVariants as messages
use Rattle.session_core.specs.declared.phase.Phase.{Phase}
use Rattle.session_core.specs.declared.phase.Phase.TheVariants as phases
use Rattle.session_core.specs.Requests.{Request, encryption, cancel, start, userless, version, query, unread_query, terminate, sync, nothing, extended, function, Requests, asks, partial, faulty, unread}
use Rattle.session_core.specs.Replies.{no_encryption, startup_reply, fatal_reply}

-- the session that is open after an answer
abbrev pub opened_after : Option ℕ → Answer → Option ℕ
opened_after number (answers.Opened session) = Some session
opened_after number _ = number

-- the session that was opened, where one was
abbrev pub opened_from : Option ℕ → List Entry → Option ℕ
opened_from number [] = number
opened_from number (did a e ∷ entries) = opened_from (opened_after number a) entries
opened_from number (refused why ∷ entries) = opened_from number entries
opened_from number (short final n ∷ entries) = opened_from number entries
opened_from number (unsent n ∷ entries) = opened_from number entries
opened_from number (stop cause ∷ entries) = opened_from number entries

abbrev pub opened_in : List Entry → Option ℕ
opened_in entries = opened_from None entries

-- ---- ends: what is owed is asked for, and then the last reply is told

-- what a session owes its book between two messages
abbrev pub owed_by : Phase → Owed
owed_by phases.Startup = owes.Nothing
owed_by (phases.Normal state) = owed_between state
owed_by (phases.Discarding state) = owed_between state

abbrev pub done : End → Script
done end said [] = (said, ended end)
done end said (e ∷ entries) = (said, astray)

abbrev pub fatal : SqlState → End → Script
fatal state end = tell (fatal_reply state) (done ends.WriteFault) (done end)

abbrev pub closed : End → Script
closed (ends.Protocol fault) = fatal states.S08P01 (ends.Protocol fault)
closed (ends.Refused state) = fatal state (ends.Refused state)
closed ends.Spent = fatal states.S54000 ends.Spent
closed ends.Terminated = done ends.Terminated
closed ends.Closed = done ends.Closed
closed ends.Cut = done ends.Cut
closed ends.Cancelled = done ends.Cancelled
closed ends.ReadFault = done ends.ReadFault
closed ends.WriteFault = done ends.WriteFault
closed ends.Memory = done ends.Memory

abbrev pub closing : End → Script
closing end = ask calls.Close (λ _. closed end)

abbrev pub ending : Owed → End → Script
ending owes.Nothing end = closed end
ending owes.Close end = closing end
ending owes.Rollback end = ask calls.Rollback (λ _. closing end)

-- a reply that could not be sent ends the session
abbrev pub broken : Owed → Script
broken owed = ending owed ends.WriteFault

-- ---- messages before the startup

abbrev pub refusal_end : BookFault → End
refusal_end (faults.Full limit) = ends.Refused states.S54000
refusal_end faults.Memory = ends.Memory

abbrev pub tells_startup : ℕ → Script → Script
tells_startup session rest = unless_short true (closing ends.Memory) (tell (startup_reply session) (broken owes.Close) rest)

abbrev pub opens : Script → Script
opens rest = ask calls.Open (λ a. on_opened a (λ session. tells_startup session rest) (λ why. closed (refusal_end why)))

-- rest is what follows, by the phase and what is then known
abbrev pub starting : Request → Knowledge → (Phase → Knowledge → Script) → Script
starting encryption known rest = tell no_encryption (broken owes.Nothing) (rest phases.Startup known)
starting cancel known rest = closed ends.Cancelled
starting start known rest = opens (rest (phases.Normal block_states.Idle) known)
starting userless known rest = closed (ends.Refused states.S28000)
starting version known rest = closed (ends.Refused states.S0A000)
starting _ known rest = lost

-- ---- messages after the startup

-- what stands around a message
abbrev pub outside_of : (Phase → Knowledge → Script) → Outside
outside_of rest = record { next = λ state known. rest (phases.Normal state) known; broken = broken }

-- A message of the extended query fails without the reply that the next one may come: what follows it is discarded.
abbrev pub refuses : TransactionState → Knowledge → (Phase → Knowledge → Script) → Script
refuses state known rest =
    fails states.S0A000 (block_at state) known (record {
      succeeded = λ block k. lost;
      failed = λ after k. rest (phases.Discarding after) k;
      broken = broken;
    })

abbrev pub serving : Request → TransactionState → Knowledge → (Phase → Knowledge → Script) → Script
serving (query asked) state known rest = message asked state known (outside_of rest)
serving unread_query state known rest = unless_short false
    (message (messages.Unread states.S53200) state known (outside_of rest)) lost
serving terminate state known rest = ending (owed_between state) ends.Terminated
serving sync state known rest = readied state known (outside_of rest)
serving nothing state known rest = rest (phases.Normal state) known
serving extended state known rest = refuses state known rest
serving function state known rest = message (messages.Unread states.S0A000) state known (outside_of rest)
serving _ state known rest = lost

-- A Sync ends the discarding.
abbrev pub discarding : Request → TransactionState → Knowledge → (Phase → Knowledge → Script) → Script
discarding terminate state known rest = ending (owed_between state) ends.Terminated
discarding sync state known rest = readied state known (outside_of rest)
discarding _ state known rest = rest (phases.Discarding state) known

abbrev pub handled : Request → Phase → Knowledge → (Phase → Knowledge → Script) → Script
handled asked phases.Startup known rest = starting asked known rest
handled asked (phases.Normal state) known rest = serving asked state known rest
handled asked (phases.Discarding state) known rest = discarding asked state known rest

-- ---- the whole stream

abbrev pub stop_end : Stop → ℕ → End
stop_end stops.EndOfInput held = if held == 0 then ends.Closed else ends.Cut
stop_end stops.ReadFault held = ends.ReadFault
stop_end stops.Spent held = ends.Spent

-- bytes are wanted, and so many of a message are there
abbrev pub waiting : Phase → ℕ → Script
waiting phase held said [] = (said, more)
waiting phase held said (stop cause ∷ entries) = ending (owed_by phase) (stop_end cause held) said entries
waiting phase held said (did a e ∷ entries) = (said, astray)
waiting phase held said (refused why ∷ entries) = (said, astray)
waiting phase held said (short final n ∷ entries) = (said, astray)
waiting phase held said (unsent n ∷ entries) = (said, astray)

-- a lack of memory before a message or before its bytes ends the session
abbrev pub unless_memory_ends : Phase → Script → Script
unless_memory_ends phase rest = unless_short true (ending (owed_by phase) ends.Memory) rest

-- the messages one after another, given the phase and what the session knows
abbrev pub session : Phase → Knowledge → Requests → Script
session phase known (asks asked requests) = unless_memory_ends phase (handled asked phase known (λ p k. session p k requests))
session phase known (partial rest) = unless_memory_ends phase (waiting phase (length rest))
session phase known (faulty fault) = unless_memory_ends phase (ending (owed_by phase) (ends.Protocol fault))
session phase known unread = unless_memory_ends phase lost

-- what a session of a server at this level is told of all that its client says and of its whole record, the calls that it asked, and what
-- comes next
unfoldable pub told : Level → Requests → List Entry → Said × Next
told level requests entries = session phases.Startup (at_start level) requests (record { bytes = []; calls = [] }) entries
