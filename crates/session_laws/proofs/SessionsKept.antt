-- What a session is told keeps to the rules.
use Rattle.std.proofs.Common.{true, false, ℕ, List, [], ◌∷◌, length}
use Rattle.cell_base.specs.declared.sql_state.SqlState.{SqlState}
use Rattle.cell_base.specs.declared.sql_state.SqlState.TheVariants as states
use Rattle.pg_framing.specs.declared.replies.TransactionState.{TransactionState}
use Rattle.pg_framing.specs.declared.replies.TransactionState.TheVariants as block_states
use Rattle.block_machine.specs.Calls as calls
use Rattle.block_machine.specs.Knowledge.{Knowledge}
use Rattle.block_machine.specs.Script.{Entry, did, refused, short, unsent, stop, Said, Script}
use Rattle.block_machine.specs.Messages.{owed_between, block_at}
use Rattle.block_machine.specs.declared.block.Owed.{Owed}
use Rattle.block_machine.specs.declared.block.Owed.TheVariants as owes
use Rattle.block_machine.specs.declared.call.Answer.TheVariants as answers
use Rattle.block_machine.specs.declared.end.End.{End}
use Rattle.block_machine.specs.declared.end.End.TheVariants as ends
use Rattle.block_machine.specs.declared.message.Message.TheVariants as messages
use Rattle.session_core.specs.declared.phase.Phase.{Phase}
use Rattle.session_core.specs.declared.phase.Phase.TheVariants as phases
use Rattle.session_core.specs.Requests.{Request, encryption, cancel, start, userless, version, query, unread_query, terminate, sync, nothing, extended, function, Requests, asks, partial, faulty, unread}
use Rattle.session_core.specs.Replies.{no_encryption, startup_reply, fatal_reply}
use Rattle.session_core.specs.Told as told
use Rattle.session_core.specs.Told.{outside_of, owed_by, stop_end, refusal_end}
use Rattle.session_laws.proofs.Rules.{Rules, AreFit, Asked, Keeps, none_asked, past_stop, lost_keeps, ask_keeps, tell_keeps, short_keeps, opened_keeps}
use Rattle.session_laws.proofs.StatementsKept.{may_fail, fails}
use Rattle.session_laws.proofs.MessagesKept.{Encloses, readied, message}

-- ---- ends

done_asks : (r : Rules) (s : r.State) (end : End) (said : Said) (entries : List Entry) → Asked r s said.calls (told.done end said entries).0.calls entries
done_asks r s end said [] = none_asked r s said.calls []
done_asks r s end said (e ∷ entries) = none_asked r s said.calls (e ∷ entries)

done_keeps : (r : Rules) (s : r.State) (end : End) → Keeps r s (told.done end)
done_keeps r s end = record { asks = done_asks r s end }

fatal_keeps : (r : Rules) (s : r.State) (state : SqlState) (end : End) → Keeps r s (told.fatal state end)
fatal_keeps r s state end =
    tell_keeps r s (fatal_reply state) (told.done ends.WriteFault) (told.done end) (done_keeps r s ends.WriteFault) (done_keeps r s end)

closed_keeps : (r : Rules) (s : r.State) (end : End) → Keeps r s (told.closed end)
closed_keeps r s (ends.Protocol fault) = fatal_keeps r s states.S08P01 (ends.Protocol fault)
closed_keeps r s (ends.Refused state) = fatal_keeps r s state (ends.Refused state)
closed_keeps r s ends.Spent = fatal_keeps r s states.S54000 ends.Spent
closed_keeps r s ends.Terminated = done_keeps r s ends.Terminated
closed_keeps r s ends.Closed = done_keeps r s ends.Closed
closed_keeps r s ends.Cut = done_keeps r s ends.Cut
closed_keeps r s ends.Cancelled = done_keeps r s ends.Cancelled
closed_keeps r s ends.ReadFault = done_keeps r s ends.ReadFault
closed_keeps r s ends.WriteFault = done_keeps r s ends.WriteFault
closed_keeps r s ends.Memory = done_keeps r s ends.Memory

closing_keeps : (r : Rules) → AreFit r → (s : r.State) (end : End) (known : Knowledge) → r.Resting s known → Keeps r s (told.closing end)
closing_keeps r fit s end known resting =
    ask_keeps r s calls.Close (λ _. told.closed end) (fit.closes s known resting) (λ a. closed_keeps r (r.next s calls.Close a) end)

ending_keeps : (r : Rules) → AreFit r → (s : r.State) (owed : Owed) (end : End) (known : Knowledge) → r.Resting s known → Keeps r s (told.ending owed end)
ending_keeps r fit s owes.Nothing end known resting = closed_keeps r s end
ending_keeps r fit s owes.Close end known resting = closing_keeps r fit s end known resting
ending_keeps r fit s owes.Rollback end known resting =
    let asks = fit.rolls_back s known resting in
    ask_keeps r s calls.Rollback (λ _. told.closing end) asks.0 (λ a. closing_keeps r fit (r.next s calls.Rollback a) end known (asks.1 a))

broken_keeps : (r : Rules) → AreFit r → (s : r.State) (owed : Owed) (known : Knowledge) → r.Resting s known → Keeps r s (told.broken owed)
broken_keeps r fit s owed known resting = ending_keeps r fit s owed ends.WriteFault known resting

-- ---- where a session stands between two messages

abbrev pub Stands : (r : Rules) → r.State → Knowledge → Phase → Type 0
Stands r s k phases.Startup = r.Fresh s k
Stands r s k (phases.Normal state) = r.Resting s k
Stands r s k (phases.Discarding state) = r.Resting s k

ends_keeps : (r : Rules) → AreFit r → (s : r.State) (phase : Phase) (end : End) (known : Knowledge) → Stands r s known phase →
    Keeps r s (told.ending (owed_by phase) end)
ends_keeps r fit s phases.Startup end known stands = closed_keeps r s end
ends_keeps r fit s (phases.Normal state) end known stands = ending_keeps r fit s (owed_between state) end known stands
ends_keeps r fit s (phases.Discarding state) end known stands = ending_keeps r fit s (owed_between state) end known stands

-- what follows a message keeps to the rules, wherever that leaves the session
abbrev pub GoesOn : (r : Rules) → (Phase → Knowledge → Script) → Type 0
GoesOn r rest = (s : r.State) (phase : Phase) (k : Knowledge) → Stands r s k phase → Keeps r s (rest phase k)

-- ---- before the startup's end

tells_startup : (r : Rules) → AreFit r → (s : r.State) (session : ℕ) (rest : Script) (known : Knowledge) → r.Resting s known → Keeps r s rest →
    Keeps r s (told.tells_startup session rest)
tells_startup r fit s session rest known resting keeps =
    short_keeps r s true _ _ (closing_keeps r fit s ends.Memory known resting)
    (tell_keeps r s (startup_reply session) (told.broken owes.Close) rest (broken_keeps r fit s owes.Close known resting) keeps)

opens : (r : Rules) → AreFit r → (s : r.State) (rest : Script) (known : Knowledge) → r.Fresh s known → ((t : r.State) → r.Resting t known → Keeps r t rest) →
    Keeps r s (told.opens rest)
opens r fit s rest known fresh keeps =
    let asks = fit.opens s known fresh in
    ask_keeps r s calls.Open _ asks.0
    (opened_keeps r s calls.Open _ _
    (λ session. tells_startup r fit (r.next s calls.Open (answers.Opened session)) session rest known (asks.1 session)
    (keeps (r.next s calls.Open (answers.Opened session)) (asks.1 session)))
    (λ why. closed_keeps r (r.next s calls.Open (answers.Refused why)) (refusal_end why)))

starting : (r : Rules) → AreFit r → (asked : Request) (s : r.State) (known : Knowledge) (rest : Phase → Knowledge → Script) → GoesOn r rest → r.Fresh s known →
    Keeps r s (told.starting asked known rest)
starting r fit encryption s known rest on fresh =
    tell_keeps r s no_encryption (told.broken owes.Nothing) (rest phases.Startup known) (closed_keeps r s ends.WriteFault) (on s phases.Startup known fresh)
starting r fit cancel s known rest on fresh = closed_keeps r s ends.Cancelled
starting r fit start s known rest on fresh =
    opens r fit s (rest (phases.Normal block_states.Idle) known) known fresh (λ t resting. on t (phases.Normal block_states.Idle) known resting)
starting r fit userless s known rest on fresh = closed_keeps r s (ends.Refused states.S28000)
starting r fit version s known rest on fresh = closed_keeps r s (ends.Refused states.S0A000)
starting r fit _ s known rest on fresh = lost_keeps r s

-- ---- after the startup

encloses : (r : Rules) → AreFit r → (rest : Phase → Knowledge → Script) → GoesOn r rest → Encloses r (outside_of rest)
encloses r fit rest on = record {
  next = λ s state k resting. on s (phases.Normal state) k resting;
  broken = λ s owed k resting. broken_keeps r fit s owed k resting;
}

refuses : (r : Rules) → AreFit r → (s : r.State) (state : TransactionState) (known : Knowledge) (rest : Phase → Knowledge → Script) → GoesOn r rest → r.Resting s known →
    Keeps r s (told.refuses state known rest)
refuses r fit s state known rest on resting =
    fails r _
    (record {
      succeeded = λ t block k is. lost_keeps r t;
      failed = λ t after k is. on t (phases.Discarding after) k is;
      broken = λ t owed k is. broken_keeps r fit t owed k is;
    })
    s states.S0A000 (block_at state) known (may_fail r fit s known (block_at state) resting)

serving : (r : Rules) → AreFit r → (asked : Request) (s : r.State) (state : TransactionState) (known : Knowledge) (rest : Phase → Knowledge → Script) →
    GoesOn r rest → r.Resting s known → Keeps r s (told.serving asked state known rest)
serving r fit (query asked) s state known rest on resting = message r fit (outside_of rest) (encloses r fit rest on) asked s state known resting
serving r fit unread_query s state known rest on resting =
    short_keeps r s false _ _ (message r fit (outside_of rest) (encloses r fit rest on) (messages.Unread states.S53200) s state known resting) (lost_keeps r s)
serving r fit terminate s state known rest on resting = ending_keeps r fit s (owed_between state) ends.Terminated known resting
serving r fit sync s state known rest on resting = readied r (outside_of rest) (encloses r fit rest on) s state known resting
serving r fit nothing s state known rest on resting = on s (phases.Normal state) known resting
serving r fit extended s state known rest on resting = refuses r fit s state known rest on resting
serving r fit function s state known rest on resting =
    message r fit (outside_of rest) (encloses r fit rest on) (messages.Unread states.S0A000) s state known resting
serving r fit _ s state known rest on resting = lost_keeps r s

discarding : (r : Rules) → AreFit r → (asked : Request) (s : r.State) (state : TransactionState) (known : Knowledge) (rest : Phase → Knowledge → Script) →
    GoesOn r rest → r.Resting s known → Keeps r s (told.discarding asked state known rest)
discarding r fit terminate s state known rest on resting = ending_keeps r fit s (owed_between state) ends.Terminated known resting
discarding r fit sync s state known rest on resting = readied r (outside_of rest) (encloses r fit rest on) s state known resting
discarding r fit _ s state known rest on resting = on s (phases.Discarding state) known resting

handled : (r : Rules) → AreFit r → (asked : Request) (s : r.State) (phase : Phase) (known : Knowledge) (rest : Phase → Knowledge → Script) → GoesOn r rest →
    Stands r s known phase → Keeps r s (told.handled asked phase known rest)
handled r fit asked s phases.Startup known rest on stands = starting r fit asked s known rest on stands
handled r fit asked s (phases.Normal state) known rest on stands = serving r fit asked s state known rest on stands
handled r fit asked s (phases.Discarding state) known rest on stands = discarding r fit asked s state known rest on stands

-- ---- the whole stream

waits : (r : Rules) → AreFit r → (s : r.State) (phase : Phase) (held : ℕ) (known : Knowledge) → Stands r s known phase → (said : Said) (entries : List Entry) →
    Asked r s said.calls (told.waiting phase held said entries).0.calls entries
waits r fit s phase held known stands said [] = none_asked r s said.calls []
waits r fit s phase held known stands said (stop cause ∷ entries) =
    past_stop r s said.calls (told.ending (owed_by phase) (stop_end cause held) said entries).0.calls cause entries
    ((ends_keeps r fit s phase (stop_end cause held) known stands).asks said entries)
waits r fit s phase held known stands said (did a e ∷ entries) = none_asked r s said.calls (did a e ∷ entries)
waits r fit s phase held known stands said (refused why ∷ entries) = none_asked r s said.calls (refused why ∷ entries)
waits r fit s phase held known stands said (short final n ∷ entries) = none_asked r s said.calls (short final n ∷ entries)
waits r fit s phase held known stands said (unsent n ∷ entries) = none_asked r s said.calls (unsent n ∷ entries)

waiting : (r : Rules) → AreFit r → (s : r.State) (phase : Phase) (held : ℕ) (known : Knowledge) → Stands r s known phase → Keeps r s (told.waiting phase held)
waiting r fit s phase held known stands = record { asks = waits r fit s phase held known stands }

unless_memory_ends : (r : Rules) → AreFit r → (s : r.State) (phase : Phase) (known : Knowledge) (rest : Script) → Stands r s known phase → Keeps r s rest →
    Keeps r s (told.unless_memory_ends phase rest)
unless_memory_ends r fit s phase known rest stands keeps =
    short_keeps r s true (told.ending (owed_by phase) ends.Memory) rest (ends_keeps r fit s phase ends.Memory known stands) keeps

pub session_keeps : (r : Rules) → AreFit r → (requests : Requests) (s : r.State) (phase : Phase) (known : Knowledge) → Stands r s known phase →
    Keeps r s (told.session phase known requests)
session_keeps r fit (asks asked requests) s phase known stands =
    unless_memory_ends r fit s phase known _ stands
    (handled r fit asked s phase known (λ p k. told.session p k requests) (λ t p k is. session_keeps r fit requests t p k is) stands)
session_keeps r fit (partial rest) s phase known stands =
    unless_memory_ends r fit s phase known _ stands (waiting r fit s phase (length rest) known stands)
session_keeps r fit (faulty fault) s phase known stands =
    unless_memory_ends r fit s phase known _ stands (ends_keeps r fit s phase (ends.Protocol fault) known stands)
session_keeps r fit unread s phase known stands = unless_memory_ends r fit s phase known _ stands (lost_keeps r s)
