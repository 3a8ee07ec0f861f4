-- A session has a transcript.
use Rattle.std.proofs.Common.{ℕ, true, false, List, [], ◌∷◌, ◌++◌, length, refl, sym, ap, subst, ◌∙◌}
use Rattle.cell_base.specs.declared.sql_state.SqlState.{SqlState}
use Rattle.cell_base.specs.declared.sql_state.SqlState.TheVariants as states
use Rattle.history_core.specs.declared.fault.BookFault.{BookFault}
use Rattle.pg_framing.specs.declared.replies.TransactionState.{TransactionState}
use Rattle.pg_framing.specs.declared.replies.TransactionState.TheVariants as block_states
use Rattle.sql_tree.specs.declared.statement.Statement.{Statement}
use Rattle.sql_tree.specs.declared.table.Table.{Table}
use Rattle.outcome_replies.specs.declared.description.RowDescription.TheVariants as described
use Rattle.block_machine.specs.Calls as calls
use Rattle.block_machine.specs.Knowledge.{Knowledge, at_start}
use Rattle.block_machine.specs.Replies.{ready_reply, empty_reply}
use Rattle.block_machine.specs.Script.{did, refused, short, unsent, stop, Said, Next, more, ended, astray, Script, lost, on_opened, tell}
use Rattle.block_machine.specs.Messages.{Outside, owed_between, readied, finished, finishes, statements, before, block_at, opens, message}
use Rattle.block_machine.specs.declared.block.Block.{Block}
use Rattle.block_machine.specs.declared.block.Block.TheVariants.{Implicit, Regular, Failed}
use Rattle.block_machine.specs.declared.block.Owed.{Owed}
use Rattle.block_machine.specs.declared.block.Owed.TheVariants as owes
use Rattle.block_machine.specs.declared.call.Answer.{Answer}
use Rattle.block_machine.specs.declared.call.Answer.TheVariants as answers
use Rattle.block_machine.specs.declared.end.End.{End}
use Rattle.block_machine.specs.declared.end.End.TheVariants as ends
use Rattle.block_machine.specs.declared.ending.ReadyForQuery.{ReadyForQuery}
use Rattle.block_machine.specs.declared.ending.ReadyForQuery.TheVariants as ready_told
use Rattle.block_machine.specs.declared.message.Message.{Message}
use Rattle.block_machine.specs.declared.message.Message.TheVariants as messages
use Rattle.session_core.specs.declared.phase.Phase.{Phase}
use Rattle.session_core.specs.declared.phase.Phase.TheVariants as phases
use Rattle.session_core.specs.Replies.{no_encryption, startup_reply, fatal_reply}
use Rattle.session_core.specs.Requests.{Request, encryption, cancel, start, userless, version, query, unread_query, terminate, sync, nothing as flushes, extended, function, Requests, asks as requests_ask, partial, faulty, unread}
use Rattle.session_core.specs.Told.{owed_by, done, fatal, closed, closing, ending, broken, refusal_end, starting, outside_of, refuses, serving, discarding, handled, stop_end, waiting, unless_memory_ends, session, told}
use Rattle.session_laws.specs.PictureLaws.{statements_in, statements_of, IsWhole, SessionHasTranscript}
use Rattle.session_laws.specs.Transcripts.{IsTranscript}
use Rattle.session_laws.proofs.Traces.{Traced, AroundTraced, nothing, meets_first, skips, lost_traced, ask_traced, tell_traced, unless_short_traced}
use Rattle.session_laws.proofs.Failing.{succeeds_traced, fails_traced}
use Rattle.session_laws.proofs.PicturedStatements.{told_of_traced}

-- ---- query messages

pub record OutsideTraced (asked : List Statement) (outside : Outside) : Type 0 where
  next : (state : TransactionState) (known : Knowledge) → Traced known.tables asked (outside.next state known)
  broken : (shown : List Table) (owed : Owed) → Traced shown asked (outside.broken owed)

readied_traced : (asked : List Statement) (state : TransactionState) (known : Knowledge) (outside : Outside) → OutsideTraced asked outside
    → Traced known.tables asked (readied state known outside)
readied_traced asked state known outside h =
    tell_traced known.tables asked (ready_reply state) (outside.broken (owed_between state)) (outside.next state known) (h.broken known.tables (owed_between state)) (h.next state known)

finished_traced : (asked : List Statement) (ready_for : ReadyForQuery) (state : TransactionState) (known : Knowledge) (outside : Outside) → OutsideTraced asked outside
    → Traced known.tables asked (finished ready_for state known outside)
finished_traced asked ready_told.Told state known outside h = readied_traced asked state known outside h
finished_traced asked ready_told.Omitted state known outside h = h.next state known

finishes_traced : (asked : List Statement) (ready_for : ReadyForQuery) (block : Block) (known : Knowledge) (outside : Outside) → OutsideTraced asked outside
    → Traced known.tables asked (finishes ready_for block known outside)
finishes_traced asked ready_for (Implicit false) known outside h = finished_traced asked ready_for block_states.Idle known outside h
finishes_traced asked ready_for (Implicit true) known outside h =
    ask_traced known.tables asked calls.Commit _ (λ a e. tt) (λ entry. refl) (λ a. finished_traced asked ready_for block_states.Idle known outside h)
finishes_traced asked ready_for Regular known outside h = finished_traced asked ready_for block_states.Block known outside h
finishes_traced asked ready_for Failed known outside h = finished_traced asked ready_for block_states.Failed known outside h

-- statements one after another
statements_traced : (asked : List Statement) (xs : List Statement) (block : Block) (known : Knowledge) (outside : Outside) → OutsideTraced asked outside
    → Traced known.tables (xs ++ asked) (statements xs block known outside)
statements_traced asked [] block known outside h = finishes_traced asked ready_told.Told block known outside h
statements_traced asked (s ∷ later) block known outside h =
    told_of_traced (later ++ asked) s described.Told refl block known _ (record {
      succeeded = λ b k. statements_traced asked later b k outside h;
      failed = λ state k. skips k.tables later asked (readied state k outside) (readied_traced asked state k outside h);
      broken = λ shown owed. skips shown later asked (outside.broken owed) (h.broken shown owed);
    })

before_traced : (asked : List Statement) (outside : Outside) → OutsideTraced asked outside → AroundTraced asked (before [] outside)
before_traced asked outside h = record {
  succeeded = λ b k. finishes_traced asked ready_told.Told b k outside h;
  failed = λ state k. readied_traced asked state k outside h;
  broken = h.broken;
}

unread_traced : (asked : List Statement) (code : SqlState) (state : TransactionState) (known : Knowledge) (outside : Outside) → OutsideTraced asked outside
    → Traced known.tables asked (message (messages.Unread code) state known outside)
unread_traced asked code state known outside h = fails_traced asked code (block_at state) known (before [] outside) (before_traced asked outside h)

opens_traced : (asked : List Statement) (xs : List Statement) (block : Block) (known : Knowledge) (outside : Outside) → OutsideTraced asked outside
    → Traced known.tables (xs ++ asked) (opens xs block known outside)
opens_traced asked [] block known outside h = succeeds_traced asked empty_reply block known (before [] outside) (before_traced asked outside h)
opens_traced asked (s ∷ later) block known outside h = statements_traced asked (s ∷ later) block known outside h

-- ---- ends

done_traced : (shown : List Table) (asked : List Statement) (end : End) → Traced shown asked (done end)
done_traced shown asked end said [] = nothing shown asked said (ended end) [] refl
done_traced shown asked end said (e ∷ entries) = nothing shown asked said astray (e ∷ entries) tt

fatal_traced : (shown : List Table) (asked : List Statement) (code : SqlState) (end : End) → Traced shown asked (fatal code end)
fatal_traced shown asked code end = tell_traced shown asked (fatal_reply code) (done ends.WriteFault) (done end) (done_traced shown asked ends.WriteFault) (done_traced shown asked end)

closed_traced : (shown : List Table) (asked : List Statement) (end : End) → Traced shown asked (closed end)
closed_traced shown asked (ends.Protocol fault) = fatal_traced shown asked states.S08P01 (ends.Protocol fault)
closed_traced shown asked (ends.Refused state) = fatal_traced shown asked state (ends.Refused state)
closed_traced shown asked ends.Spent = fatal_traced shown asked states.S54000 ends.Spent
closed_traced shown asked ends.Terminated = done_traced shown asked ends.Terminated
closed_traced shown asked ends.Closed = done_traced shown asked ends.Closed
closed_traced shown asked ends.Cut = done_traced shown asked ends.Cut
closed_traced shown asked ends.Cancelled = done_traced shown asked ends.Cancelled
closed_traced shown asked ends.ReadFault = done_traced shown asked ends.ReadFault
closed_traced shown asked ends.WriteFault = done_traced shown asked ends.WriteFault
closed_traced shown asked ends.Memory = done_traced shown asked ends.Memory

closing_traced : (shown : List Table) (asked : List Statement) (end : End) → Traced shown asked (closing end)
closing_traced shown asked end = ask_traced shown asked calls.Close _ (λ a e. tt) (λ entry. refl) (λ a. closed_traced shown asked end)

ending_traced : (shown : List Table) (asked : List Statement) (owed : Owed) (end : End) → Traced shown asked (ending owed end)
ending_traced shown asked owes.Nothing end = closed_traced shown asked end
ending_traced shown asked owes.Close end = closing_traced shown asked end
ending_traced shown asked owes.Rollback end = ask_traced shown asked calls.Rollback _ (λ a e. tt) (λ entry. refl) (λ a. closing_traced shown asked end)

broken_traced : (shown : List Table) (asked : List Statement) (owed : Owed) → Traced shown asked (broken owed)
broken_traced shown asked owed = ending_traced shown asked owed ends.WriteFault

-- ---- messages

-- what follows a message
abbrev Follows : List Statement → (Phase → Knowledge → Script) → Type 0
Follows asked rest = (phase : Phase) (known : Knowledge) → Traced known.tables asked (rest phase known)

opened_traced : (shown : List Table) (asked : List Statement) (a : Answer) (good : ℕ → Script) (bad : BookFault → Script)
    → ((n : ℕ) → Traced shown asked (good n)) → ((why : BookFault) → Traced shown asked (bad why)) → Traced shown asked (on_opened a good bad)
opened_traced shown asked (answers.Opened n) good bad g b = g n
opened_traced shown asked (answers.Refused why) good bad g b = b why
opened_traced shown asked _ good bad g b = lost_traced shown asked

starting_traced : (asked : List Statement) (r : Request) (known : Knowledge) (rest : Phase → Knowledge → Script) → Follows asked rest
    → Traced known.tables asked (starting r known rest)
starting_traced asked encryption known rest h =
    tell_traced known.tables asked no_encryption (broken owes.Nothing) (rest phases.Startup known) (broken_traced known.tables asked owes.Nothing) (h phases.Startup known)
starting_traced asked cancel known rest h = closed_traced known.tables asked ends.Cancelled
starting_traced asked start known rest h =
    let follows = rest (phases.Normal block_states.Idle) known in
    ask_traced known.tables asked calls.Open _ (λ a e. tt) (λ entry. refl) (λ a. opened_traced known.tables asked a _ _
    (λ number. unless_short_traced known.tables asked true (closing ends.Memory) (tell (startup_reply number) (broken owes.Close) follows) (closing_traced known.tables asked ends.Memory)
    (tell_traced known.tables asked (startup_reply number) (broken owes.Close) follows (broken_traced known.tables asked owes.Close) (h (phases.Normal block_states.Idle) known)))
    (λ why. closed_traced known.tables asked (refusal_end why)))
starting_traced asked userless known rest h = closed_traced known.tables asked (ends.Refused states.S28000)
starting_traced asked version known rest h = closed_traced known.tables asked (ends.Refused states.S0A000)
starting_traced asked _ known rest h = lost_traced known.tables asked

outside_traced : (asked : List Statement) (rest : Phase → Knowledge → Script) → Follows asked rest → OutsideTraced asked (outside_of rest)
outside_traced asked rest h = record { next = λ state known. h (phases.Normal state) known; broken = λ shown. broken_traced shown asked }

refuses_traced : (asked : List Statement) (state : TransactionState) (known : Knowledge) (rest : Phase → Knowledge → Script) → Follows asked rest
    → Traced known.tables asked (refuses state known rest)
refuses_traced asked state known rest h =
    fails_traced asked states.S0A000 (block_at state) known _ (record {
      succeeded = λ block k. lost_traced k.tables asked;
      failed = λ after k. h (phases.Discarding after) k;
      broken = λ shown. broken_traced shown asked;
    })

query_traced : (asked : List Statement) (m : Message) (state : TransactionState) (known : Knowledge) (rest : Phase → Knowledge → Script) → Follows asked rest
    → Traced known.tables (statements_in (query m) ++ asked) (message m state known (outside_of rest))
query_traced asked (messages.Unread code) state known rest h = unread_traced asked code state known (outside_of rest) (outside_traced asked rest h)
query_traced asked (messages.Statements xs) state known rest h =
    opens_traced asked xs (block_at state) known (outside_of rest) (outside_traced asked rest h)

serving_traced : (asked : List Statement) (r : Request) (state : TransactionState) (known : Knowledge) (rest : Phase → Knowledge → Script) → Follows asked rest
    → Traced known.tables (statements_in r ++ asked) (serving r state known rest)
serving_traced asked (query m) state known rest h = query_traced asked m state known rest h
serving_traced asked unread_query state known rest h =
    unless_short_traced known.tables asked false (message (messages.Unread states.S53200) state known (outside_of rest)) lost
    (unread_traced asked states.S53200 state known (outside_of rest) (outside_traced asked rest h)) (lost_traced known.tables asked)
serving_traced asked terminate state known rest h = ending_traced known.tables asked (owed_between state) ends.Terminated
serving_traced asked sync state known rest h = readied_traced asked state known (outside_of rest) (outside_traced asked rest h)
serving_traced asked flushes state known rest h = h (phases.Normal state) known
serving_traced asked extended state known rest h = refuses_traced asked state known rest h
serving_traced asked function state known rest h = unread_traced asked states.S0A000 state known (outside_of rest) (outside_traced asked rest h)
serving_traced asked _ state known rest h = lost_traced known.tables asked

discarding_traced : (asked : List Statement) (r : Request) (state : TransactionState) (known : Knowledge) (rest : Phase → Knowledge → Script) → Follows asked rest
    → Traced known.tables asked (discarding r state known rest)
discarding_traced asked terminate state known rest h = ending_traced known.tables asked (owed_between state) ends.Terminated
discarding_traced asked sync state known rest h = readied_traced asked state known (outside_of rest) (outside_traced asked rest h)
discarding_traced asked _ state known rest h = h (phases.Discarding state) known

handled_traced : (asked : List Statement) (r : Request) (phase : Phase) (known : Knowledge) (rest : Phase → Knowledge → Script) → Follows asked rest
    → Traced known.tables (statements_in r ++ asked) (handled r phase known rest)
handled_traced asked r phases.Startup known rest h = skips known.tables (statements_in r) asked (starting r known rest) (starting_traced asked r known rest h)
handled_traced asked r (phases.Normal state) known rest h = serving_traced asked r state known rest h
handled_traced asked r (phases.Discarding state) known rest h =
    skips known.tables (statements_in r) asked (discarding r state known rest) (discarding_traced asked r state known rest h)

-- ---- the session

memory_traced : (shown : List Table) (asked : List Statement) (phase : Phase) (rest : Script) → Traced shown asked rest → Traced shown asked (unless_memory_ends phase rest)
memory_traced shown asked phase rest h =
    unless_short_traced shown asked true (ending (owed_by phase) ends.Memory) rest (ending_traced shown asked (owed_by phase) ends.Memory) h

waiting_traced : (shown : List Table) (asked : List Statement) (phase : Phase) (held : ℕ) → Traced shown asked (waiting phase held)
waiting_traced shown asked phase held said [] = nothing shown asked said more [] refl
waiting_traced shown asked phase held said (stop cause ∷ entries) =
    meets_first shown asked said (stop cause) entries (ending (owed_by phase) (stop_end cause held) said entries) tt
    (ending_traced shown asked (owed_by phase) (stop_end cause held) said entries)
waiting_traced shown asked phase held said (did a e ∷ entries) = nothing shown asked said astray (did a e ∷ entries) tt
waiting_traced shown asked phase held said (refused why ∷ entries) = nothing shown asked said astray (refused why ∷ entries) tt
waiting_traced shown asked phase held said (short final n ∷ entries) = nothing shown asked said astray (short final n ∷ entries) tt
waiting_traced shown asked phase held said (unsent n ∷ entries) = nothing shown asked said astray (unsent n ∷ entries) tt

session_traced : (phase : Phase) (known : Knowledge) (requests : Requests) → Traced known.tables (statements_of requests) (session phase known requests)
session_traced phase known (requests_ask r requests) =
    memory_traced known.tables (statements_in r ++ statements_of requests) phase (handled r phase known (λ p k. session p k requests))
    (handled_traced (statements_of requests) r phase known (λ p k. session p k requests) (λ p k. session_traced p k requests))
session_traced phase known (partial rest) = memory_traced known.tables [] phase (waiting phase (length rest)) (waiting_traced known.tables [] phase (length rest))
session_traced phase known (faulty fault) =
    memory_traced known.tables [] phase (ending (owed_by phase) (ends.Protocol fault)) (ending_traced known.tables [] (owed_by phase) (ends.Protocol fault))
session_traced phase known unread = memory_traced known.tables [] phase lost (lost_traced known.tables [])

pub session_transcript : SessionHasTranscript
unfolding told
session_transcript level requests entries said next is =
    let t = session_traced phases.Startup (at_start level) requests (record { bytes = []; calls = [] }) entries in record {
      acts = t.acts;
      rest = t.rest;
      entries_are = t.entries_are;
      bytes_are = ap (λ (r : Said × Next). r.0.bytes) (sym is) ∙ t.bytes_are;
      calls_are = ap (λ (r : Said × Next). r.0.calls) (sym is) ∙ t.calls_are;
      whole = subst (λ (r : Said × Next). IsWhole r.1 t.rest) is t.whole;
      is = subst (λ (r : Said × Next). IsTranscript [] (statements_of requests) t.acts r.1) is t.is;
    }
