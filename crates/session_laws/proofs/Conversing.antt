-- What is done in a session that ends as its client said, message by message.
use Rattle.std.proofs.Common.{◌≡◌, Bool, true, false, cond, ℕ, suc, List, [], ◌∷◌, ◌++◌, length, refl, sym, ◌∙◌, ap, subst, append_assoc, arith, ◌==◌}
use Rattle.std.proofs.lemmas.Bool.{ne_eqb}
use Rattle.std.proofs.lemmas.List.{append-nil}
use Rattle.cell_base.specs.declared.sql_state.SqlState.{SqlState}
use Rattle.cell_base.specs.declared.sql_state.SqlState.TheVariants as states
use Rattle.pg_framing.specs.declared.replies.TransactionState.{TransactionState}
use Rattle.pg_framing.specs.declared.replies.TransactionState.TheVariants as ready
use Rattle.sql_tree.specs.declared.statement.Statement.{Statement}
use Rattle.block_machine.specs.Calls as calls
use Rattle.block_machine.specs.Knowledge.{Knowledge, at_start}
use Rattle.block_machine.specs.Replies.{ready_reply, error_reply, empty_reply}
use Rattle.block_machine.specs.Script.{Entry, did, refused, short, unsent, stop, Said, Next, ended, Script, lost, on_opened, tell}
use Rattle.block_machine.specs.Statements as statement
use Rattle.block_machine.specs.Messages as message
use Rattle.block_machine.specs.Messages.{Outside, owed_between, block_at, before}
use Rattle.block_machine.specs.declared.block.Block.{Block}
use Rattle.block_machine.specs.declared.block.Block.TheVariants.{Implicit, Regular, Failed}
use Rattle.block_machine.specs.declared.block.Owed.{Owed}
use Rattle.block_machine.specs.declared.block.Owed.TheVariants as owes
use Rattle.block_machine.specs.declared.end.End.{End}
use Rattle.block_machine.specs.declared.end.End.TheVariants as ends
use Rattle.block_machine.specs.declared.end.Stop.{Stop}
use Rattle.block_machine.specs.declared.end.Stop.TheVariants as stops
use Rattle.block_machine.specs.declared.message.Message.{Message}
use Rattle.block_machine.specs.declared.message.Message.TheVariants as messages
use Rattle.history_core.specs.declared.fault.BookFault.{BookFault}
use Rattle.history_core.specs.declared.fault.BookFault.TheVariants as faults
use Rattle.session_core.specs.declared.phase.Phase.{Phase}
use Rattle.session_core.specs.declared.phase.Phase.TheVariants as phases
use Rattle.session_core.specs.Requests.{Request, encryption, cancel, start, userless, version, query, unread_query, terminate, sync, nothing, extended, function, Requests, asks, partial, faulty, unread}
use Rattle.session_core.specs.Replies.{no_encryption, startup_reply, fatal_reply}
use Rattle.session_core.specs.Told as told
use Rattle.session_core.specs.Told.{outside_of, owed_by, stop_end, refusal_end, told as told_is}
use Rattle.session_laws.proofs.EndScripts.{Is, EndsIn, Holds, IsFit, ask_ends, tell_ends}
use Rattle.session_laws.proofs.SessionsEnd.{broken_ends, write_ends}
use Rattle.session_laws.specs.Acts.{Act, tells, meets, entries_of, bytes_of, calls_of}
use Rattle.session_laws.specs.Acts as acts
use Rattle.session_laws.specs.Replies.{IsReply, GivesCode}
use Rattle.session_laws.specs.Conversations.{Finishes, RollsBack, AreAnswered, none, replied, refused as is_refused, IsRefused, IsAnswer, Tells, Answers, Closes, Converses, IsClientsEnd, MessagesAreAnswered}
use Rattle.session_laws.proofs.Telling.{IsOver, Does, Told, On, Otherwise, told_more, lost_told, otherwise_told, ask_told, tell_told, short_told, final_told, opened_told}
use Rattle.session_laws.proofs.Answering.{answers_so}

tell_first : (first : List ℕ) (Rest : List Act → Type 0) (fault rest : Script) → EndsIn (Is ends.WriteFault) fault → Told Rest rest → Told (Tells first Rest) (tell first fault rest)
tell_first first Rest fault rest bad h = tell_told (Tells first Rest) Rest first fault rest bad (λ more it. (more, refl, it)) h

-- ---- ends

-- no more is done
abbrev IsNothing : List Act → Type 0
IsNothing done = done ≡ []

done_told : (end : End) → Told IsNothing (told.done end)
done_told end = record { at = go }
  where
    go : (said : Said) (entries : List Entry) (all : Said) (found : End) → told.done end said entries ≡ (all, ended found) → IsClientsEnd found →
        Does IsNothing said entries all
    go said [] all found is good = record {
      acts = [];
      entries_are = refl;
      bytes_are = ap (λ (x : Said × Next). x.0.bytes) (sym is) ∙ sym (append-nil said.bytes);
      calls_are = ap (λ (x : Said × Next). x.0.calls) (sym is) ∙ sym (append-nil said.calls);
      holds = refl;
    }
    go said (e ∷ entries) all found is good = absurd (subst (λ (x : Said × Next). IsOver x.1) (sym is) tt)

-- an end that the client has no part in
done_otherwise : (end : End) → (IsClientsEnd end → ⊥) → (said : Said) (entries : List Entry) → Holds Otherwise entries (told.done end said entries).1
done_otherwise end other said [] = other
done_otherwise end other said (e ∷ entries) = tt

fit : IsFit Otherwise
fit = record { lifts = λ e end entries h. h; unsent_is = λ n entries good. good }

fatal_otherwise : (state : SqlState) (end : End) → (IsClientsEnd end → ⊥) → EndsIn Otherwise (told.fatal state end)
fatal_otherwise state end other =
    tell_ends Otherwise fit (fatal_reply state) (told.done ends.WriteFault) (told.done end) write_ends (record { at = done_otherwise end other })

closed_otherwise : (end : End) → (IsClientsEnd end → ⊥) → EndsIn Otherwise (told.closed end)
closed_otherwise (ends.Protocol fault) other = fatal_otherwise states.S08P01 (ends.Protocol fault) other
closed_otherwise (ends.Refused state) other = fatal_otherwise state (ends.Refused state) other
closed_otherwise ends.Spent other = fatal_otherwise states.S54000 ends.Spent other
closed_otherwise ends.Terminated other = record { at = done_otherwise ends.Terminated other }
closed_otherwise ends.Closed other = record { at = done_otherwise ends.Closed other }
closed_otherwise ends.Cut other = record { at = done_otherwise ends.Cut other }
closed_otherwise ends.Cancelled other = record { at = done_otherwise ends.Cancelled other }
closed_otherwise ends.ReadFault other = record { at = done_otherwise ends.ReadFault other }
closed_otherwise ends.WriteFault other = record { at = done_otherwise ends.WriteFault other }
closed_otherwise ends.Memory other = record { at = done_otherwise ends.Memory other }

closing_otherwise : (end : End) → (IsClientsEnd end → ⊥) → EndsIn Otherwise (told.closing end)
closing_otherwise end other = ask_ends Otherwise fit calls.Close (λ _. told.closed end) (λ a. closed_otherwise end other)

ending_otherwise : (owed : Owed) (end : End) → (IsClientsEnd end → ⊥) → EndsIn Otherwise (told.ending owed end)
ending_otherwise owes.Nothing end other = closed_otherwise end other
ending_otherwise owes.Close end other = closing_otherwise end other
ending_otherwise owes.Rollback end other = ask_ends Otherwise fit calls.Rollback (λ _. told.closing end) (λ a. closing_otherwise end other)

closed_told : (end : End) → Told IsNothing (told.closed end)
closed_told (ends.Protocol fault) = otherwise_told IsNothing (told.closed (ends.Protocol fault)) (closed_otherwise (ends.Protocol fault) (λ good. good))
closed_told (ends.Refused state) = otherwise_told IsNothing (told.closed (ends.Refused state)) (closed_otherwise (ends.Refused state) (λ good. good))
closed_told ends.Spent = otherwise_told IsNothing (told.closed ends.Spent) (closed_otherwise ends.Spent (λ good. good))
closed_told ends.Terminated = done_told ends.Terminated
closed_told ends.Closed = done_told ends.Closed
closed_told ends.Cut = done_told ends.Cut
closed_told ends.Cancelled = done_told ends.Cancelled
closed_told ends.ReadFault = done_told ends.ReadFault
closed_told ends.WriteFault = done_told ends.WriteFault
closed_told ends.Memory = done_told ends.Memory

closing_told : (end : End) → Told (Closes owes.Close) (told.closing end)
closing_told end =
    ask_told (Closes owes.Close) [] calls.Close (λ _. told.closed end)
    (λ entry a gives. told_more IsNothing (On (Closes owes.Close) (acts.asks calls.Close entry ∷ [])) (λ done is. (entry, (a, gives), ap (λ (x : List Act). acts.asks calls.Close entry ∷ x) is))
    (told.closed end) (closed_told end))

ending_told : (owed : Owed) (end : End) → Told (Closes owed) (told.ending owed end)
ending_told owes.Nothing end = closed_told end
ending_told owes.Close end = closing_told end
ending_told owes.Rollback end =
    ask_told (Closes owes.Rollback) [] calls.Rollback (λ _. told.closing end)
    (λ first a gives. told_more (Closes owes.Close) (On (Closes owes.Rollback) (acts.asks calls.Rollback first ∷ []))
    (λ done is. (first, is.0, (a, gives), is.1, ap (λ (x : List Act). acts.asks calls.Rollback first ∷ x) is.2)) (told.closing end) (closing_told end))

-- ---- a query message

-- what stands outside a message does so, by the state that it tells and what the session then knows
record StandsOutside (outside : Outside) (R : TransactionState → Knowledge → List Act → Type 0) : Type 0 where
  next : (state : TransactionState) (known : Knowledge) → Told (R state known) (outside.next state known)
  broken : (owed : Owed) → EndsIn (Is ends.WriteFault) (outside.broken owed)

readied : (outside : Outside) (R : TransactionState → Knowledge → List Act → Type 0) → StandsOutside outside R → (state : TransactionState) (known : Knowledge) →
    Told (Tells (ready_reply state) (R state known)) (message.readied state known outside)
readied outside R h state known =
    tell_first (ready_reply state) (R state known) (outside.broken (owed_between state)) (outside.next state known) (h.broken (owed_between state)) (h.next state known)

-- the end of a message, and what follows it
abbrev IsEnd : Block → Knowledge → (TransactionState → Knowledge → List Act → Type 0) → List Act → Type 0
IsEnd block known R done =
    (last : List Act) × (state : TransactionState) × (later : List Act) × Finishes block last state × (done ≡ last ++ later) × Tells (ready_reply state) (R state known) later

finishes : (outside : Outside) (R : TransactionState → Knowledge → List Act → Type 0) → StandsOutside outside R → (block : Block) (known : Knowledge) →
    Told (IsEnd block known R) (message.ends block known outside)
finishes outside R h (Implicit false) known =
    told_more (Tells (ready_reply ready.Idle) (R ready.Idle known)) (IsEnd (Implicit false) known R) (λ done it. ([], ready.Idle, done, (refl, refl), refl, it))
    (message.readied ready.Idle known outside) (readied outside R h ready.Idle known)
finishes outside R h (Implicit true) known =
    ask_told (IsEnd (Implicit true) known R) [] calls.Commit (λ _. message.readied ready.Idle known outside)
    (λ entry a gives. told_more (Tells (ready_reply ready.Idle) (R ready.Idle known)) (On (IsEnd (Implicit true) known R) (acts.asks calls.Commit entry ∷ []))
    (λ done it. (acts.asks calls.Commit entry ∷ [], ready.Idle, done, (entry, (a, gives), refl, refl), refl, it))
    (message.readied ready.Idle known outside) (readied outside R h ready.Idle known))
finishes outside R h Regular known =
    told_more (Tells (ready_reply ready.Block) (R ready.Block known)) (IsEnd Regular known R) (λ done it. ([], ready.Block, done, (refl, refl), refl, it))
    (message.readied ready.Block known outside) (readied outside R h ready.Block known)
finishes outside R h Failed known =
    told_more (Tells (ready_reply ready.Failed) (R ready.Failed known)) (IsEnd Failed known R) (λ done it. ([], ready.Failed, done, (refl, refl), refl, it))
    (message.readied ready.Failed known outside) (readied outside R h ready.Failed known)

-- a rollback where a transaction is pending, a code, and what follows by the state after it
abbrev IsTrouble : Block → SqlState → (TransactionState → List Act → Type 0) → List Act → Type 0
IsTrouble block code Rest done = (first : List Act) × (later : List Act) × (state : TransactionState) × IsRefused block code first state × (done ≡ first ++ later) × Rest state later

refuses_with : (block : Block) (code : SqlState) (Rest : TransactionState → List Act → Type 0) (around : statement.Around) →
    ((owed : Owed) → EndsIn (Is ends.WriteFault) (around.broken owed)) → (known : Knowledge) → ((state : TransactionState) → Told (Rest state) (around.failed state known)) →
    (undone : List Act) (state : TransactionState) → RollsBack block undone state → Told (On (IsTrouble block code Rest) undone) (statement.refused_with code state known around)
refuses_with block code Rest around broken known h undone state rolls =
    tell_told (On (IsTrouble block code Rest) undone) (Rest state) (error_reply code) (around.broken owes.Close) (around.failed state known) (broken owes.Close)
    (λ more it. (undone ++ tells (error_reply code) ∷ [], more, state, (undone, rolls, refl), sym (append_assoc undone (tells (error_reply code) ∷ []) more), it)) (h state)

fails : (block : Block) (code : SqlState) (Rest : TransactionState → List Act → Type 0) (around : statement.Around) →
    ((owed : Owed) → EndsIn (Is ends.WriteFault) (around.broken owed)) → (known : Knowledge) → ((state : TransactionState) → Told (Rest state) (around.failed state known)) →
    Told (IsTrouble block code Rest) (statement.fails code block known around)
fails (Implicit false) code Rest around broken known h = refuses_with (Implicit false) code Rest around broken known h [] ready.Idle (refl, refl)
fails (Implicit true) code Rest around broken known h =
    ask_told (IsTrouble (Implicit true) code Rest) [] calls.Rollback (λ _. statement.refused_with code ready.Idle known around)
    (λ entry a gives. refuses_with (Implicit true) code Rest around broken known h (acts.asks calls.Rollback entry ∷ []) ready.Idle (entry, (a, gives), refl, refl))
fails Regular code Rest around broken known h =
    ask_told (IsTrouble Regular code Rest) [] calls.Rollback (λ _. statement.refused_with code ready.Failed known around)
    (λ entry a gives. refuses_with Regular code Rest around broken known h (acts.asks calls.Rollback entry ∷ []) ready.Failed (entry, (a, gives), refl, refl))
fails Failed code Rest around broken known h = refuses_with Failed code Rest around broken known h [] ready.Failed (refl, refl)

-- what is done of these statements, and then of the end of the message and of what follows it
abbrev IsDoneOf : Knowledge → Block → List Statement → (TransactionState → Knowledge → List Act → Type 0) → List Act → Type 0
IsDoneOf known block xs R done =
    (answer : List Act) × (later : List Act) × (state : TransactionState) × (knows : Knowledge) × AreAnswered known block xs answer state knows
    × (done ≡ answer ++ tells (ready_reply state) ∷ later) × R state knows later

ended_so : (known : Knowledge) (block : Block) (R : TransactionState → Knowledge → List Act → Type 0) (done : List Act) → IsEnd block known R done →
    IsDoneOf known block [] R done
ended_so known block R done (last, state, later, finishes, whole, (more, is, rest)) =
    (last, more, state, known, none known block last state finishes, whole ∙ ap (λ (x : List Act). last ++ x) is, rest)

one_more : (known knows : Knowledge) (block after : Block) (s : Statement) (later : List Statement) (R : TransactionState → Knowledge → List Act → Type 0) (done : List Act)
    (reply : List ℕ) → IsReply known block s done reply after knows → (more : List Act) → IsDoneOf knows after later R more →
    IsDoneOf known block (s ∷ later) R (done ++ tells reply ∷ more)
one_more known knows block after s later R done reply is more (answer, rest, state, at_end, answered, whole, goes) = (
  done ++ tells reply ∷ answer,
  rest,
  state,
  at_end,
  replied known knows at_end block after s later done answer reply state is answered,
  ap (λ (x : List Act). done ++ tells reply ∷ x) whole ∙ sym (append_assoc done (tells reply ∷ answer) (tells (ready_reply state) ∷ rest)),
  goes,
)

one_refused : (known knows : Knowledge) (block after : Block) (s : Statement) (later : List Statement) (R : TransactionState → Knowledge → List Act → Type 0) (done : List Act)
    (code : SqlState) → GivesCode known block s done code after knows → (more : List Act) →
    IsTrouble after code (λ state. Tells (ready_reply state) (R state knows)) more → IsDoneOf known block (s ∷ later) R (done ++ more)
one_refused known knows block after s later R done code is more (first, rest, state, (undone, rolls, first_is), whole, (last, rest_is, goes)) = (
  done ++ (undone ++ tells (error_reply code) ∷ []),
  last,
  state,
  knows,
  is_refused known knows block after s later done undone code state is rolls,
  ap (λ (x : List Act). done ++ x) (whole ∙ ap (λ (x : List Act). x ++ rest) first_is ∙ ap (λ (x : List Act). (undone ++ tells (error_reply code) ∷ []) ++ x) rest_is)
      ∙ sym (append_assoc done (undone ++ tells (error_reply code) ∷ []) (tells (ready_reply state) ∷ last)),
  goes,
)

statements : (outside : Outside) (R : TransactionState → Knowledge → List Act → Type 0) → StandsOutside outside R → (xs : List Statement) (block : Block) (known : Knowledge) →
    Told (IsDoneOf known block xs R) (message.statements xs block known outside)
statements outside R h [] block known =
    told_more (IsEnd block known R) (IsDoneOf known block [] R) (ended_so known block R) (message.ends block known outside) (finishes outside R h block known)
statements outside R h (s ∷ more) block known =
    answers_so (before more outside) (IsDoneOf known block (s ∷ more) R) known block s (record {
      well = λ done reply after knows is.
          tell_told (On (IsDoneOf known block (s ∷ more) R) done) (IsDoneOf knows after more R) reply (outside.broken (statement.owed_in after))
          (message.statements more after knows outside) (h.broken (statement.owed_in after))
          (one_more known knows block after s more R done reply is) (statements outside R h more after knows);
      coded = λ done code after knows is.
          told_more (IsTrouble after code (λ state. Tells (ready_reply state) (R state knows))) (On (IsDoneOf known block (s ∷ more) R) done)
          (one_refused known knows block after s more R done code is) (statement.fails code after knows (before more outside))
          (fails after code (λ state. Tells (ready_reply state) (R state knows)) (before more outside) h.broken knows (λ state. readied outside R h state knows));
    })

-- a message that isn't read
refuses_message : (outside : Outside) (R : TransactionState → Knowledge → List Act → Type 0) → StandsOutside outside R → (code : SqlState) (block : Block) (known : Knowledge) →
    Told (Answers known block (messages.Unread code) R) (statement.fails code block known (before [] outside))
refuses_message outside R h code block known =
    told_more (IsTrouble block code (λ state. Tells (ready_reply state) (R state known))) (Answers known block (messages.Unread code) R) told_so
    (statement.fails code block known (before [] outside))
    (fails block code (λ state. Tells (ready_reply state) (R state known)) (before [] outside) h.broken known (λ state. readied outside R h state known))
  where
    told_so : (done : List Act) → IsTrouble block code (λ state. Tells (ready_reply state) (R state known)) done → Answers known block (messages.Unread code) R done
    told_so done (first, rest, state, is, whole, (last, rest_is, goes)) =
        (first, last, state, known, (is, refl), whole ∙ ap (λ (x : List Act). first ++ x) rest_is, goes)

empty_so : (known : Knowledge) (block : Block) (R : TransactionState → Knowledge → List Act → Type 0) (done : List Act) → IsEnd block known R done →
    Answers known block (messages.Statements []) R (tells empty_reply ∷ done)
empty_so known block R done (last, state, later, finishes, whole, (more, is, rest)) = (
  tells empty_reply ∷ last,
  more,
  state,
  known,
  (last, finishes, refl, refl),
  ap (λ (x : List Act). tells empty_reply ∷ x) (whole ∙ ap (λ (x : List Act). last ++ x) is),
  rest,
)

answers_message : (outside : Outside) (R : TransactionState → Knowledge → List Act → Type 0) → StandsOutside outside R → (asked : Message) (state : TransactionState) (known : Knowledge) →
    Told (Answers known (block_at state) asked R) (message.message asked state known outside)
answers_message outside R h (messages.Unread code) state known = refuses_message outside R h code (block_at state) known
answers_message outside R h (messages.Statements []) state known =
    tell_told (Answers known (block_at state) (messages.Statements []) R) (IsEnd (block_at state) known R) empty_reply (outside.broken (statement.owed_in (block_at state)))
    (message.statements [] (block_at state) known outside) (h.broken (statement.owed_in (block_at state))) (empty_so known (block_at state) R)
    (finishes outside R h (block_at state) known)
answers_message outside R h (messages.Statements (s ∷ more)) state known = statements outside R h (s ∷ more) (block_at state) known

-- ---- after the startup

-- where a session goes on after a message
abbrev Onward : Requests → TransactionState → Knowledge → List Act → Type 0
Onward requests state known = Converses (phases.Normal state) known requests

-- what follows a message converses so
record Goes (requests : Requests) (rest : Phase → Knowledge → Script) : Type 0 where
  normal : (state : TransactionState) (known : Knowledge) → Told (Converses (phases.Normal state) known requests) (rest (phases.Normal state) known)
  skipping : (state : TransactionState) (known : Knowledge) → Told (Converses (phases.Discarding state) known requests) (rest (phases.Discarding state) known)

outside_stands : (requests : Requests) (rest : Phase → Knowledge → Script) → Goes requests rest → StandsOutside (outside_of rest) (Onward requests)
outside_stands requests rest h = record { next = h.normal; broken = broken_ends }

-- what follows a message of the extended query that failed
abbrev around_extended : (rest : Phase → Knowledge → Script) → statement.Around
around_extended rest = record { succeeded = λ block k. lost; failed = λ after k. rest (phases.Discarding after) k; broken = told.broken }

serves : (asked : Request) (requests : Requests) (rest : Phase → Knowledge → Script) → Goes requests rest → (state : TransactionState) (known : Knowledge) →
    Told (Converses (phases.Normal state) known (asks asked requests)) (told.serving asked state known rest)
serves (query asked) requests rest h state known = answers_message (outside_of rest) (Onward requests) (outside_stands requests rest h) asked state known
serves unread_query requests rest h state known =
    let R : List Act → Type 0 = Converses (phases.Normal state) known (asks unread_query requests) in
    short_told R [] (message.message (messages.Unread states.S53200) state known (outside_of rest)) lost
    (λ n. told_more (Answers known (block_at state) (messages.Unread states.S53200) (Onward requests)) (On R (meets (short false n) ∷ [])) (λ done it. (n, done, refl, it))
    (message.message (messages.Unread states.S53200) state known (outside_of rest))
    (refuses_message (outside_of rest) (Onward requests) (outside_stands requests rest h) states.S53200 (block_at state) known)) (lost_told R)
serves terminate requests rest h state known = ending_told (owed_between state) ends.Terminated
serves sync requests rest h state known = readied (outside_of rest) (Onward requests) (outside_stands requests rest h) state known
serves nothing requests rest h state known = h.normal state known
serves extended requests rest h state known =
    fails (block_at state) states.S0A000 (λ after. Converses (phases.Discarding after) known requests) (around_extended rest) broken_ends known (λ after. h.skipping after known)
serves function requests rest h state known =
    refuses_message (outside_of rest) (Onward requests) (outside_stands requests rest h) states.S0A000 (block_at state) known
serves encryption requests rest h state known = lost_told (Converses (phases.Normal state) known (asks encryption requests))
serves cancel requests rest h state known = lost_told (Converses (phases.Normal state) known (asks cancel requests))
serves start requests rest h state known = lost_told (Converses (phases.Normal state) known (asks start requests))
serves userless requests rest h state known = lost_told (Converses (phases.Normal state) known (asks userless requests))
serves version requests rest h state known = lost_told (Converses (phases.Normal state) known (asks version requests))

discards : (asked : Request) (requests : Requests) (rest : Phase → Knowledge → Script) → Goes requests rest → (state : TransactionState) (known : Knowledge) →
    Told (Converses (phases.Discarding state) known (asks asked requests)) (told.discarding asked state known rest)
discards terminate requests rest h state known = ending_told (owed_between state) ends.Terminated
discards sync requests rest h state known = readied (outside_of rest) (Onward requests) (outside_stands requests rest h) state known
discards _ requests rest h state known = h.skipping state known

-- ---- the end of the input

-- the input ended, and then the session
abbrev IsStopped : Phase → List Act → Type 0
IsStopped phase done = (last : List Act) × (done ≡ meets (stop stops.EndOfInput) ∷ last) × Closes (owed_by phase) last

stops_so : (phase : Phase) (known : Knowledge) (done : List Act) → IsStopped phase done → Converses phase known (partial []) done
stops_so phases.Startup known done is = is
stops_so (phases.Normal state) known done is = is
stops_so (phases.Discarding state) known done is = is

stopped_at : (phase : Phase) (known : Knowledge) (said : Said) (entries : List Entry) (all : Said) → Does (Closes (owed_by phase)) said entries all →
    Does (Converses phase known (partial [])) said (stop stops.EndOfInput ∷ entries) all
stopped_at phase known said entries all t = record {
  acts = meets (stop stops.EndOfInput) ∷ t.acts;
  entries_are = ap (λ (x : List Entry). stop stops.EndOfInput ∷ x) t.entries_are;
  bytes_are = t.bytes_are;
  calls_are = t.calls_are;
  holds = stops_so phase known (meets (stop stops.EndOfInput) ∷ t.acts) (t.acts, refl, t.holds);
}

ends_otherwise : (phase : Phase) (end : End) → (IsClientsEnd end → ⊥) → (said : Said) (entries : List Entry) (all : Said) (found : End) →
    told.ending (owed_by phase) end said entries ≡ (all, ended found) → IsClientsEnd found → ⊥
ends_otherwise phase end other said entries all found is good =
    subst (λ (x : Said × Next). Holds Otherwise entries x.1) is ((ending_otherwise (owed_by phase) end other).at said entries) good

not_zero : (n : ℕ) → (suc n == 0) ≡ false
not_zero n = ne_eqb (suc n) 0 (λ e. omega arith)

waits_at : (phase : Phase) (rest : List ℕ) (said : Said) (entries : List Entry) (all : Said) (end : End) → told.waiting phase (length rest) said entries ≡ (all, ended end) →
    IsClientsEnd end → (known : Knowledge) → Does (Converses phase known (partial rest)) said entries all
waits_at phase rest said [] all end is good known = absurd (subst (λ (x : Said × Next). IsOver x.1) (sym is) tt)
waits_at phase [] said (stop stops.EndOfInput ∷ entries) all end is good known =
    stopped_at phase known said entries all ((ending_told (owed_by phase) ends.Closed).at said entries all end is good)
waits_at phase (byte ∷ bytes) said (stop stops.EndOfInput ∷ entries) all end is good known =
    absurd (ends_otherwise phase ends.Cut (λ good. good) said entries all end
    (subst (λ (b : Bool). told.ending (owed_by phase) (cond b ends.Closed ends.Cut) said entries ≡ (all, ended end)) (not_zero (length bytes)) is) good)
waits_at phase rest said (stop stops.ReadFault ∷ entries) all end is good known =
    absurd (ends_otherwise phase ends.ReadFault (λ good. good) said entries all end is good)
waits_at phase rest said (stop stops.Spent ∷ entries) all end is good known = absurd (ends_otherwise phase ends.Spent (λ good. good) said entries all end is good)
waits_at phase rest said (did a e ∷ entries) all end is good known = absurd (subst (λ (x : Said × Next). IsOver x.1) (sym is) tt)
waits_at phase rest said (refused why ∷ entries) all end is good known = absurd (subst (λ (x : Said × Next). IsOver x.1) (sym is) tt)
waits_at phase rest said (short final n ∷ entries) all end is good known = absurd (subst (λ (x : Said × Next). IsOver x.1) (sym is) tt)
waits_at phase rest said (unsent n ∷ entries) all end is good known = absurd (subst (λ (x : Said × Next). IsOver x.1) (sym is) tt)

waits : (phase : Phase) (known : Knowledge) (rest : List ℕ) → Told (Converses phase known (partial rest)) (told.waiting phase (length rest))
waits phase known rest = record { at = λ said entries all end is good. waits_at phase rest said entries all end is good known }

-- ---- the session

-- before a message the session may be out of memory, which ends it
goes_on : (R : List Act → Type 0) (phase : Phase) (rest : Script) → Told R rest → Told R (told.unless_memory_ends phase rest)
goes_on R phase rest h = final_told R (told.ending (owed_by phase) ends.Memory) rest (ending_otherwise (owed_by phase) ends.Memory (λ good. good)) h

-- bytes that are no messages end it too
faulted : (R : List Act → Type 0) (phase : Phase) (end : End) → (IsClientsEnd end → ⊥) → Told R (told.ending (owed_by phase) end)
faulted R phase end other = otherwise_told R (told.ending (owed_by phase) end) (ending_otherwise (owed_by phase) end other)

from_then : (requests : Requests) (state : TransactionState) (known : Knowledge) → Told (Converses (phases.Normal state) known requests) (told.session (phases.Normal state) known requests)
    × Told (Converses (phases.Discarding state) known requests) (told.session (phases.Discarding state) known requests)
from_then (asks asked requests) state known =
    let rest : Phase → Knowledge → Script = λ p k. told.session p k requests in
    let h : Goes requests rest = record { normal = λ s k. (from_then requests s k).0; skipping = λ s k. (from_then requests s k).1 } in (
      goes_on (Converses (phases.Normal state) known (asks asked requests)) (phases.Normal state) (told.serving asked state known rest)
          (serves asked requests rest h state known),
      goes_on (Converses (phases.Discarding state) known (asks asked requests)) (phases.Discarding state) (told.discarding asked state known rest)
          (discards asked requests rest h state known),
    )
from_then (partial rest) state known = (
  goes_on (Converses (phases.Normal state) known (partial rest)) (phases.Normal state) (told.waiting (phases.Normal state) (length rest))
      (waits (phases.Normal state) known rest),
  goes_on (Converses (phases.Discarding state) known (partial rest)) (phases.Discarding state) (told.waiting (phases.Discarding state) (length rest))
      (waits (phases.Discarding state) known rest),
)
from_then (faulty fault) state known = (
  goes_on (Converses (phases.Normal state) known (faulty fault)) (phases.Normal state) (told.ending (owed_by (phases.Normal state)) (ends.Protocol fault))
      (faulted (Converses (phases.Normal state) known (faulty fault)) (phases.Normal state) (ends.Protocol fault) (λ good. good)),
  goes_on (Converses (phases.Discarding state) known (faulty fault)) (phases.Discarding state) (told.ending (owed_by (phases.Discarding state)) (ends.Protocol fault))
      (faulted (Converses (phases.Discarding state) known (faulty fault)) (phases.Discarding state) (ends.Protocol fault) (λ good. good)),
)
from_then unread state known = (
  goes_on (Converses (phases.Normal state) known unread) (phases.Normal state) lost (lost_told (Converses (phases.Normal state) known unread)),
  goes_on (Converses (phases.Discarding state) known unread) (phases.Discarding state) lost (lost_told (Converses (phases.Discarding state) known unread)),
)

-- the opening of the session, its startup reply, and what follows
opens : (requests : Requests) (known : Knowledge) (rest : Script) → Told (Converses (phases.Normal ready.Idle) known requests) rest →
    Told (Converses phases.Startup known (asks start requests)) (told.opens rest)
opens requests known rest h =
    let R : List Act → Type 0 = Converses phases.Startup known (asks start requests) in
    ask_told R [] calls.Open (λ a. on_opened a (λ session. told.tells_startup session rest) (λ why. told.closed (refusal_end why))) (λ entry a is.
    opened_told (On R (acts.asks calls.Open entry ∷ [])) entry (λ session. told.tells_startup session rest) (λ why. told.closed (refusal_end why))
    (λ session gives. final_told (On R (acts.asks calls.Open entry ∷ [])) (told.closing ends.Memory) (tell (startup_reply session) (told.broken owes.Close) rest)
    (closing_otherwise ends.Memory (λ good. good))
    (told_more (Tells (startup_reply session) (Converses (phases.Normal ready.Idle) known requests)) (On R (acts.asks calls.Open entry ∷ []))
    (λ later it. (entry, session, later, gives, refl, it)) (tell (startup_reply session) (told.broken owes.Close) rest)
    (tell_first (startup_reply session) (Converses (phases.Normal ready.Idle) known requests) (told.broken owes.Close) rest (broken_ends owes.Close) h)))
    (λ why gives. refused_opening (On R (acts.asks calls.Open entry ∷ [])) why) a is)
  where
    refused_opening : (R : List Act → Type 0) (why : BookFault) → Told R (told.closed (refusal_end why))
    refused_opening R (faults.Full limit) = otherwise_told R (told.closed (ends.Refused states.S54000)) (closed_otherwise (ends.Refused states.S54000) (λ good. good))
    refused_opening R faults.Memory = otherwise_told R (told.closed ends.Memory) (closed_otherwise ends.Memory (λ good. good))

starting : (asked : Request) (requests : Requests) (known : Knowledge) (rest : Phase → Knowledge → Script) → Told (Converses phases.Startup known requests) (rest phases.Startup known) →
    Told (Converses (phases.Normal ready.Idle) known requests) (rest (phases.Normal ready.Idle) known) →
    Told (Converses phases.Startup known (asks asked requests)) (told.starting asked known rest)
starting encryption requests known rest before after =
    tell_first no_encryption (Converses phases.Startup known requests) (told.broken owes.Nothing) (rest phases.Startup known) (broken_ends owes.Nothing) before
starting start requests known rest before after = opens requests known (rest (phases.Normal ready.Idle) known) after
starting cancel requests known rest before after =
    otherwise_told (Converses phases.Startup known (asks cancel requests)) (told.closed ends.Cancelled) (closed_otherwise ends.Cancelled (λ good. good))
starting userless requests known rest before after =
    otherwise_told (Converses phases.Startup known (asks userless requests)) (told.closed (ends.Refused states.S28000))
    (closed_otherwise (ends.Refused states.S28000) (λ good. good))
starting version requests known rest before after =
    otherwise_told (Converses phases.Startup known (asks version requests)) (told.closed (ends.Refused states.S0A000))
    (closed_otherwise (ends.Refused states.S0A000) (λ good. good))
starting asked requests known rest before after = lost_told (Converses phases.Startup known (asks asked requests))

from_start : (requests : Requests) (known : Knowledge) → Told (Converses phases.Startup known requests) (told.session phases.Startup known requests)
from_start (asks asked requests) known =
    let rest : Phase → Knowledge → Script = λ p k. told.session p k requests in
    goes_on (Converses phases.Startup known (asks asked requests)) phases.Startup (told.starting asked known rest)
    (starting asked requests known rest (from_start requests known) (from_then requests ready.Idle known).0)
from_start (partial rest) known =
    goes_on (Converses phases.Startup known (partial rest)) phases.Startup (told.waiting phases.Startup (length rest)) (waits phases.Startup known rest)
from_start (faulty fault) known =
    goes_on (Converses phases.Startup known (faulty fault)) phases.Startup (told.ending (owed_by phases.Startup) (ends.Protocol fault))
    (faulted (Converses phases.Startup known (faulty fault)) phases.Startup (ends.Protocol fault) (λ good. good))
from_start unread known =
    goes_on (Converses phases.Startup known unread) phases.Startup lost (lost_told (Converses phases.Startup known unread))

pub converses : MessagesAreAnswered
unfolding told_is
converses level requests entries said end is good =
    let t = (from_start requests (at_start level)).at (record { bytes = []; calls = [] }) entries said end is good in
    record { acts = t.acts; entries_are = t.entries_are; bytes_are = t.bytes_are; calls_are = t.calls_are; is = t.holds }
