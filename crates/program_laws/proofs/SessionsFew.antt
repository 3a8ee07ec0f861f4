-- How many free calls a session makes.
use Rattle.std.proofs.Common.{◌≡◌, ◌≢◌, ◌≤◌, ◌+◌, ◌*◌, true, false, ℕ, suc, List, [], ◌∷◌, length, sym, subst, refl, arith}
use Rattle.cell_base.specs.declared.sql_state.SqlState.{SqlState}
use Rattle.cell_base.specs.declared.sql_state.SqlState.TheVariants as states
use Rattle.pg_framing.specs.declared.replies.TransactionState.{TransactionState}
use Rattle.pg_framing.specs.declared.replies.TransactionState.TheVariants as ready
use Rattle.sql_tree.specs.declared.statement.Statement.{Statement}
use Rattle.outcome_replies.specs.declared.description.RowDescription.TheVariants as described
use Rattle.block_machine.specs.Calls as calls
use Rattle.block_machine.specs.Knowledge.{Knowledge, at_start}
use Rattle.block_machine.specs.Replies.{ready_reply, empty_reply}
use Rattle.block_machine.specs.Messages as block_messages
use Rattle.block_machine.specs.Messages.{Outside, owed_between, block_at, before}
use Rattle.block_machine.specs.Script.{Entry, did, refused, short, unsent, stop, Said, Next, astray, Script}
use Rattle.block_machine.specs.declared.block.Block.{Block}
use Rattle.block_machine.specs.declared.block.Block.TheVariants.{Implicit, Regular, Failed}
use Rattle.block_machine.specs.declared.block.Owed.{Owed}
use Rattle.block_machine.specs.declared.block.Owed.TheVariants as owes
use Rattle.block_machine.specs.declared.end.End.{End}
use Rattle.block_machine.specs.declared.end.End.TheVariants as ends
use Rattle.block_machine.specs.declared.message.Message.{Message}
use Rattle.block_machine.specs.declared.message.Message.TheVariants as messages
use Rattle.session_core.specs.declared.phase.Phase.{Phase}
use Rattle.session_core.specs.declared.phase.Phase.TheVariants as phases
use Rattle.session_core.specs.Requests.{Request, encryption, cancel, start, userless, version, query, unread_query, terminate, sync, nothing, extended, function, Requests, asks, partial, faulty, unread}
use Rattle.session_core.specs.Replies.{no_encryption, startup_reply, fatal_reply}
use Rattle.session_core.specs.Told as told
use Rattle.session_core.specs.Told.{outside_of, owed_by, stop_end, told as told_is}
use Rattle.program_laws.specs.Free.{free_in, statements_in, most_for, most_free, FreeCallsAreFew}
use Rattle.program_laws.proofs.Scripts.{Few, weaker, lost_few, ask_any, ask_opened, tell_few, short_few}
use Rattle.program_laws.proofs.StatementsFew.{Surrounds, succeeds_at, fails_at, told_of}

-- ---- a message

-- so many are made by what stands outside a message
record Encloses (n : ℕ) (outside : Outside) : Type 0 where
  next : (state : TransactionState) (k : Knowledge) → Few n (outside.next state k)
  broken : (owed : Owed) → Few n (outside.broken owed)

readied : (n : ℕ) (outside : Outside) → Encloses n outside → (state : TransactionState) (known : Knowledge) → Few n (block_messages.readied state known outside)
readied n outside h state known =
    tell_few n (ready_reply state) (outside.broken (owed_between state)) (outside.next state known) (h.broken (owed_between state)) (h.next state known)

ending : (n : ℕ) (outside : Outside) → Encloses n outside → (block : Block) (known : Knowledge) → Few (suc n) (block_messages.ends block known outside)
ending n outside h (Implicit false) known = weaker n (suc n) _ (readied n outside h ready.Idle known) (omega arith)
ending n outside h (Implicit true) known = ask_any n calls.Commit (λ _. block_messages.readied ready.Idle known outside) (λ a. readied n outside h ready.Idle known)
ending n outside h Regular known = weaker n (suc n) _ (readied n outside h ready.Block known) (omega arith)
ending n outside h Failed known = weaker n (suc n) _ (readied n outside h ready.Failed known) (omega arith)

-- one for the end of a message, and two for each of its statements
abbrev room : ℕ → List Statement → ℕ
room n [] = suc n
room n (statement ∷ more) = suc (suc (room n more))

enough : (n : ℕ) (list : List Statement) → n ≤ room n list
enough n [] = omega arith
enough n (statement ∷ more) = let rest = enough n more in omega arith

room_is : (n : ℕ) (list : List Statement) → room n list ≡ 1 + 2 * length list + n
room_is n [] = omega arith
room_is n (statement ∷ more) = let rest = room_is n more in omega arith

statements : (n : ℕ) (outside : Outside) → Encloses n outside → (list : List Statement) (block : Block) (known : Knowledge) →
    Few (room n list) (block_messages.statements list block known outside)
statements n outside h [] block known = ending n outside h block known
statements n outside h (statement ∷ more) block known =
    told_of (room n more) (before more outside)
    (record {
      succeeded = λ b k. statements n outside h more b k;
      failed = λ state k. weaker n (room n more) _ (readied n outside h state k) (enough n more);
      broken = λ owed. weaker n (room n more) _ (h.broken owed) (enough n more);
    })
    described.Told statement block known

-- what stands around no statement
alone : (n : ℕ) (outside : Outside) → Encloses n outside → Surrounds (suc n) (before [] outside)
alone n outside h = record {
  succeeded = λ b k. statements n outside h [] b k;
  failed = λ state k. weaker n (suc n) _ (readied n outside h state k) (omega arith);
  broken = λ owed. weaker n (suc n) _ (h.broken owed) (omega arith);
}

opens : (n : ℕ) (outside : Outside) → Encloses n outside → (list : List Statement) (block : Block) (known : Knowledge) →
    Few (room n list) (block_messages.opens list block known outside)
opens n outside h [] block known = succeeds_at (suc n) (before [] outside) (alone n outside h) empty_reply block known
opens n outside h (statement ∷ more) block known = statements n outside h (statement ∷ more) block known

message : (n : ℕ) (outside : Outside) → Encloses n outside → (asked : Message) (state : TransactionState) (known : Knowledge) →
    Few (3 + 2 * statements_in asked + n) (block_messages.message asked state known outside)
message n outside h (messages.Unread code) state known =
    weaker (suc (suc n)) (3 + 2 * statements_in (messages.Unread code) + n) _
    (fails_at (suc n) (before [] outside) (alone n outside h) code (block_at state) known) (omega arith)
message n outside h (messages.Statements list) state known =
    weaker (room n list) (3 + 2 * statements_in (messages.Statements list) + n) _ (opens n outside h list (block_at state) known)
    (let size = room_is n list in omega arith)

-- ---- the ends of a session

done_few : (n : ℕ) (end : End) → Few n (told.done end)
done_few n end = record { at = at }
  where
    at : (said : Said) (entries : List Entry) → (told.done end said entries).1 ≢ astray → free_in entries ≤ n
    at said [] fine = omega arith
    at said (e ∷ entries) fine = absurd (fine refl)

fatal_few : (n : ℕ) (state : SqlState) (end : End) → Few n (told.fatal state end)
fatal_few n state end = tell_few n (fatal_reply state) (told.done ends.WriteFault) (told.done end) (done_few n ends.WriteFault) (done_few n end)

closed_few : (n : ℕ) (end : End) → Few n (told.closed end)
closed_few n (ends.Protocol fault) = fatal_few n states.S08P01 (ends.Protocol fault)
closed_few n (ends.Refused state) = fatal_few n state (ends.Refused state)
closed_few n ends.Spent = fatal_few n states.S54000 ends.Spent
closed_few n ends.Terminated = done_few n ends.Terminated
closed_few n ends.Closed = done_few n ends.Closed
closed_few n ends.Cut = done_few n ends.Cut
closed_few n ends.Cancelled = done_few n ends.Cancelled
closed_few n ends.ReadFault = done_few n ends.ReadFault
closed_few n ends.WriteFault = done_few n ends.WriteFault
closed_few n ends.Memory = done_few n ends.Memory

closing_few : (end : End) → Few 1 (told.closing end)
closing_few end = ask_any 0 calls.Close (λ _. told.closed end) (λ a. closed_few 0 end)

ending_two : (owed : Owed) (end : End) → Few 2 (told.ending owed end)
ending_two owes.Nothing end = closed_few 2 end
ending_two owes.Close end = weaker 1 2 _ (closing_few end) (omega arith)
ending_two owes.Rollback end = ask_any 1 calls.Rollback (λ _. told.closing end) (λ a. closing_few end)

ending_few : (n : ℕ) → 2 ≤ n → (owed : Owed) (end : End) → Few n (told.ending owed end)
ending_few n two owed end = weaker 2 n _ (ending_two owed end) two

-- ---- messages

-- so many are made by what follows a message
abbrev GoesFew : ℕ → (Phase → Knowledge → Script) → Type 0
GoesFew n rest = (phase : Phase) (known : Knowledge) → Few n (rest phase known)

encloses : (n : ℕ) → 2 ≤ n → (rest : Phase → Knowledge → Script) → GoesFew n rest → Encloses n (outside_of rest)
encloses n two rest few = record { next = λ state k. few (phases.Normal state) k; broken = λ owed. ending_few n two owed ends.WriteFault }

opens_few : (n : ℕ) → 2 ≤ n → (rest : Script) → Few n rest → Few (suc n) (told.opens rest)
opens_few n two rest few =
    ask_opened n calls.Open (λ session. told.tells_startup session rest) (λ why. told.closed (told.refusal_end why))
    (λ session. weaker n (suc n) _
    (short_few n true (told.closing ends.Memory) _ (weaker 1 n _ (closing_few ends.Memory) (omega (arith, two)))
    (tell_few n (startup_reply session) (told.broken owes.Close) rest (ending_few n two owes.Close ends.WriteFault) few)) (omega arith))
    (λ why. closed_few n (told.refusal_end why))

starting : (asked : Request) (n : ℕ) → 2 ≤ n → (known : Knowledge) (rest : Phase → Knowledge → Script) → GoesFew n rest →
    Few (most_for asked + n) (told.starting asked known rest)
starting encryption n two known rest few =
    weaker n (3 + n) _ (tell_few n no_encryption (told.broken owes.Nothing) (rest phases.Startup known) (ending_few n two owes.Nothing ends.WriteFault) (few phases.Startup known))
    (omega arith)
starting cancel n two known rest few = closed_few (3 + n) ends.Cancelled
starting start n two known rest few = weaker (suc n) (3 + n) _ (opens_few n two (rest (phases.Normal ready.Idle) known) (few (phases.Normal ready.Idle) known)) (omega arith)
starting userless n two known rest few = closed_few (3 + n) (ends.Refused states.S28000)
starting version n two known rest few = closed_few (3 + n) (ends.Refused states.S0A000)
starting asked n two known rest few = lost_few (most_for asked + n)

refuses : (n : ℕ) → 2 ≤ n → (state : TransactionState) (known : Knowledge) (rest : Phase → Knowledge → Script) → GoesFew n rest →
    Few (suc n) (told.refuses state known rest)
refuses n two state known rest few =
    fails_at n _
    (record {
      succeeded = λ b k. lost_few n;
      failed = λ after k. few (phases.Discarding after) k;
      broken = λ owed. ending_few n two owed ends.WriteFault;
    })
    states.S0A000 (block_at state) known

serving : (asked : Request) (n : ℕ) → 2 ≤ n → (state : TransactionState) (known : Knowledge) (rest : Phase → Knowledge → Script) → GoesFew n rest →
    Few (most_for asked + n) (told.serving asked state known rest)
serving (query asked) n two state known rest few = message n (outside_of rest) (encloses n two rest few) asked state known
serving unread_query n two state known rest few =
    short_few (3 + n) false (block_messages.message (messages.Unread states.S53200) state known (outside_of rest)) _
    (message n (outside_of rest) (encloses n two rest few) (messages.Unread states.S53200) state known) (lost_few (3 + n))
serving terminate n two state known rest few = ending_few (3 + n) (omega arith) (owed_between state) ends.Terminated
serving sync n two state known rest few = weaker n (3 + n) _ (readied n (outside_of rest) (encloses n two rest few) state known) (omega arith)
serving nothing n two state known rest few = weaker n (3 + n) _ (few (phases.Normal state) known) (omega arith)
serving extended n two state known rest few = weaker (suc n) (3 + n) _ (refuses n two state known rest few) (omega arith)
serving function n two state known rest few = message n (outside_of rest) (encloses n two rest few) (messages.Unread states.S0A000) state known
serving asked n two state known rest few = lost_few (most_for asked + n)

discarding : (asked : Request) (n : ℕ) → 2 ≤ n → (state : TransactionState) (known : Knowledge) (rest : Phase → Knowledge → Script) → GoesFew n rest →
    Few (most_for asked + n) (told.discarding asked state known rest)
discarding terminate n two state known rest few = ending_few (3 + n) (omega arith) (owed_between state) ends.Terminated
discarding sync n two state known rest few = weaker n (3 + n) _ (readied n (outside_of rest) (encloses n two rest few) state known) (omega arith)
discarding asked n two state known rest few = weaker n (most_for asked + n) _ (few (phases.Discarding state) known) (omega arith)

handled : (asked : Request) (n : ℕ) → 2 ≤ n → (phase : Phase) (known : Knowledge) (rest : Phase → Knowledge → Script) → GoesFew n rest →
    Few (most_for asked + n) (told.handled asked phase known rest)
handled asked n two phases.Startup known rest few = starting asked n two known rest few
handled asked n two (phases.Normal state) known rest few = serving asked n two state known rest few
handled asked n two (phases.Discarding state) known rest few = discarding asked n two state known rest few

-- ---- the whole stream

pub two_most : (requests : Requests) → 2 ≤ most_free requests
two_most (asks asked requests) = let rest = two_most requests in omega arith
two_most (partial rest) = omega arith
two_most (faulty fault) = omega arith
two_most unread = omega arith

unless_memory_ends : (n : ℕ) → 2 ≤ n → (phase : Phase) (rest : Script) → Few n rest → Few n (told.unless_memory_ends phase rest)
unless_memory_ends n two phase rest few = short_few n true (told.ending (owed_by phase) ends.Memory) rest (ending_few n two (owed_by phase) ends.Memory) few

waits : (phase : Phase) (held : ℕ) (said : Said) (entries : List Entry) → (told.waiting phase held said entries).1 ≢ astray → free_in entries ≤ 2
waits phase held said [] fine = omega arith
waits phase held said (stop cause ∷ entries) fine = (ending_two (owed_by phase) (stop_end cause held)).at said entries fine
waits phase held said (did a e ∷ entries) fine = absurd (fine refl)
waits phase held said (refused why ∷ entries) fine = absurd (fine refl)
waits phase held said (short final n ∷ entries) fine = absurd (fine refl)
waits phase held said (unsent n ∷ entries) fine = absurd (fine refl)

session_few : (requests : Requests) (phase : Phase) (known : Knowledge) → Few (most_free requests) (told.session phase known requests)
session_few (asks asked requests) phase known =
    unless_memory_ends (most_for asked + most_free requests) (two_most (asks asked requests)) phase _
    (handled asked (most_free requests) (two_most requests) phase known (λ p k. told.session p k requests) (λ p k. session_few requests p k))
session_few (partial rest) phase known = unless_memory_ends 2 (omega arith) phase (told.waiting phase (length rest)) (record { at = waits phase (length rest) })
session_few (faulty fault) phase known = unless_memory_ends 2 (omega arith) phase _ (ending_two (owed_by phase) (ends.Protocol fault))
session_few unread phase known = unless_memory_ends 2 (omega arith) phase _ (lost_few 2)

pub told_few : FreeCallsAreFew
unfolding told_is
told_few level requests entries said next is fine =
    (session_few requests phases.Startup (at_start level)).at (record { bytes = []; calls = [] }) entries
    (subst (λ (x : Said × Next). x.1 ≢ astray) (sym is) fine)
