-- What a client asks for and is told, message by message, in a session that ends as it says.
use Rattle.std.specs.Prelude.{◌≡◌, ◌⊎◌, ℕ, List, [], ◌∷◌, ◌++◌, true, false}
use Rattle.cell_base.specs.declared.level.Level.{Level}
use Rattle.cell_base.specs.declared.sql_state.SqlState.{SqlState}
use Rattle.cell_base.specs.declared.sql_state.SqlState.TheVariants as states
use Rattle.client_framing.specs.declared.frontend_message.FrontendMessage.{FrontendMessage}
use Rattle.client_framing.specs.declared.frontend_message.FrontendMessage.TheVariants.{Startup}
use Rattle.history_book.specs.Book.{Past}
use Rattle.pg_framing.specs.declared.replies.TransactionState.{TransactionState}
use Rattle.pg_framing.specs.declared.replies.TransactionState.TheVariants as ready
use Rattle.sql_tree.specs.declared.statement.Statement.{Statement}
use Rattle.block_machine.specs.Calls as calls
use Rattle.block_machine.specs.Knowledge.{Knowledge, at_start}
use Rattle.block_machine.specs.Messages.{owed_between, block_at}
use Rattle.block_machine.specs.Replies.{ready_reply, error_reply, empty_reply}
use Rattle.block_machine.specs.Script.{Entry, short, stop, Said, ended}
use Rattle.block_machine.specs.declared.block.Block.{Block}
use Rattle.block_machine.specs.declared.block.Block.TheVariants.{Implicit, Regular, Failed}
use Rattle.block_machine.specs.declared.block.Owed.{Owed}
use Rattle.block_machine.specs.declared.block.Owed.TheVariants as owes
use Rattle.block_machine.specs.declared.call.Answer.TheVariants as answers
use Rattle.block_machine.specs.declared.end.End.{End}
use Rattle.block_machine.specs.declared.end.End.TheVariants as ends
use Rattle.block_machine.specs.declared.end.Stop.TheVariants as stops
use Rattle.block_machine.specs.declared.message.Message.{Message}
use Rattle.block_machine.specs.declared.message.Message.TheVariants as messages
use Rattle.session_core.specs.declared.phase.Phase.{Phase}
use Rattle.session_core.specs.declared.phase.Phase.TheVariants as phases
use Rattle.session_core.specs.Replies.{no_encryption, startup_reply}
use Rattle.session_core.specs.Requests.{encryption, start, query, unread_query, terminate, sync, nothing, extended, function, Requests, asks, partial}
use Rattle.session_core.specs.Serve.{Scene, Account, Serves}
use Rattle.session_core.specs.Told.{told, owed_by}
use Rattle.session_core.specs.declared.served.Served.{Served}
use Rattle.session_laws.specs.Causes.{Has, LacksMemory}
use Rattle.session_laws.specs.Acts.{Act, tells, meets, entries_of, bytes_of, calls_of}
use Rattle.session_laws.specs.Acts as acts
use Rattle.session_laws.specs.Streams.{IsWholeStream}
use Rattle.session_laws.specs.Sessions.{IsUndisturbed, IsSentWhole, Hears, IsTurnedAway}
use Rattle.session_laws.specs.Replies.{Gives, IsAnswered, IsReply, GivesCode}

-- ---- one message

-- what is asked at the end of a message, whose own transaction is committed where one is pending; the state that ReadyForQuery tells
abbrev pub Finishes : Block → List Act → TransactionState → Type 0
Finishes (Implicit false) done state = (done ≡ []) × (state ≡ ready.Idle)
Finishes (Implicit true) done state = (entry : Entry) × IsAnswered entry × (done ≡ acts.asks calls.Commit entry ∷ []) × (state ≡ ready.Idle)
Finishes Regular done state = (done ≡ []) × (state ≡ ready.Block)
Finishes Failed done state = (done ≡ []) × (state ≡ ready.Failed)

-- what is asked before an error is told, since a transaction that is pending is rolled back; the state after it
abbrev pub RollsBack : Block → List Act → TransactionState → Type 0
RollsBack (Implicit false) done state = (done ≡ []) × (state ≡ ready.Idle)
RollsBack (Implicit true) done state = (entry : Entry) × IsAnswered entry × (done ≡ acts.asks calls.Rollback entry ∷ []) × (state ≡ ready.Idle)
RollsBack Regular done state = (entry : Entry) × IsAnswered entry × (done ≡ acts.asks calls.Rollback entry ∷ []) × (state ≡ ready.Failed)
RollsBack Failed done state = (done ≡ []) × (state ≡ ready.Failed)

-- Each statement succeeds and is told its reply, one after another; or one is told a code that it is given, and those after it are skipped. All that
-- was asked, met and told up to ReadyForQuery, the state that this tells, and what the session then knows.
pub data AreAnswered : Knowledge → Block → List Statement → List Act → TransactionState → Knowledge → Type 0 where
  none : (known : Knowledge) (block : Block) (done : List Act) (state : TransactionState) → Finishes block done state
      → AreAnswered known block [] done state known
  replied : (known knows at_end : Knowledge) (block after : Block) (s : Statement) (later : List Statement) (done more : List Act) (reply : List ℕ)
      (state : TransactionState) → IsReply known block s done reply after knows → AreAnswered knows after later more state at_end
      → AreAnswered known block (s ∷ later) (done ++ tells reply ∷ more) state at_end
  refused : (known knows : Knowledge) (block after : Block) (s : Statement) (later : List Statement) (done undone : List Act) (code : SqlState)
      (state : TransactionState) → GivesCode known block s done code after knows → RollsBack after undone state
      → AreAnswered known block (s ∷ later) (done ++ (undone ++ tells (error_reply code) ∷ [])) state knows

-- a message that isn't read is told its code, also in a failed block
abbrev pub IsRefused : Block → SqlState → List Act → TransactionState → Type 0
IsRefused block code done state = (undone : List Act) × RollsBack block undone state × (done ≡ undone ++ tells (error_reply code) ∷ [])

-- what a query message is told, but for the ReadyForQuery at its end
abbrev pub IsAnswer : Knowledge → Block → Message → List Act → TransactionState → Knowledge → Type 0
IsAnswer known block (messages.Statements []) done state knows =
    (last : List Act) × Finishes block last state × (done ≡ tells empty_reply ∷ last) × (knows ≡ known)
IsAnswer known block (messages.Statements (s ∷ more)) done state knows = AreAnswered known block (s ∷ more) done state knows
IsAnswer known block (messages.Unread code) done state knows = IsRefused block code done state × (knows ≡ known)

-- ---- all of them

-- what is told next, and what is done after it
abbrev pub Tells : List ℕ → (List Act → Type 0) → List Act → Type 0
Tells first Rest done = (later : List Act) × (done ≡ tells first ∷ later) × Rest later

-- what this message is told, ReadyForQuery, and what is done after it, by the state that this tells and what the session then knows
abbrev pub Answers : Knowledge → Block → Message → (TransactionState → Knowledge → List Act → Type 0) → List Act → Type 0
Answers known block message Rest done =
    (answer : List Act) × (later : List Act) × (state : TransactionState) × (knows : Knowledge) × IsAnswer known block message answer state knows
    × (done ≡ answer ++ tells (ready_reply state) ∷ later) × Rest state knows later

-- the calls that end a session, by what it owes its book
abbrev pub Closes : Owed → List Act → Type 0
Closes owes.Nothing done = done ≡ []
Closes owes.Close done = (entry : Entry) × IsAnswered entry × (done ≡ acts.asks calls.Close entry ∷ [])
Closes owes.Rollback done =
    (first : Entry) × (last : Entry) × IsAnswered first × IsAnswered last × (done ≡ acts.asks calls.Rollback first ∷ acts.asks calls.Close last ∷ [])

-- What is done in a session that stands here and knows this, of its requests, one after another, to the end that its client says: Terminate, or no
-- more input between two messages.
abbrev pub Converses : Phase → Knowledge → Requests → List Act → Type 0
Converses phases.Startup known (asks encryption requests) done = Tells no_encryption (Converses phases.Startup known requests) done
Converses phases.Startup known (asks start requests) done =
    (entry : Entry) × (session : ℕ) × (later : List Act) × Gives entry (answers.Opened session) × (done ≡ acts.asks calls.Open entry ∷ later)
    × Tells (startup_reply session) (Converses (phases.Normal ready.Idle) known requests) later
Converses (phases.Normal state) known (asks (query message) requests) done =
    Answers known (block_at state) message (λ after knows. Converses (phases.Normal after) knows requests) done
Converses (phases.Normal state) known (asks unread_query requests) done =
    (told : ℕ) × (later : List Act) × (done ≡ meets (short false told) ∷ later)
    × Answers known (block_at state) (messages.Unread states.S53200) (λ after knows. Converses (phases.Normal after) knows requests) later
Converses (phases.Normal state) known (asks sync requests) done = Tells (ready_reply state) (Converses (phases.Normal state) known requests) done
Converses (phases.Normal state) known (asks nothing requests) done = Converses (phases.Normal state) known requests done
Converses (phases.Normal state) known (asks extended requests) done =
    (first : List Act) × (later : List Act) × (after : TransactionState) × IsRefused (block_at state) states.S0A000 first after × (done ≡ first ++ later)
    × Converses (phases.Discarding after) known requests later
Converses (phases.Normal state) known (asks function requests) done =
    Answers known (block_at state) (messages.Unread states.S0A000) (λ after knows. Converses (phases.Normal after) knows requests) done
Converses (phases.Normal state) known (asks terminate requests) done = Closes (owed_between state) done
Converses (phases.Discarding state) known (asks terminate requests) done = Closes (owed_between state) done
Converses (phases.Discarding state) known (asks sync requests) done = Tells (ready_reply state) (Converses (phases.Normal state) known requests) done
Converses (phases.Discarding state) known (asks _ requests) done = Converses (phases.Discarding state) known requests done
Converses phase known (partial []) done = (last : List Act) × (done ≡ meets (stop stops.EndOfInput) ∷ last) × Closes (owed_by phase) last
Converses phase known _ done = ⊥

-- What a client was told and what its session asked are those of a conversation whose acts hold the whole record, in order.
pub record Conversation (level : Level) (requests : Requests) (entries : List Entry) (said : Said) : Type 0 where
  pub acts : List Act
  pub entries_are : entries ≡ entries_of acts
  pub bytes_are : said.bytes ≡ bytes_of acts
  pub calls_are : said.calls ≡ calls_of acts
  pub is : Converses phases.Startup (at_start level) requests acts

-- an end that a client has in mind: Terminate, or no more input between two messages
abbrev pub IsClientsEnd : End → Type 0
IsClientsEnd ends.Terminated = Unit {0}
IsClientsEnd ends.Closed = Unit {0}
IsClientsEnd _ = ⊥

-- So it is of each session that ends as its client said, whatever became of its calls and of memory.
abbrev pub MessagesAreAnswered : Type 0
MessagesAreAnswered =
    (level : Level) (requests : Requests) (entries : List Entry) (said : Said) (end : End)
    → told level requests entries ≡ (said, ended end) → IsClientsEnd end → Conversation level requests entries said

-- The session ended as its client said, heard all its messages and answered each of them; or memory ran out where no session goes on; or the history
-- had no room for a session.
abbrev pub IsAnsweredWhole : Level → End → List FrontendMessage → End → Requests → Past → Account → Type 0
IsAnsweredWhole level said fronts end requests past account =
    ((end ≡ said) × Hears fronts requests × Conversation level requests account.entries (record { bytes = account.sent; calls = account.calls }))
    ⊎ (((end ≡ ends.Memory) × Has LacksMemory account.entries)
    ⊎ ((end ≡ ends.Refused states.S54000) × IsTurnedAway past account))

-- A session was served over a link that told its bytes and counted no fault, and these bytes are all that a client has to say: then all that it was
-- told was written, and so it is.
abbrev pub ServedMessagesAreAnswered : {W : Type 0} → (W → ℕ → W → Type 0) → Type 0
ServedMessagesAreAnswered {W} gives =
    (level : Level) (before : Scene W) (outcome : Served) (after : Scene W) (account : Account) (end : End) (bytes : List ℕ)
    → (s : Serves gives level before outcome after account) → (w : IsWholeStream end bytes) → IsUndisturbed bytes before.link after.link
    → IsSentWhole account before.link after.link
    × IsAnsweredWhole level end (w.encryption ++ Startup w.pairs ∷ w.messages) outcome.end s.requests after.past account
