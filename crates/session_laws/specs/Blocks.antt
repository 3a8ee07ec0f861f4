-- What a client sees of its blocks: no statement is told that its block has failed before anything of this block was told an error.
use Rattle.std.specs.Prelude.{◌≡◌, ◌⊎◌, ℕ, List, [], ◌∷◌, ◌++◌, Ok, Err}
use Rattle.cell_base.specs.declared.level.Level.{Level}
use Rattle.cell_base.specs.declared.sql_state.SqlState.{SqlState}
use Rattle.cell_base.specs.declared.sql_state.SqlState.TheVariants as states
use Rattle.pg_framing.specs.declared.replies.TransactionState.{TransactionState}
use Rattle.pg_framing.specs.declared.replies.TransactionState.TheVariants as ready
use Rattle.sql_tree.specs.declared.statement.CreateTable.{CreateTable}
use Rattle.sql_tree.specs.declared.statement.Statement.{Statement}
use Rattle.sql_tree.specs.declared.statement.Statement.TheVariants as tree
use Rattle.sql_tree.specs.declared.table.Table.{Table}
use Rattle.sql_tree.specs.declared.typed.Typed.{Typed}
use Rattle.typing_rules.specs.Building.{built}
use Rattle.typing_rules.specs.Typed.{typed}
use Rattle.statement_course.specs.declared.demand.Outcome.TheVariants as outcomes
use Rattle.statement_course.specs.Course.{done}
use Rattle.statement_course.specs.Statements.{course_of}
use Rattle.block_machine.specs.Knowledge.{Knowledge, at_start}
use Rattle.block_machine.specs.Messages.{block_at}
use Rattle.block_machine.specs.declared.block.Block.{Block}
use Rattle.block_machine.specs.declared.message.Message.{Message}
use Rattle.block_machine.specs.declared.message.Message.TheVariants as messages
use Rattle.session_core.specs.declared.phase.Phase.{Phase}
use Rattle.session_core.specs.declared.phase.Phase.TheVariants as phases
use Rattle.session_core.specs.Requests.{encryption, cancel, start, userless, version, query, unread_query, terminate, sync, nothing, extended, function, Requests, asks, partial, faulty, unread}
use Rattle.session_laws.specs.Acts.{Act}
use Rattle.session_laws.specs.Replies.{Runs, StandsAlone}
use Rattle.session_laws.specs.Conversations.{AreAnswered, none, replied, refused, IsAnswer, Answers, Converses}

-- ---- what a client sees

-- of a statement that wasn't skipped, or of a message that isn't one of statements
pub data Exchange : Type 0 where
  -- the statement was told its reply
  succeeded : Statement → Exchange
  -- the statement was told this code
  failed : Statement → SqlState → Exchange
  -- a message was told an error before any statement of it
  refused_message : Exchange

abbrev pub exchanges_in : (known : Knowledge) (block : Block) (xs : List Statement) (acts : List Act) (state : TransactionState) (knows : Knowledge)
    → AreAnswered known block xs acts state knows → List Exchange
exchanges_in _ _ _ _ _ _ (none known block acts state is) = []
exchanges_in _ _ _ _ _ _ (replied known knows at_end block after s later acts more reply state is rest) =
    succeeded s ∷ exchanges_in knows after later more state at_end rest
exchanges_in _ _ _ _ _ _ (refused known knows block after s later acts undone code state is rolls) = failed s code ∷ []

abbrev pub exchanges_of_message : (known : Knowledge) (block : Block) (message : Message) (acts : List Act) (state : TransactionState) (knows : Knowledge)
    → IsAnswer known block message acts state knows → List Exchange
exchanges_of_message known block (messages.Statements []) acts state knows is = []
exchanges_of_message known block (messages.Statements (s ∷ more)) acts state knows is = exchanges_in known block (s ∷ more) acts state knows is
exchanges_of_message known block (messages.Unread code) acts state knows is = refused_message ∷ []

-- all of a conversation, in order
abbrev pub exchanges_of : (phase : Phase) (known : Knowledge) (requests : Requests) (acts : List Act) → Converses phase known requests acts → List Exchange
exchanges_of phases.Startup known (asks encryption requests) acts is = exchanges_of phases.Startup known requests is.0 is.2
exchanges_of phases.Startup known (asks start requests) acts is = exchanges_of (phases.Normal ready.Idle) known requests is.5.0 is.5.2
exchanges_of (phases.Normal state) known (asks (query message) requests) acts is =
    exchanges_of_message known (block_at state) message is.0 is.2 is.3 is.4 ++ exchanges_of (phases.Normal is.2) is.3 requests is.1 is.6
exchanges_of (phases.Normal state) known (asks unread_query requests) acts is =
    refused_message ∷ exchanges_of (phases.Normal is.3.2) is.3.3 requests is.3.1 is.3.6
exchanges_of (phases.Normal state) known (asks sync requests) acts is = exchanges_of (phases.Normal state) known requests is.0 is.2
exchanges_of (phases.Normal state) known (asks nothing requests) acts is = exchanges_of (phases.Normal state) known requests acts is
exchanges_of (phases.Normal state) known (asks extended requests) acts is = refused_message ∷ exchanges_of (phases.Discarding is.2) known requests is.1 is.5
exchanges_of (phases.Normal state) known (asks function requests) acts is =
    refused_message ∷ exchanges_of (phases.Normal is.2) is.3 requests is.1 is.6
exchanges_of (phases.Discarding state) known (asks sync requests) acts is = exchanges_of (phases.Normal state) known requests is.0 is.2
exchanges_of (phases.Discarding state) known (asks terminate requests) acts is = []
exchanges_of (phases.Discarding state) known (asks _ requests) acts is = exchanges_of (phases.Discarding state) known requests acts is
exchanges_of phase known requests acts is = []

-- ---- its block

-- outside of a block that it began itself; in one of which nothing was told an error; in one of which something was
pub data Standing : Type 0 where
  outside : Standing
  inside : Standing
  broken : Standing

abbrev pub begun_from : Standing → Standing
begun_from outside = inside
begun_from inside = inside
begun_from broken = broken

abbrev pub after_success : Standing → Statement → Standing
after_success standing (tree.Begin word) = begun_from standing
after_success standing tree.Commit = outside
after_success standing tree.Rollback = outside
after_success standing _ = standing

abbrev pub after_error : Standing → Standing
after_error outside = outside
after_error inside = broken
after_error broken = broken

abbrev pub stands_after : Standing → Exchange → Standing
stands_after standing (succeeded s) = after_success standing s
stands_after standing (failed s code) = after_error standing
stands_after standing refused_message = after_error standing

-- a code that a statement is given by its types, by the rows that it finds, or by the definition of its table
pub data IsOwnCode : Statement → SqlState → Type 0 where
  untyped : (tables : List Table) (s : Statement) (code : SqlState) → typed tables s ≡ Err code → IsOwnCode s code
  comes_to : (known knows : Knowledge) (block after : Block) (s : Statement) (acts : List Act) (code : SqlState)
      → Runs known block s acts after knows (done (outcomes.Failed code)) → IsOwnCode s code
  comes_to_alone : (s : Statement) (t : Typed) (code : SqlState) → StandsAlone s → typed [] s ≡ Ok t → course_of [] t ≡ done (outcomes.Failed code)
      → IsOwnCode s code
  unbuilt : (create : CreateTable) (code : SqlState) → built create ≡ Err code → IsOwnCode (tree.Create create) code

-- 25P02 is told where something of the block was told an error, or it is the statement's own code
abbrev pub IsDue : Standing → Exchange → Type 0
IsDue standing (failed s states.S25P02) = (standing ≡ broken) ⊎ IsOwnCode s states.S25P02
IsDue standing _ = Unit {0}

abbrev pub AreDue : Standing → List Exchange → Type 0
AreDue standing [] = Unit {0}
AreDue standing (exchange ∷ later) = IsDue standing exchange × AreDue (stands_after standing exchange) later

-- so it is in each conversation of a session
abbrev pub BlocksFailByErrors : Type 0
BlocksFailByErrors =
    (level : Level) (requests : Requests) (acts : List Act) (c : Converses phases.Startup (at_start level) requests acts)
    → AreDue outside (exchanges_of phases.Startup (at_start level) requests acts c)
